use Rattle.std.proofs.Common.{◌≢◌, ◌∙◌, arith, get_or}
use Rattle.std.proofs.lemmas.Grind.{common_steps}
use Rattle.play_core.proofs.Numbers.{number_none, number_some, plain_parsed}
use Rattle.play_core.proofs.words.read_number.Goals as goal

pub returns-in_err-number-clause-number : goal.returns-in_err-number-clause-number
returns-in_err-number-clause-number c =
    let byte = c.starts_with.ensures.byte (omega arith) (omega arith) (λ w o h. h) in
    let plain : get_or c.args.digits.now 0 0 ≢ 43 = grind (arith, common_steps, byte, c.if-starts_with.false) in
    c.from_residual.ensures ∙ number_none c.args.most c.args.digits.now c.parse.result (omega (arith, c.ranges.most.fits)) (plain_parsed c.args.digits.now c.parse.result c.parse.ensures.value.0 plain) c.in_err-number.ensures.value

pub returns-then-number-most-clause-number : goal.returns-then-number-most-clause-number
returns-then-number-most-clause-number c =
    let byte = c.starts_with.ensures.byte (omega arith) (omega arith) (λ w o h. h) in
    let plain : get_or c.args.digits.now 0 0 ≢ 43 = grind (arith, common_steps, byte, c.if-starts_with.false) in
    number_some c.args.most c.in_ok-number.number c.args.digits.now c.parse.result (plain_parsed c.args.digits.now c.parse.result c.parse.ensures.value.0 plain) c.in_ok-number.ensures.value c.if-number-ge1.true c.if-number-most.true
