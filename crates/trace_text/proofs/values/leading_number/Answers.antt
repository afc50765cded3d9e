use Rattle.std.proofs.Common.{◌≡◌, true, get_or, sym, ◌∙◌, arith}
use Rattle.std.proofs.lemmas.Int.Digits.{digits_value_more}
use Rattle.std.proofs.lemmas.List.Sums.{prefix_len-drop_yes}
use Rattle.std.specs.Char.{is_ascii_digit}
use Rattle.trace_text.proofs.Numbers.{more_digits}
use Rattle.trace_text.proofs.values.leading_number.Goals as goal

pub loop-len-preserved : goal.loop-len-preserved
loop-len-preserved c =
    let digit : is_ascii_digit (get_or c.args.text.now c.loop-len.len 0) ≡ true = sym c.is_ascii_digit.ensures.value ∙ c.if-is_ascii_digit.true in
    record {
      within = omega arith;
      digits = omega (arith, prefix_len-drop_yes is_ascii_digit c.args.text.now c.loop-len.len 0 c.loop-len-test.true digit);
      number = rw (digits_value_more 10 c.args.text.now c.loop-len.len c.loop-len-test.true)
          (more_digits c.loop-len.number c.with_digit-number.result _ _ c.loop-len.invariant.number c.with_digit-number.ensures.more c.with_digit-number.ensures.none);
    }
