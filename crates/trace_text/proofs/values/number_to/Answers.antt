use Rattle.std.proofs.Common.{◌≡◌, ◌≤◌, length, sym, arith, inl, inr}
use Rattle.std.proofs.lemmas.List.Sums.{prefix_len-le-length}
use Rattle.std.specs.Char.{is_ascii_digit}
use Rattle.trace_text.specs.Grammar.{most_number}
use Rattle.trace_text.proofs.Numbers.{number_bad, number_fits, number_large, number_huge}
use Rattle.trace_text.proofs.values.number_to.Goals as goal
use Rattle.trace_text.proofs.values.number_to.Goals.{then-len-eq0-via-then-len-eq0, then-len-eq0-via-else-len-eq0+then-len-field}

pub returns-then-len-eq0-clause-read : goal.returns-then-len-eq0-clause-read
returns-then-len-eq0-clause-read c =
    sym (number_bad c.args.most c.args.field.column c.leading_number-len.result.0 c.args.field.text.now c.leading_number-len.ensures.len (elim c.then-len-eq0.branch [
      | then-len-eq0-via-then-len-eq0 w ↦ inl w.if-len-eq0.true
      | then-len-eq0-via-else-len-eq0+then-len-field w ↦ inr w.if-len-field.true
    ]))

pub returns-in-Some-clause-read : goal.returns-in-Some-clause-read
returns-in-Some-clause-read c =
    let all : c.leading_number-len.result.0 ≡ length c.args.field.text.now = omega (arith, prefix_len-le-length is_ascii_digit c.args.field.text.now) in
    sym (number_fits c.args.most c.args.field.column _ c.in-Some.number c.args.field.text.now _ c.leading_number-len.ensures.len c.if-len-eq0.false all c.leading_number-len.ensures.number c.in-Some.is c.if-number-most.true)

pub returns-in_default-clause-read : goal.returns-in_default-clause-read
returns-in_default-clause-read c =
    let all : c.leading_number-len.result.0 ≡ length c.args.field.text.now = omega (arith, prefix_len-le-length is_ascii_digit c.args.field.text.now) in
    sym (number_large c.args.most c.args.field.column _ c.in-Some.number c.args.field.text.now _ c.leading_number-len.ensures.len c.if-len-eq0.false all c.leading_number-len.ensures.number c.in-Some.is c.if-number-most.false)

pub returns-in_default-2-clause-read : goal.returns-in_default-2-clause-read
returns-in_default-2-clause-read c =
    let all : c.leading_number-len.result.0 ≡ length c.args.field.text.now = omega (arith, prefix_len-le-length is_ascii_digit c.args.field.text.now) in
    let few : c.args.most ≤ most_number = omega (arith, c.ranges.most) in
    sym (number_huge c.args.most c.args.field.column _ c.args.field.text.now _ c.leading_number-len.ensures.len c.if-len-eq0.false all c.leading_number-len.ensures.number c.in_default.is few)
