use Rattle.std.proofs.Common.{◌≡◌, ◌∷◌, arith, sym}
use Rattle.std.proofs.lemmas.Grind.{common_steps}
use Rattle.std.specs.Option.{option_copied}
use Rattle.trace_text.specs.Steps.{steps_left}
use Rattle.trace_text.proofs.Paths.{path_err, step_numerals, step_small, step_so_far}
use Rattle.trace_text.proofs.values.read_path.Goals as goal

pub returns-in_err-step : goal.returns-in_err-step
returns-in_err-step c =
    let cut : steps_left (option_copied c.loop-rest.rest) ≡ c.cut_step.result.0.now ∷ steps_left (option_copied c.cut_step.result.1) = rw c.in-Some.is c.cut_step.ensures.steps in
    let err = path_err c.args.field.column c.args.field.text.now c.cut_step.result.0.now _ _ c.in_err-step.field-0.0 cut (sym c.if-not-is_path.ensures) c.loop-rest.invariant.small
    c.loop-rest.invariant.numerals (sym (rw c.from.ensures at c.in_err-step.ensures.read)) in
    grind (arith, common_steps, err)

pub loop-rest-preserved : goal.loop-rest-preserved
loop-rest-preserved c =
    let cut : steps_left (option_copied c.loop-rest.rest) ≡ c.cut_step.result.0.now ∷ steps_left (option_copied c.cut_step.result.1) = rw c.in-Some.is c.cut_step.ensures.steps in
    let small = step_small c.args.field.column c.in_ok-step.step c.cut_step.result.0.now _ _ cut (sym (rw c.from.ensures at c.in_ok-step.ensures.read)) in
    let so_far = step_so_far c.args.field.column c.in_ok-step.step c.loop-rest.path c.cut_step.result.0.now _ _ cut (sym (rw c.from.ensures at c.in_ok-step.ensures.read)) in
    record {
      room = grind (arith, common_steps, cut);
      numerals = step_numerals c.cut_step.result.0.now _ _ cut c.loop-rest.invariant.numerals;
      small = grind (arith, common_steps, small);
      so_far = grind (arith, common_steps, cut, so_far);
    }
