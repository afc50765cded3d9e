use Rattle.std.proofs.Common.{◌≡◌, ◌+◌, ◌≤◌, length}
use Rattle.std.specs.List.{list_all}
use Rattle.std.specs.Option.{option_copied}
use Rattle.trace_text.specs.Grammar.{is_numeral, steps_of}
use Rattle.trace_text.specs.Steps.{steps_left}
use Rattle.trace_text.proofs.Paths.{rest_len}
use Rattle.trace_text.proofs.values.is_path.Given as goal

abbrev pub invariant-loop-rest : goal.invariant-loop-rest
invariant-loop-rest l = record {
  few : l.count ≤ 8;
  steps : l.count + length (steps_left (option_copied l.rest)) ≡ length (steps_of l.text);
  numerals : list_all is_numeral (steps_of l.text) ≡ list_all is_numeral (steps_left (option_copied l.rest));
}

abbrev pub decreases-loop-rest : goal.decreases-loop-rest
decreases-loop-rest l = rest_len (option_copied l.rest)
