use Rattle.std.proofs.Common.{◌≡◌, ◌+◌, ◌++◌, ◌≤◌, true, length, map}
use Rattle.std.specs.List.{list_all}
use Rattle.std.specs.Option.{option_copied}
use Rattle.std.specs.Str.Parse.{digits_value}
use Rattle.trace_text.specs.Grammar.{is_numeral, is_step, steps_of}
use Rattle.trace_text.specs.Steps.{steps_left}
use Rattle.trace_text.proofs.Paths.{rest_len}
use Rattle.trace_text.proofs.values.read_path.Given as goal

abbrev pub invariant-loop-rest : goal.invariant-loop-rest
invariant-loop-rest l = record {
  room : length l.path + length (steps_left (option_copied l.rest)) ≤ 8;
  numerals : list_all is_numeral (steps_left (option_copied l.rest)) ≡ true;
  small : list_all is_step (steps_of l.field.text.now) ≡ list_all is_step (steps_left (option_copied l.rest));
  so_far : l.path ++ map (digits_value 10) (steps_left (option_copied l.rest)) ≡ map (digits_value 10) (steps_of l.field.text.now);
}

abbrev pub decreases-loop-rest : goal.decreases-loop-rest
decreases-loop-rest l = rest_len (option_copied l.rest)
