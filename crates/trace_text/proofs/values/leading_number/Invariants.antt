use Rattle.std.proofs.Common.{◌≡◌, ◌+◌, ◌-◌, ◌≤◌, length, take, drop}
use Rattle.std.specs.Char.{is_ascii_digit}
use Rattle.std.specs.List.{prefix_len}
use Rattle.std.specs.Option.{SomeIff}
use Rattle.std.specs.Str.Parse.{digits_value}
use Rattle.trace_text.specs.Grammar.{most_number}
use Rattle.trace_text.proofs.values.leading_number.Given as goal

abbrev pub invariant-loop-len : goal.invariant-loop-len
invariant-loop-len l = record {
  within : l.len ≤ length l.text;
  digits : l.len + prefix_len is_ascii_digit (drop l.len l.text) ≡ prefix_len is_ascii_digit l.text;
  number : SomeIff l.number (digits_value 10 (take l.len l.text) ≤ most_number) (digits_value 10 (take l.len l.text));
}

abbrev pub decreases-loop-len : goal.decreases-loop-len
decreases-loop-len l = length l.text - l.len
