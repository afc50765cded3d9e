use Rattle.std.proofs.Common.{◌≡◌, ◌++◌, drop}
use Rattle.std.specs.Prelude.{string_bytes}
use Rattle.expr_reader.specs.Printing.{numerals}
use Rattle.expr_reader.proofs.printing.put_numbers.Given as goal

abbrev pub invariant-loop-number : goal.invariant-loop-number
invariant-loop-number l = string_bytes l.out ++ numerals (drop l.number-index l.numbers) ≡ string_bytes l.fn.out ++ numerals l.numbers
