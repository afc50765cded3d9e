use Rattle.std.proofs.Common.{◌≡◌, ◌^◌, ◌<◌, take}
use Rattle.std.specs.Str.Parse.{AllDigits, digits_value}
use Rattle.expr_reader.proofs.lexing.number.Given as goal

abbrev pub invariant-loop-digit : goal.invariant-loop-digit
invariant-loop-digit l = record { fits : l.value < 2 ^ 64; digits : AllDigits 10 (take l.digit-index l.digits); so_far : l.value ≡ digits_value 10 (take l.digit-index l.digits) }
