use Rattle.std.proofs.Common.{◌≡◌, ◌++◌, drop}
use Rattle.std.specs.Prelude.{string_bytes}
use Rattle.expr_reader.specs.Printing.{parts_text}
use Rattle.expr_reader.proofs.printing.+print.Given as goal

abbrev pub invariant-put_members-loop-part : goal.invariant-put_members-loop-part
invariant-put_members-loop-part l = string_bytes l.out ++ parts_text (drop l.part-index l.part-items) ≡ string_bytes l.fn.out ++ parts_text l.part-items
