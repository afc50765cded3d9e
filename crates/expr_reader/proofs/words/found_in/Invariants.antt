use Rattle.std.proofs.Common.{◌≡◌, drop}
use Rattle.expr_reader.specs.Words as words
use Rattle.expr_reader.proofs.words.found_in.Given as goal

abbrev pub invariant-loop-word : goal.invariant-loop-word
invariant-loop-word l = words.found_in (drop l.word-index l.words) l.bytes ≡ words.found_in l.words l.bytes
