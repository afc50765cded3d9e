use Rattle.std.proofs.Common.{◌≡◌, ◌+◌, drop}
use Rattle.space_core.specs.Words.{write_from}
use Rattle.space_core.proofs.words.write_word.Given as goal

abbrev pub invariant-loop-k : goal.invariant-loop-k
invariant-loop-k l = write_from l.bytes (l.at + l.k) (drop l.k l.low_first) ≡ write_from l.initial.bytes l.at l.low_first
