use Rattle.std.proofs.Common.{◌≡◌, take}
use Rattle.space_core.specs.Words.{write_from}
use Rattle.heap_core.proofs.heap.put_bytes.Given as goal

abbrev pub invariant-loop-k : goal.invariant-loop-k
invariant-loop-k l = l.space ≡ record l.initial.space { bytes = write_from l.initial.space.bytes l.place (take l.k l.bytes) }
