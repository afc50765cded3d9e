use Rattle.std.proofs.Common.{◌≡◌, ◌+◌, slice_range}
use Rattle.heap_core.proofs.heap.bytes_at.Given as goal

abbrev pub invariant-loop-k : goal.invariant-loop-k
invariant-loop-k l = l.bytes ≡ slice_range l.space.bytes l.place (l.place + l.k)
