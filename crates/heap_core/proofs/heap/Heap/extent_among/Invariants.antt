use Rattle.std.proofs.Common.{◌≡◌, take, sum_by}
use Rattle.heap_core.specs.Heap.{extent_len}
use Rattle.heap_core.proofs.heap.Heap.extent_among.Given as goal

abbrev pub invariant-loop-named : goal.invariant-loop-named
invariant-loop-named g l = l.total ≡ sum_by (extent_len (g.L.Layer.model l.self.root)) (take l.named-index l.others)
