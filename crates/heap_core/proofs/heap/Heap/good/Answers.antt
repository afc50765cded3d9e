use Rattle.heap_core.proofs.Asking.{good-said}
use Rattle.heap_core.proofs.heap.Heap.good.Goals as goal

pub returns : goal.returns
returns g c = good-said _ _ _ _ _ c.requires c.good_alloc_size-good.ensures.good
