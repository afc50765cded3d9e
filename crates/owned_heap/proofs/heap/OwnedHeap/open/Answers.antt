use Rattle.owned_heap.specs.Plans.{begun_in}
use Rattle.owned_heap.proofs.Planning.{opened-well}
use Rattle.owned_heap.proofs.heap.OwnedHeap.open.Goals as goal

pub returns-clause-ok : goal.returns-clause-ok
unfolding begun_in
returns-clause-ok g c = opened-well _ _ _ _ _ c.in_ok-set_up.ensures.answer
