use Rattle.owned_heap.specs.Owned.{DeallocatesAllIn}
use Rattle.owned_heap.proofs.heap.OwnedHeap.deallocate_all.Goals as goal

pub returns-clause-rule : goal.returns-clause-rule
unfolding DeallocatesAllIn
returns-clause-rule g c = rw (← c.self.view_is) c.deallocate_all.ensures
