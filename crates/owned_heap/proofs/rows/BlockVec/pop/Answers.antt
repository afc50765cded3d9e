use Rattle.owned_heap.proofs.RowCalls.{last-gone-are, last-gone-rows}
use Rattle.owned_heap.proofs.rows.BlockVec.pop.Goals as goal

pub invariant_of-self : goal.invariant_of-self
invariant_of-self g c =
    last-gone-are c.self.inside.heap c.deallocate.new.self c.take_last-block.result c.deallocate.ensures.events c.deallocate.ensures.others _ _ c.self.invariant c.take_last-block.ensures.items

pub returns-clause-rows : goal.returns-clause-rows
returns-clause-rows g c =
    rw (← c.self.view_is)
    (last-gone-rows c.self.inside.heap c.deallocate.new.self c.take_last-block.result c.deallocate.ensures.events c.deallocate.ensures.others _ _ c.self.invariant c.take_last-block.ensures.items)
