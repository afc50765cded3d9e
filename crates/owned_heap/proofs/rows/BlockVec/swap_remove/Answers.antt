use Rattle.owned_heap.proofs.RowCalls.{inside-rows, removed-are, removed-rows}
use Rattle.owned_heap.proofs.rows.BlockVec.swap_remove.Goals as goal

pub invariant_of-self : goal.invariant_of-self
invariant_of-self g c =
    let inside = inside-rows _ _ _ (rw (← c.self.view_is) at c.requires) in
    removed-are c.self.inside.heap c.deallocate.new.self c.swap_remove-block.result c.deallocate.ensures.events c.deallocate.ensures.others _ _ c.args.index c.self.invariant inside c.swap_remove-block.ensures.value c.swap_remove-block.ensures.items

pub returns-clause-rows : goal.returns-clause-rows
returns-clause-rows g c =
    let inside = inside-rows _ _ _ (rw (← c.self.view_is) at c.requires) in
    rw (← c.self.view_is)
    (removed-rows c.self.inside.heap c.deallocate.new.self c.swap_remove-block.result c.deallocate.ensures.events c.deallocate.ensures.others _ _ c.args.index c.self.invariant inside c.swap_remove-block.ensures.value c.swap_remove-block.ensures.items)
