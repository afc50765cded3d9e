use Rattle.std.proofs.Common.{rules}
use Rattle.owned_heap.proofs.RowParts.{block-at, block-at-set, block-moved, block-stays}
use Rattle.owned_heap.proofs.RowCalls.{inside-rows, reallocated, set-length}
use Rattle.owned_heap.proofs.rows.BlockVec.reallocate.Goals as goal

pub invariant_of-self : goal.invariant_of-self
invariant_of-self g c =
    let inside = inside-rows _ _ _ (rw (← c.self.view_is) at c.requires.inside) in
    let e = c.reallocate.ensures in
    (reallocated c.self.inside.heap c.reallocate.new.self _ _ c.index_mut-block.result.now _ c.args.n c.self.invariant inside c.index_mut-block.ensures.value e.others c.reallocate.result e.events e.number e.size e.len e.kept e.same e.same_events e.same_bytes).are

pub returns : goal.returns
returns g c =
    let inside = inside-rows _ _ _ (rw (← c.self.view_is) at c.requires.inside) in
    let e = c.reallocate.ensures in
    let m = reallocated c.self.inside.heap c.reallocate.new.self _ _ c.index_mut-block.result.now _ c.args.n c.self.invariant inside c.index_mut-block.ensures.value e.others c.reallocate.result e.events e.number e.size e.len e.kept e.same e.same_events e.same_bytes in
    let old = block-at c.self.inside.blocks.items c.args.index c.index_mut-block.result.now inside c.index_mut-block.ensures.value in
    let new = block-at-set c.self.inside.blocks.items c.args.index c.reallocate.new.b inside in
    rw (← c.self.view_is)
    (record { row = m.row; size = m.size; kept = m.kept; by_index = m.by_index; blocks = block-moved c.reallocate.result _ c.args.index _ inside; same = m.same; same_blocks = block-stays c.reallocate.result _ c.args.index _ _ c.index_mut-block.ensures.value e.same; len = set-length c.self.inside.heap c.reallocate.new.self _ _ _; capacity = search rules; events = rw (old, new) e.events; same_events = e.same_events; rule = rw (old, new) e.rule })
