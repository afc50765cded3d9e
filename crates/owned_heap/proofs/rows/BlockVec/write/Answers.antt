use Rattle.std.proofs.Common.{◌∙◌, ap, length, set}
use Rattle.owned_heap.proofs.RowParts.{block-at}
use Rattle.owned_heap.proofs.RowCalls.{inside-rows, row-size, wrote-are, wrote-rows}
use Rattle.owned_heap.proofs.rows.BlockVec.write.Goals as goal

pub invariant_of-self : goal.invariant_of-self
invariant_of-self g c =
    let inside = inside-rows _ _ _ (rw (← c.self.view_is) at c.requires.inside) in
    wrote-are c.self.inside.heap c.write.new.self _ _ c.index-block.result.now c.self.invariant inside c.index-block.ensures c.write.ensures.events c.write.ensures.others
    (ap length c.write.ensures.written ∙ ((rw (← c.self.view_is) at c.requires.size) ∙ row-size _ _ _ c.index-block.result.now c.self.invariant inside c.index-block.ensures))

pub returns-clause-rows : goal.returns-clause-rows
returns-clause-rows g c =
    let inside = inside-rows _ _ _ (rw (← c.self.view_is) at c.requires.inside) in
    rw (← c.self.view_is)
    (wrote-rows c.self.inside.heap c.write.new.self _ _ c.index-block.result.now c.self.invariant inside c.index-block.ensures c.write.ensures.events c.write.ensures.others ∙ ap (set _ _) c.write.ensures.written)

pub returns-clause-only : goal.returns-clause-only
returns-clause-only g c =
    let inside = inside-rows _ _ _ (rw (← c.self.view_is) at c.requires.inside) in
    let at = block-at c.self.inside.blocks.items c.args.index c.index-block.result.now inside c.index-block.ensures in
    rw (← c.self.view_is, at) c.write.ensures.only
