use Rattle.std.proofs.Common.{◌∙◌, ap, refl, set, sym, length}
use Rattle.std.proofs.lemmas.List.{length-set}
use Rattle.owned_heap.proofs.Altering.{called-at}
use Rattle.owned_heap.proofs.RowParts.{block-at, row-set}
use Rattle.owned_heap.proofs.RowCalls.{inside-rows, row-of, row-size, wrote-are, wrote-rows}
use Rattle.owned_heap.proofs.rows.BlockVec.with_bytes_mut.Goals as goal

pub invariant_of-self : goal.invariant_of-self
invariant_of-self g c =
    let inside = inside-rows _ _ _ (rw (← c.self.view_is) at c.requires.inside) in
    let e = c.with_bytes_mut.ensures in
    wrote-are c.self.inside.heap c.with_bytes_mut.new.self _ _ c.index-block.result.now c.self.invariant inside c.index-block.ensures e.events e.others e.size

pub returns : goal.returns
returns g c =
    let within = rw (← c.self.view_is) at c.requires.inside in
    let inside = inside-rows _ _ _ within in
    let e = c.with_bytes_mut.ensures in
    let old = row-of c.self.inside.heap _ _ c.index-block.result.now inside c.index-block.ensures in
    let wrote = wrote-rows c.self.inside.heap c.with_bytes_mut.new.self _ _ c.index-block.result.now c.self.invariant inside c.index-block.ensures e.events e.others in
    let new = row-set _ _ c.args.index _ within wrote in
    rw (← c.self.view_is)
    (record {
      rows = wrote ∙ ap (set _ _) (sym new);
      changed = called-at g.F.FnOnce c.args.change _ _ _ _ old new e.changed;
      size = ap length new ∙ (e.size ∙ sym (row-size _ _ _ c.index-block.result.now c.self.invariant inside c.index-block.ensures));
      len = ap length wrote ∙ length-set _ _ _;
      blocks = refl;
      capacity = refl;
      only = rw (block-at c.self.inside.blocks.items c.args.index c.index-block.result.now inside c.index-block.ensures, new) e.only;
    })
