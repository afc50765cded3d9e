use Rattle.std.proofs.Common.{◌∙◌, ◌+◌, arith, ap, refl, set, sym, List, ℕ, length, take, drop}
use Rattle.std.specs.List.{slice_range}
use Rattle.std.proofs.lemmas.List.{length-set}
use Rattle.space_core.specs.Words.{write_from}
use Rattle.owned_heap.proofs.Slices.{length-written}
use Rattle.owned_heap.proofs.RowParts.{block-at, row-set, written-stands, take-written, drop-written}
use Rattle.owned_heap.proofs.RowCalls.{inside-rows, row-of, wrote-are, wrote-rows}
use Rattle.owned_heap.proofs.rows.BlockVec.write_at.Goals as goal

pub invariant_of-self : goal.invariant_of-self
invariant_of-self g c =
    let inside = inside-rows _ _ _ (rw (← c.self.view_is) at c.requires.inside) in
    wrote-are c.self.inside.heap c.write_at.new.self _ _ c.index-block.result.now c.self.invariant inside c.index-block.ensures c.write_at.ensures.events c.write_at.ensures.others c.write_at.ensures.size

pub returns : goal.returns
returns g c =
    let within = rw (← c.self.view_is) at c.requires.inside in
    let room = rw (← c.self.view_is) at c.requires.room in
    let inside = inside-rows _ _ _ within in
    let at = c.args.at in
    let given = c.args.bytes.now in
    let old = row-of c.self.inside.heap _ _ c.index-block.result.now inside c.index-block.ensures in
    let rows =
    wrote-rows c.self.inside.heap c.write_at.new.self _ _ c.index-block.result.now c.self.invariant inside c.index-block.ensures c.write_at.ensures.events c.write_at.ensures.others
    ∙ ap (set _ _) (c.write_at.ensures.written ∙ ap (λ (row : List ℕ). write_from row at given) (sym old)) in
    let row = row-set _ _ c.args.index _ within rows in
    rw (← c.self.view_is)
    (record {
      rows = rows;
      written = ap (λ (r : List ℕ). slice_range r at (at + length given)) row ∙ written-stands _ given at room;
      before = ap (take at) row ∙ take-written _ given at at (omega arith);
      behind = ap (drop (at + length given)) row ∙ drop-written _ given at (at + length given) (omega arith);
      size = ap length row ∙ length-written _ at given;
      len = ap length rows ∙ length-set _ _ _;
      blocks = refl;
      capacity = refl;
      only = rw (block-at c.self.inside.blocks.items c.args.index c.index-block.result.now inside c.index-block.ensures) c.write_at.ensures.only;
    })
