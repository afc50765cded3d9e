use Rattle.std.proofs.Common.{refl, ◌+◌, ◌≤◌, arith}
use Rattle.size_round.specs.Sizes.{limit}
use Rattle.bitmapped_block.specs.UnitBits.{units_at}
use Rattle.bitmapped_block.proofs.Changing.{out-at, further-of, few-further, grown-too_long, stuck, taken-further, beyond-further, grows}
use Rattle.bitmapped_block.proofs.RowBits.{units-length}
use Rattle.bitmapped_block.proofs.Standing.{here, open-at, whole-row}
use Rattle.bitmapped_block.proofs.bitmapped.BitmappedBlockLayer.expand.Goals as goal
use Rattle.bitmapped_block.proofs.bitmapped.BitmappedBlockLayer.expand.Goals.{then-upto-row-via-then-upto-row, then-upto-row-via-else-upto-row+then-next-upto}

pub returns-then-delta-b : goal.returns-then-delta-b
returns-then-delta-b g c =
    let l = c.args.self.now in
    grown-too_long l.unit l.count c.args.delta l.bitmap (g.P.Layer.model l.parent) c.args.space.now c.args.b.now (omega (arith, c.if-delta-eq0.false)) (omega (arith, c.if-delta-b.true)) c.requires.stands

pub touched-old-requires-clause-above : goal.touched-old-requires-clause-above
touched-old-requires-clause-above g c =
    let l = c.args.self.now in
    let m = c.args.space.now in
    (out-at l.unit l.count l.bitmap c.in-Some.bitmap _ (g.P.Layer.model l.parent) m c.args.b.now c.in-Some.is refl (here g.met.P.Layer.made l m c.requires.stands) c.requires.out).above

pub touched-old-requires-clause-fits : goal.touched-old-requires-clause-fits
touched-old-requires-clause-fits g c =
    let l = c.args.self.now in
    let m = c.args.space.now in
    let o = out-at l.unit l.count l.bitmap c.in-Some.bitmap _ (g.P.Layer.model l.parent) m c.args.b.now c.in-Some.is refl (here g.met.P.Layer.made l m c.requires.stands) c.requires.out in
    omega (arith, o.upto, l.proper.size.unit_most)

pub touched-new-requires-clause-above : goal.touched-new-requires-clause-above
touched-new-requires-clause-above g c =
    let l = c.args.self.now in
    let m = c.args.space.now in
    (out-at l.unit l.count l.bitmap c.in-Some.bitmap _ (g.P.Layer.model l.parent) m c.args.b.now c.in-Some.is refl (here g.met.P.Layer.made l m c.requires.stands) c.requires.out).above

pub touched-new-requires-clause-fits : goal.touched-new-requires-clause-fits
touched-new-requires-clause-fits g c =
    let l = c.args.self.now in
    let m = c.args.space.now in
    let o = out-at l.unit l.count l.bitmap c.in-Some.bitmap _ (g.P.Layer.model l.parent) m c.args.b.now c.in-Some.is refl (here g.met.P.Layer.made l m c.requires.stands) c.requires.out in
    omega (arith, o.upto, l.proper.size.unit_most, c.if-delta-b.false)

pub overflow_add-from : goal.overflow_add-from
overflow_add-from g c =
    let l = c.args.self.now in
    let m = c.args.space.now in
    let o = out-at l.unit l.count l.bitmap c.in-Some.bitmap _ (g.P.Layer.model l.parent) m c.args.b.now c.in-Some.is refl (here g.met.P.Layer.made l m c.requires.stands) c.requires.out in
    let f = further-of l.unit c.in-Some.bitmap.base c.args.delta c.touched-old.result.first c.touched-old.result.count c.touched-new.result.first c.touched-new.result.count c.args.b.now c.touched-old.ensures.first c.touched-old.ensures.count c.touched-new.ensures.first
    c.touched-new.ensures.count in
    let k = few-further l.unit l.count c.args.delta _ _ l.bitmap c.in-Some.bitmap _ (g.P.Layer.model l.parent) m c.args.b.now c.in-Some.is refl (here g.met.P.Layer.made l m c.requires.stands) (omega (arith, c.if-delta-b.false)) c.requires.out f in
    omega (arith, k.within, k.few)

pub overflow_add-upto : goal.overflow_add-upto
overflow_add-upto g c =
    let l = c.args.self.now in
    let m = c.args.space.now in
    let f = further-of l.unit c.in-Some.bitmap.base c.args.delta c.touched-old.result.first c.touched-old.result.count c.touched-new.result.first c.touched-new.result.count c.args.b.now c.touched-old.ensures.first c.touched-old.ensures.count c.touched-new.ensures.first
    c.touched-new.ensures.count in
    let k = few-further l.unit l.count c.args.delta _ _ l.bitmap c.in-Some.bitmap _ (g.P.Layer.model l.parent) m c.args.b.now c.in-Some.is refl (here g.met.P.Layer.made l m c.requires.stands) (omega (arith, c.if-delta-b.false)) c.requires.out f in
    omega (arith, k.most)

pub next-requires-clause-words : goal.next-requires-clause-words
next-requires-clause-words g c =
    let l = c.args.self.now in
    let t = g.P.Layer.model l.parent in
    let m = c.args.space.now in
    let b = c.in-Some.bitmap in
    (whole-row l.unit l.count b t m c.row-row.result (open-at l.unit l.count l.bitmap b t m c.in-Some.is (here g.met.P.Layer.made l m c.requires.stands)) c.row-row.ensures).there

pub next-requires-clause-order : goal.next-requires-clause-order
next-requires-clause-order g c =
    let l = c.args.self.now in
    let m = c.args.space.now in
    let f = further-of l.unit c.in-Some.bitmap.base c.args.delta c.touched-old.result.first c.touched-old.result.count c.touched-new.result.first c.touched-new.result.count c.args.b.now c.touched-old.ensures.first c.touched-old.ensures.count c.touched-new.ensures.first
    c.touched-new.ensures.count in
    (few-further l.unit l.count c.args.delta _ _ l.bitmap c.in-Some.bitmap _ (g.P.Layer.model l.parent) m c.args.b.now c.in-Some.is refl (here g.met.P.Layer.made l m c.requires.stands) (omega (arith, c.if-delta-b.false)) c.requires.out f).order

pub returns-then-upto-row : goal.returns-then-upto-row
returns-then-upto-row g c =
    let l = c.args.self.now in
    let t = g.P.Layer.model l.parent in
    let m = c.args.space.now in
    let b = c.in-Some.bitmap in
    let row = c.row-row.result in
    let us = units_at m.bytes row in
    let from = c.touched-old.result.first + c.touched-old.result.count in
    let upto = c.touched-new.result.first + c.touched-new.result.count in
    let h = here g.met.P.Layer.made l m c.requires.stands in
    let some : 1 ≤ c.args.delta = omega (arith, c.if-delta-eq0.false) in
    let short : c.args.b.now.len + c.args.delta ≤ limit = omega (arith, c.if-delta-b.false) in
    let f = further-of l.unit b.base c.args.delta c.touched-old.result.first c.touched-old.result.count c.touched-new.result.first c.touched-new.result.count c.args.b.now c.touched-old.ensures.first c.touched-old.ensures.count c.touched-new.ensures.first
    c.touched-new.ensures.count in
    let k = few-further l.unit l.count c.args.delta from upto l.bitmap b row t m c.args.b.now c.in-Some.is c.row-row.ensures h short c.requires.out f in
    let w = whole-row l.unit l.count b t m row (open-at l.unit l.count l.bitmap b t m c.in-Some.is h) c.row-row.ensures in
    let n = units-length m.bytes row w.there.inside in
    elim c.then-upto-row.branch [
      | then-upto-row-via-then-upto-row w ↦
          stuck l.unit l.count c.args.delta from upto l.bitmap b row t m c.args.b.now c.in-Some.is c.row-row.ensures h some short f (beyond-further us from upto row.count n k.within w.if-upto-row.true)
      | then-upto-row-via-else-upto-row+then-next-upto w ↦
          stuck l.unit l.count c.args.delta from upto l.bitmap b row t m c.args.b.now c.in-Some.is c.row-row.ensures h some short f (taken-further us from upto w.next.result w.next.ensures w.if-next-upto.true)
    ]

pub put-requires-clause-whole : goal.put-requires-clause-whole
put-requires-clause-whole g c =
    let l = c.args.self.now in
    let t = g.P.Layer.model l.parent in
    let m = c.args.space.now in
    let b = c.in-Some.bitmap in
    whole-row l.unit l.count b t m c.row-row.result (open-at l.unit l.count l.bitmap b t m c.in-Some.is (here g.met.P.Layer.made l m c.requires.stands)) c.row-row.ensures

pub returns : goal.returns
returns g c =
    let l = c.args.self.now in
    let m = c.args.space.now in
    let b = c.in-Some.bitmap in
    let f = further-of l.unit b.base c.args.delta c.touched-old.result.first c.touched-old.result.count c.touched-new.result.first c.touched-new.result.count c.args.b.now c.touched-old.ensures.first c.touched-old.ensures.count c.touched-new.ensures.first
    c.touched-new.ensures.count in
    grows l.unit l.count c.args.delta _ _ c.next.result l.bitmap b c.row-row.result (g.P.Layer.model l.parent) m c.put.new.space c.args.b.now c.in-Some.is c.row-row.ensures (here g.met.P.Layer.made l m c.requires.stands)
    (omega (arith, c.if-delta-eq0.false)) (omega (arith, c.if-delta-b.false)) c.requires.out f c.next.ensures c.if-next-upto.false c.put.ensures
