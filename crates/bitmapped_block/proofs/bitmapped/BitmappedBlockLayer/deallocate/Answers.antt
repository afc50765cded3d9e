use Rattle.std.proofs.Common.{refl, arith}
use Rattle.bitmapped_block.proofs.Changing.{out-at, takes-back}
use Rattle.bitmapped_block.proofs.Standing.{here, open-at, whole-row}
use Rattle.bitmapped_block.proofs.bitmapped.BitmappedBlockLayer.deallocate.Goals as goal

pub touched-span-requires-clause-above : goal.touched-span-requires-clause-above
touched-span-requires-clause-above g c =
    let l = c.args.self.now in
    let m = c.args.space.now in
    (out-at l.unit l.count l.bitmap c.in-Some.bitmap _ (g.P.Layer.model l.parent) m c.args.b c.in-Some.is refl (here g.met.P.Layer.made l m c.requires.stands) c.requires.out).above

pub touched-span-requires-clause-fits : goal.touched-span-requires-clause-fits
touched-span-requires-clause-fits g c =
    let l = c.args.self.now in
    let m = c.args.space.now in
    let o = out-at l.unit l.count l.bitmap c.in-Some.bitmap _ (g.P.Layer.model l.parent) m c.args.b c.in-Some.is refl (here g.met.P.Layer.made l m c.requires.stands) c.requires.out in
    omega (arith, o.upto, l.proper.size.unit_most)

pub put-requires-clause-whole : goal.put-requires-clause-whole
put-requires-clause-whole g c =
    let l = c.args.self.now in
    let t = g.P.Layer.model l.parent in
    let m = c.args.space.now in
    let b = c.in-Some.bitmap in
    whole-row l.unit l.count b t m c.row.result (open-at l.unit l.count l.bitmap b t m c.in-Some.is (here g.met.P.Layer.made l m c.requires.stands)) c.row.ensures

pub put-requires-clause-within : goal.put-requires-clause-within
put-requires-clause-within g c =
    let l = c.args.self.now in
    let m = c.args.space.now in
    let o = out-at l.unit l.count l.bitmap c.in-Some.bitmap c.row.result (g.P.Layer.model l.parent) m c.args.b c.in-Some.is c.row.ensures (here g.met.P.Layer.made l m c.requires.stands) c.requires.out in
    omega (arith, o.within, c.touched-span.ensures.first, c.touched-span.ensures.count)

pub returns : goal.returns
returns g c =
    let l = c.args.self.now in
    let m = c.args.space.now in
    takes-back l.unit l.count c.touched-span.result.first c.touched-span.result.count l.bitmap c.in-Some.bitmap c.row.result (g.P.Layer.model l.parent) m c.put.new.space c.args.b c.in-Some.is c.row.ensures (here g.met.P.Layer.made l m c.requires.stands)
    c.touched-span.ensures.first c.touched-span.ensures.count c.put.ensures
