use Rattle.std.proofs.Common.{refl, ◌≤◌, arith}
use Rattle.bitmapped_block.proofs.Serving.{searched, place-inside, serves-place, no-place}
use Rattle.bitmapped_block.proofs.Standing.{here, open-at, whole-row}
use Rattle.bitmapped_block.proofs.bitmapped.BitmappedBlockLayer.aligned_allocate.Goals as goal

pub least_place-requires-clause-words : goal.least_place-requires-clause-words
least_place-requires-clause-words g c =
    let l = c.args.self.now in
    let t = g.P.Layer.model l.parent in
    let m = c.args.space.now in
    let b = c.in-Some.bitmap in
    (searched l.unit l.count b c.units.result t m (open-at l.unit l.count l.bitmap b t m c.in-Some.is (here g.met.P.Layer.made l m c.requires.stands)) c.units.ensures).0

pub least_place-requires-clause-units : goal.least_place-requires-clause-units
least_place-requires-clause-units g c =
    let l = c.args.self.now in
    let t = g.P.Layer.model l.parent in
    let m = c.args.space.now in
    let b = c.in-Some.bitmap in
    (searched l.unit l.count b c.units.result t m (open-at l.unit l.count l.bitmap b t m c.in-Some.is (here g.met.P.Layer.made l m c.requires.stands)) c.units.ensures).1

pub touched-span-requires-clause-above : goal.touched-span-requires-clause-above
touched-span-requires-clause-above g c =
    let l = c.args.self.now in
    let m = c.args.space.now in
    let k : 1 ≤ c.max.result = omega (arith, c.max.ensures) in
    (place-inside l.unit l.count c.args.n c.max.result c.in-Some-least_place.place 0 0 l.bitmap c.in-Some.bitmap c.units.result _ (g.P.Layer.model l.parent) m c.in-Some.is c.units.ensures refl (here g.met.P.Layer.made l m c.requires.stands)
    (omega (arith, c.if-n-eq0.false)) c.if-n-gt-LIMIT.false k c.in-Some-least_place.ensures).above

pub touched-span-requires-clause-fits : goal.touched-span-requires-clause-fits
touched-span-requires-clause-fits g c =
    let l = c.args.self.now in
    let m = c.args.space.now in
    let k : 1 ≤ c.max.result = omega (arith, c.max.ensures) in
    (place-inside l.unit l.count c.args.n c.max.result c.in-Some-least_place.place 0 0 l.bitmap c.in-Some.bitmap c.units.result _ (g.P.Layer.model l.parent) m c.in-Some.is c.units.ensures refl (here g.met.P.Layer.made l m c.requires.stands)
    (omega (arith, c.if-n-eq0.false)) c.if-n-gt-LIMIT.false k c.in-Some-least_place.ensures).fits

pub put-requires-clause-whole : goal.put-requires-clause-whole
put-requires-clause-whole g c =
    let l = c.args.self.now in
    let t = g.P.Layer.model l.parent in
    let m = c.args.space.now in
    let b = c.in-Some.bitmap in
    whole-row l.unit l.count b t m c.row.result (open-at l.unit l.count l.bitmap b t m c.in-Some.is (here g.met.P.Layer.made l m c.requires.stands)) c.row.ensures

pub put-requires-clause-within : goal.put-requires-clause-within
put-requires-clause-within g c =
    let l = c.args.self.now in
    let m = c.args.space.now in
    let k : 1 ≤ c.max.result = omega (arith, c.max.ensures) in
    (place-inside l.unit l.count c.args.n c.max.result c.in-Some-least_place.place c.touched-span.result.first c.touched-span.result.count l.bitmap c.in-Some.bitmap c.units.result c.row.result (g.P.Layer.model l.parent) m c.in-Some.is c.units.ensures c.row.ensures
    (here g.met.P.Layer.made l m c.requires.stands) (omega (arith, c.if-n-eq0.false)) c.if-n-gt-LIMIT.false k c.in-Some-least_place.ensures).within c.touched-span.ensures.first c.touched-span.ensures.count

pub returns-in-Some-least_place : goal.returns-in-Some-least_place
returns-in-Some-least_place g c =
    let l = c.args.self.now in
    let m = c.args.space.now in
    serves-place l.unit l.count c.args.n c.args.a c.max.result c.in-Some-least_place.place c.touched-span.result.first c.touched-span.result.count l.bitmap c.in-Some.bitmap c.units.result c.row.result (g.P.Layer.model l.parent) m c.put.new.space c.in-Some.is
    c.units.ensures c.row.ensures (here g.met.P.Layer.made l m c.requires.stands) (omega (arith, c.if-n-eq0.false)) c.if-n-gt-LIMIT.false c.max.ensures c.in-Some-least_place.ensures c.touched-span.ensures.first c.touched-span.ensures.count c.put.ensures

pub returns-in-None-least_place : goal.returns-in-None-least_place
returns-in-None-least_place g c =
    let l = c.args.self.now in
    let m = c.args.space.now in
    no-place l.unit l.count c.args.n c.args.a c.max.result l.bitmap c.in-Some.bitmap c.units.result (g.P.Layer.model l.parent) m c.in-Some.is c.units.ensures (here g.met.P.Layer.made l m c.requires.stands)
    (omega (arith, c.if-n-eq0.false)) c.if-n-gt-LIMIT.false c.max.ensures c.in-None-least_place.ensures
