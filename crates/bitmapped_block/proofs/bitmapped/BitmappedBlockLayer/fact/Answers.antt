use Rattle.std.proofs.Common.{◌≡◌, ◌*◌, subst, sym, ℕ, arith}
use Rattle.layer_rules.specs.declared.Fact.TheVariants as Said
use Rattle.layer_rules.specs.Layering.{IsFactOf}
use Rattle.bitmapped_block.specs.BitmapModel.{bitmap_model}
use Rattle.bitmapped_block.proofs.Standing.{here, open-at, whole-row}
use Rattle.bitmapped_block.proofs.Telling.{tally-fits, tells-free}
use Rattle.bitmapped_block.proofs.bitmapped.BitmappedBlockLayer.fact.Goals as goal

pub free_units-free-requires : goal.free_units-free-requires
free_units-free-requires g c =
    let l = c.args.self.now in
    let t = g.P.Layer.model l.parent in
    let m = c.args.space.now in
    let b = c.in-Some.bitmap in
    (whole-row l.unit l.count b t m c.row.result (open-at l.unit l.count l.bitmap b t m c.in-Some.is (here g.met.P.Layer.made l m c.requires.stands)) c.row.ensures).there

pub overflow_mul-result : goal.overflow_mul-result
overflow_mul-result g c =
    let l = c.args.self.now in
    let m = c.args.space.now in
    let free = c.free_units-free.result in
    let f = tally-fits l.unit l.count free.count free.longest l.bitmap c.in-Some.bitmap c.row.result (g.P.Layer.model l.parent) m c.in-Some.is c.row.ensures (here g.met.P.Layer.made l m c.requires.stands) c.free_units-free.ensures.count c.free_units-free.ensures.longest in
    omega (arith, f.all)

pub overflow_mul-result-in-Some : goal.overflow_mul-result-in-Some
overflow_mul-result-in-Some g c =
    let l = c.args.self.now in
    let m = c.args.space.now in
    let free = c.free_units-free.result in
    let f = tally-fits l.unit l.count free.count free.longest l.bitmap c.in-Some.bitmap c.row.result (g.P.Layer.model l.parent) m c.in-Some.is c.row.ensures (here g.met.P.Layer.made l m c.requires.stands) c.free_units-free.ensures.count c.free_units-free.ensures.longest in
    omega (arith, f.run)

pub returns-in-Some : goal.returns-in-Some
returns-in-Some g c =
    let l = c.args.self.now in
    let m = c.args.space.now in
    let free = c.free_units-free.result in
    let z : c.args.node ≡ 0 = omega (arith, c.if-node-gt0.false) in
    subst (λ (n : ℕ). IsFactOf (bitmap_model l.unit l.count l.bitmap (g.P.Layer.model l.parent)) m n (Said.Bitmap (l.unit * free.count) (l.unit * free.longest))) (sym z)
    (tells-free l.unit l.count free.count free.longest l.bitmap c.in-Some.bitmap c.row.result (g.P.Layer.model l.parent) m c.in-Some.is c.row.ensures (here g.met.P.Layer.made l m c.requires.stands) c.free_units-free.ensures.count c.free_units-free.ensures.longest)
