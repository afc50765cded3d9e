use Rattle.std.proofs.Common.{arith}
use Rattle.bitmapped_block.proofs.Telling.{product-fits, holds-is}
use Rattle.bitmapped_block.proofs.bitmapped.BitmappedBlockLayer.holds.Goals as goal

pub overflow_mul-self : goal.overflow_mul-self
overflow_mul-self g c =
    let l = c.args.self.now in
    let p = product-fits l.unit c.in-Some.bitmap (l.sized c.in-Some.bitmap c.in-Some.is) in
    omega (arith, p)

pub returns-in-Some : goal.returns-in-Some
returns-in-Some g c =
    let l = c.args.self.now in
    let least = l.proper.size.unit_least in
    holds-is l.unit l.count l.bitmap c.in-Some.bitmap (g.P.Layer.model l.parent) c.args.b c.is_inside.result c.in-Some.is (omega (arith, least)) l.sized c.is_inside.ensures
