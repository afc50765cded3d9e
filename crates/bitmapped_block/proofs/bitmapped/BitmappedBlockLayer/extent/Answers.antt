use Rattle.std.proofs.Common.{arith}
use Rattle.bitmapped_block.proofs.Telling.{routed-above, extent-is}
use Rattle.bitmapped_block.proofs.bitmapped.BitmappedBlockLayer.extent.Goals as goal

pub touched-requires-clause-above : goal.touched-requires-clause-above
touched-requires-clause-above g c =
    let l = c.args.self.now in
    let least = l.proper.size.unit_least in
    routed-above l.unit l.count l.bitmap c.in-Some.bitmap (g.P.Layer.model l.parent) c.args.b c.in-Some.is (omega (arith, least)) l.sized c.requires

pub returns : goal.returns
returns g c =
    let l = c.args.self.now in
    let least = l.proper.size.unit_least in
    extent-is l.unit l.count c.touched.result.count l.bitmap c.in-Some.bitmap (g.P.Layer.model l.parent) c.args.b c.in-Some.is (omega (arith, least)) l.sized c.touched.ensures.count
