use Rattle.std.proofs.Common.{arith}
use Rattle.region_block.proofs.Standing.{routed-short}
use Rattle.region_block.proofs.bump.RegionLayer.extent.Goals as goal

pub up-requires-clause-some : goal.up-requires-clause-some
up-requires-clause-some g c = let l = c.args.self.now in l.proper.align_some

pub up-requires-clause-fits : goal.up-requires-clause-fits
up-requires-clause-fits g c =
    let l = c.args.self.now in
    let z = l.proper in
    let s = routed-short l.size l.align l.bump (g.P.Layer.model l.parent) c.args.b c.requires in
    omega (arith, z.align_most, s)
