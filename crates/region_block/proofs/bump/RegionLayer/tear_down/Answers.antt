use Rattle.region_block.proofs.Standing.{parent-stands}
use Rattle.region_block.proofs.bump.RegionLayer.tear_down.Goals as goal

pub tear_down-requires : goal.tear_down-requires
tear_down-requires g c =
    let l = c.args.self.now in
    parent-stands l.size l.align l.bump (g.P.Layer.model l.parent) c.args.space.now (g.met.P.Layer.made l.parent) l.together c.requires
