use Rattle.free_list.proofs.Standing.{here, parent-stands}
use Rattle.free_list.proofs.caching.FreeListLayer.tear_down.Goals as goal

pub tear_down-requires : goal.tear_down-requires
tear_down-requires g c =
    let l = c.args.self.now in
    parent-stands l.least l.greatest l.chain (g.P.Layer.model l.parent) c.args.space.now (here g.met.P.Layer.made l c.args.space.now c.requires)
