use Rattle.bitmapped_block.proofs.Standing.{here, parent-stands}
use Rattle.bitmapped_block.proofs.bitmapped.BitmappedBlockLayer.tear_down.Goals as goal

pub tear_down-requires : goal.tear_down-requires
tear_down-requires g c =
    let l = c.args.self.now in
    parent-stands l.unit l.count l.bitmap (g.P.Layer.model l.parent) c.args.space.now (here g.met.P.Layer.made l c.args.space.now c.requires)
