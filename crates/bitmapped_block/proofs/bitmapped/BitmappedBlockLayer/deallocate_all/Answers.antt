use Rattle.bitmapped_block.proofs.Changing.{takes-all}
use Rattle.bitmapped_block.proofs.Standing.{here, open-at, whole-row}
use Rattle.bitmapped_block.proofs.bitmapped.BitmappedBlockLayer.deallocate_all.Goals as goal

pub clear-requires : goal.clear-requires
clear-requires g c =
    let l = c.args.self.now in
    let t = g.P.Layer.model l.parent in
    let m = c.args.space.now in
    let b = c.in-Some.bitmap in
    (whole-row l.unit l.count b t m c.row.result (open-at l.unit l.count l.bitmap b t m c.in-Some.is (here g.met.P.Layer.made l m c.requires.stands)) c.row.ensures).there

pub returns : goal.returns
returns g c =
    let l = c.args.self.now in
    let m = c.args.space.now in
    takes-all l.unit l.count l.bitmap c.in-Some.bitmap c.row.result (g.P.Layer.model l.parent) m c.clear.new.space c.in-Some.is c.row.ensures (here g.met.P.Layer.made l m c.requires.stands) c.clear.ensures
