use Rattle.std.proofs.Common.{arith}
use Rattle.size_round.proofs.UpLeast.{enough_times}
use Rattle.region_block.proofs.Standing.{in_space-at, below-at}
use Rattle.region_block.proofs.bump.RegionLayer.deallocate.Goals as goal

pub up-requires-clause-some : goal.up-requires-clause-some
up-requires-clause-some g c = let l = c.args.self.now in l.proper.align_some

pub up-requires-clause-fits : goal.up-requires-clause-fits
up-requires-clause-fits g c =
    let l = c.args.self.now in
    let t = g.P.Layer.model l.parent in
    let i = in_space-at l.size l.align l.bump c.in-Some.bump t c.args._space.now c.in-Some.is (g.met.P.Layer.made l.parent) l.proper l.together c.requires.stands in
    let b = below-at l.size l.align l.bump c.in-Some.bump t c.args._space.now c.args.b c.in-Some.is c.requires.out in
    let u = enough_times c.args.b.len l.align i.align_some in
    omega (arith, i.stop, i.inside, i.align_most, b.upto, u)

pub overflow_add-b : goal.overflow_add-b
overflow_add-b g c =
    let l = c.args.self.now in
    let t = g.P.Layer.model l.parent in
    let i = in_space-at l.size l.align l.bump c.in-Some.bump t c.args._space.now c.in-Some.is (g.met.P.Layer.made l.parent) l.proper l.together c.requires.stands in
    let b = below-at l.size l.align l.bump c.in-Some.bump t c.args._space.now c.args.b c.in-Some.is c.requires.out in
    rw c.up.ensures (omega (arith, i.stop, i.inside, b.upto))
