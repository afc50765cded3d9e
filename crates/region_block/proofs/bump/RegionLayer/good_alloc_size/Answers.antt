use Rattle.std.proofs.Common.{arith}
use Rattle.size_round.proofs.UpLeast.{enough_times}
use Rattle.region_block.proofs.bump.RegionLayer.good_alloc_size.Goals as goal

pub up-requires-clause-some : goal.up-requires-clause-some
up-requires-clause-some g c = let l = c.args.self.now in l.proper.align_some

pub up-requires-clause-fits : goal.up-requires-clause-fits
up-requires-clause-fits g c =
    let l = c.args.self.now in
    let z = l.proper in
    grind (arith, z.align_most)

pub returns-clause-enough : goal.returns-clause-enough
returns-clause-enough g c =
    let l = c.args.self.now in
    let z = l.proper in
    let u = enough_times c.args.n l.align z.align_some in
    rw c.up.ensures u
