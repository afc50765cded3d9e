use Rattle.std.proofs.Common.{arith}
use Rattle.region_block.proofs.Standing.{in_space-at, up-less, no_room-refused}
use Rattle.region_block.proofs.bump.RegionLayer.allocate.Goals as goal

pub up-taken-requires-clause-some : goal.up-taken-requires-clause-some
up-taken-requires-clause-some g c = let l = c.args.self.now in l.proper.align_some

pub up-taken-requires-clause-fits : goal.up-taken-requires-clause-fits
up-taken-requires-clause-fits g c =
    let l = c.args.self.now in
    let z = l.proper in
    omega (arith, z.align_most, c.if-n-gt-LIMIT.false)

pub overflow_add-bump : goal.overflow_add-bump
overflow_add-bump g c =
    let l = c.args.self.now in
    let i = in_space-at l.size l.align l.bump c.in-Some.bump (g.P.Layer.model l.parent) c.args._space.now c.in-Some.is (g.met.P.Layer.made l.parent) l.proper l.together c.requires.stands in
    let u = up-less c.args.n l.align i.align_some in
    rw c.up-taken.ensures (omega (arith, i.stop, i.inside, i.align_most, u, c.if-n-gt-LIMIT.false))

pub overflow_add-bump-in-Some : goal.overflow_add-bump-in-Some
overflow_add-bump-in-Some g c =
    let l = c.args.self.now in
    let i = in_space-at l.size l.align l.bump c.in-Some.bump (g.P.Layer.model l.parent) c.args._space.now c.in-Some.is (g.met.P.Layer.made l.parent) l.proper l.together c.requires.stands in
    omega (arith, i.inside)

pub overflow_add-self : goal.overflow_add-self
overflow_add-self g c =
    let l = c.args.self.now in
    let i = in_space-at l.size l.align l.bump c.in-Some.bump (g.P.Layer.model l.parent) c.args._space.now c.in-Some.is (g.met.P.Layer.made l.parent) l.proper l.together c.requires.stands in
    omega (arith, i.inside, c.if-bump-taken.false)

pub returns-then-bump-taken : goal.returns-then-bump-taken
returns-then-bump-taken g c =
    let l = c.args.self.now in
    no_room-refused l.size l.align c.args.n l.bump c.in-Some.bump (g.P.Layer.model l.parent) c.args._space.now c.in-Some.is (rw c.up-taken.ensures at c.if-bump-taken.true) c.requires.stands
