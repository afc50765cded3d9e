use Rattle.std.proofs.Common.{◌∙◌, ap, max, arith}
use Rattle.size_round.specs.Sizes.{up}
use Rattle.region_block.proofs.Bumping.{aligned-refused, aligned-served}
use Rattle.region_block.proofs.Standing.{in_space-at, up-less}
use Rattle.region_block.proofs.bump.RegionLayer.aligned_allocate.Goals as goal

pub up-place-requires-clause-fits : goal.up-place-requires-clause-fits
up-place-requires-clause-fits g c =
    let l = c.args.self.now in
    let i = in_space-at l.size l.align l.bump c.in-Some.bump (g.P.Layer.model l.parent) c.args._space.now c.in-Some.is (g.met.P.Layer.made l.parent) l.proper l.together c.requires.stands in
    rw c.max.ensures (omega (arith, i.stop, i.inside, i.align_most, c.requires.most))

pub overflow_add-place : goal.overflow_add-place
overflow_add-place g c =
    let l = c.args.self.now in
    let i = in_space-at l.size l.align l.bump c.in-Some.bump (g.P.Layer.model l.parent) c.args._space.now c.in-Some.is (g.met.P.Layer.made l.parent) l.proper l.together c.requires.stands in
    let u = up-less c.args.n l.align i.align_some in
    let v = up-less c.in-Some.bump.position (max c.args.a l.align) (omega (arith, i.align_some)) in
    rw (c.up-place.ensures, c.up-taken.ensures, c.max.ensures) (omega (arith, i.stop, i.inside, i.align_most, u, v, c.if-n-gt-LIMIT.false, c.requires.most))

pub overflow_add-bump : goal.overflow_add-bump
overflow_add-bump g c =
    let l = c.args.self.now in
    let i = in_space-at l.size l.align l.bump c.in-Some.bump (g.P.Layer.model l.parent) c.args._space.now c.in-Some.is (g.met.P.Layer.made l.parent) l.proper l.together c.requires.stands in
    omega (arith, i.inside)

pub overflow_add-self : goal.overflow_add-self
overflow_add-self g c =
    let l = c.args.self.now in
    let i = in_space-at l.size l.align l.bump c.in-Some.bump (g.P.Layer.model l.parent) c.args._space.now c.in-Some.is (g.met.P.Layer.made l.parent) l.proper l.together c.requires.stands in
    omega (arith, i.inside, c.if-place-taken.false)

pub returns-then-place-taken : goal.returns-then-place-taken
returns-then-place-taken g c =
    let l = c.args.self.now in
    aligned-refused l.size l.align c.args.n c.args.a c.up-place.result c.up-taken.result l.bump c.in-Some.bump (g.P.Layer.model l.parent) c.args._space.now c.in-Some.is
    (c.up-place.ensures ∙ ap (up c.in-Some.bump.position) c.max.ensures) c.up-taken.ensures c.if-place-taken.true c.requires.stands

pub returns : goal.returns
returns g c =
    let l = c.args.self.now in
    aligned-served l.size l.align c.args.n c.args.a c.up-place.result c.up-taken.result l.bump c.in-Some.bump (g.P.Layer.model l.parent) c.args._space.now c.in-Some.is
    (c.up-place.ensures ∙ ap (up c.in-Some.bump.position) c.max.ensures) c.up-taken.ensures (omega (arith, c.if-n-eq0.false)) c.if-n-gt-LIMIT.false c.if-place-taken.false c.requires.stands
