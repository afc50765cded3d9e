use Rattle.std.proofs.Common.{refl, ap, ℕ, ◌+◌, ◌≤◌, inl, inr, arith}
use Rattle.size_round.specs.Sizes.{limit}
use Rattle.region_block.proofs.Bumping.{grown-too_long, grown-refused, grown}
use Rattle.region_block.proofs.Standing.{in_space-at, below-at, up-less}
use Rattle.region_block.proofs.bump.RegionLayer.expand.Goals as goal
use Rattle.region_block.proofs.bump.RegionLayer.expand.Goals.{then-position-bump-via-then-position-bump, then-position-bump-via-else-position-bump+then-b-up}

pub returns-then-delta-b : goal.returns-then-delta-b
returns-then-delta-b g c =
    let l = c.args.self.now in
    grown-too_long l.size l.align c.args.delta l.bump (g.P.Layer.model l.parent) c.args._space.now c.args.b.now
    (omega (arith, c.if-delta-eq0.false)) (omega (arith, c.if-delta-b.true)) c.requires.stands

pub overflow_add-position : goal.overflow_add-position
overflow_add-position g c =
    let l = c.args.self.now in
    let t = g.P.Layer.model l.parent in
    let i = in_space-at l.size l.align l.bump c.in-Some.bump t c.args._space.now c.in-Some.is (g.met.P.Layer.made l.parent) l.proper l.together c.requires.stands in
    let b = below-at l.size l.align l.bump c.in-Some.bump t c.args._space.now c.args.b.now c.in-Some.is c.requires.out in
    let u = up-less (c.args.b.now.len + c.args.delta) l.align i.align_some in
    rw c.up.ensures (omega (arith, i.stop, i.inside, i.align_most, b.upto, u, c.if-delta-b.false))

pub overflow_add-bump : goal.overflow_add-bump
overflow_add-bump g c =
    let l = c.args.self.now in
    let i = in_space-at l.size l.align l.bump c.in-Some.bump (g.P.Layer.model l.parent) c.args._space.now c.in-Some.is (g.met.P.Layer.made l.parent) l.proper l.together c.requires.stands in
    omega (arith, i.inside)

pub overflow_add-b-else-position-bump : goal.overflow_add-b-else-position-bump
overflow_add-b-else-position-bump g c =
    let l = c.args.self.now in
    let t = g.P.Layer.model l.parent in
    let i = in_space-at l.size l.align l.bump c.in-Some.bump t c.args._space.now c.in-Some.is (g.met.P.Layer.made l.parent) l.proper l.together c.requires.stands in
    let b = below-at l.size l.align l.bump c.in-Some.bump t c.args._space.now c.args.b.now c.in-Some.is c.requires.out in
    rw c.up-else-position-bump.ensures (omega (arith, i.stop, i.inside, b.upto))

pub returns-then-position-bump : goal.returns-then-position-bump
returns-then-position-bump g c =
    let l = c.args.self.now in
    let b = c.args.b.now in
    let t = g.P.Layer.model l.parent in
    let some : 1 ≤ c.args.delta = omega (arith, c.if-delta-eq0.false) in
    let short : b.len + c.args.delta ≤ limit = omega (arith, c.if-delta-eq0.false, c.if-delta-b.false) in
    let p = ap (λ (n : ℕ). b.place + n) c.up.ensures in
    elim c.then-position-bump.branch [
      | then-position-bump-via-then-position-bump w ↦ grown-refused l.size l.align c.args.delta _ _ l.bump c.in-Some.bump t c.args._space.now b c.in-Some.is (inr w.if-position-bump.true) refl p some short c.requires.stands
      | then-position-bump-via-else-position-bump+then-b-up w ↦
          grown-refused l.size l.align c.args.delta _ _ l.bump c.in-Some.bump t c.args._space.now b c.in-Some.is (inl w.if-b-up.true) (ap (λ (n : ℕ). b.place + n) w.up-else-position-bump.ensures) p some short c.requires.stands
    ]

pub returns : goal.returns
returns g c =
    let l = c.args.self.now in
    grown l.size l.align c.args.delta _ _ l.bump c.in-Some.bump (g.P.Layer.model l.parent) c.args._space.now c.args.b.now c.in-Some.is c.if-b-up.false c.if-position-bump.false
    (ap (λ (n : ℕ). c.args.b.now.place + n) c.up-else-position-bump.ensures) (ap (λ (n : ℕ). c.args.b.now.place + n) c.up.ensures) (omega (arith, c.if-delta-eq0.false)) (omega (arith, c.if-delta-eq0.false, c.if-delta-b.false)) c.requires.stands
