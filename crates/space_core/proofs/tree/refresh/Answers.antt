use Rattle.std.proofs.Common.{ℕ, ◌≡◌, ◌+◌, ◌-◌, ◌*◌, ◌/◌, ◌≤◌, ◌<◌, ◌⊎◌, inl, inr, length, refl, arith, ◌∙◌}
use Rattle.std.proofs.lemmas.Bool.{cases_lt}
use Rattle.space_core.specs.Trees.{Tells}
use Rattle.space_core.proofs.Nodes.{some, leaf-tells, level-start, level-above, level-low, beside-above, IsBeside}
use Rattle.space_core.proofs.tree.refresh.Goals as goal

pub returns-then-from-to-clause-tells : goal.returns-then-from-to-clause-tells
returns-then-from-to-clause-tells c = λ i p n. c.requires.beside i p n (λ x y. absurd (omega (arith, x, c.if-from-to.true)))

pub loop-len-init : goal.loop-len-init
loop-len-init c = record {
  size = refl;
  level = level-start (length c.args.nodes.now) c.args.from c.args.to c.requires.width (omega arith) c.requires.to;
  tells = λ i p n h k. tells i p n h (cases_lt 1 n) k;
}
  where
    tells : (i p n : ℕ) → IsBeside (length c.args.nodes.now) 1 (length c.args.nodes.now + c.args.from) (length c.args.nodes.now + c.args.to - 1) p n → (1 < n) ⊎ (n ≤ 1) → Tells c.args.taken.now c.args.nodes.now i p n
    tells i p n h (inl s) = c.requires.beside i p n (λ x y. omega (arith, h s (omega arith)))
    tells i p n h (inr s) = λ k.
        let e : n ≡ 1 = omega (arith, some k.power) in
        let z : i * 1 ≡ length c.args.nodes.now + p = rw e at k.place in
        leaf-tells c.args.taken.now c.args.nodes.now i p n (omega (arith, z)) k

pub refresh_level-requires-clause-low : goal.refresh_level-requires-clause-low
refresh_level-requires-clause-low c =
    let w = length c.args.nodes.now in
    let l = level-above w c.loop-len.len c.loop-len.low c.loop-len.high c.loop-len.invariant.level c.loop-len-test.true in
    rw c.loop-len.invariant.size (level-low w (2 * c.loop-len.len) (c.loop-len.low / 2) (c.loop-len.high / 2) l)

pub refresh_level-requires-clause-children : goal.refresh_level-requires-clause-children
refresh_level-requires-clause-children c = λ i p. c.loop-len.invariant.tells i p c.loop-len.len (λ x y. absurd (omega arith))

pub loop-len-preserved : goal.loop-len-preserved
loop-len-preserved c =
    let w = length c.args.nodes.now in
    let n = c.loop-len.len in
    let v = c.loop-len.invariant in
    let e : n * 2 ≡ 2 * n = omega arith in
    rw e (record {
      size = c.refresh_level.ensures.size ∙ v.size;
      level = level-above w n c.loop-len.low c.loop-len.high v.level c.loop-len-test.true;
      tells = λ i p m b. c.refresh_level.ensures.tells i p m (λ g k. v.tells i p m (beside-above w n c.loop-len.low c.loop-len.high i p m v.level.power (rw v.size at k) g b) k);
    })

pub returns-clause-tells : goal.returns-clause-tells
returns-clause-tells c = λ i p n k.
    c.loop-len.invariant.tells i p n (λ x y. absurd (omega (arith, x, k.within, c.loop-len-test.false, c.loop-len.invariant.size))) k
