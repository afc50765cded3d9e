-- The new block is live and at a multiple, and the others stay.
use Rattle.std.proofs.Common.{◌∙◌, ap, sym, subst, ◌≡◌, true, false, not, length, refl, arith}
use Rattle.layer_rules.specs.declared.Offers.{Offers}
use Rattle.owned_heap.specs.Ticket.{Ticket}
use Rattle.owned_heap.specs.Events.{made}
use Rattle.owned_heap.specs.Owned.{IsOwned, is_refused_at, AlignedAllocatesIn}
use Rattle.owned_heap.proofs.Planning.{good-alignment}
use Rattle.owned_heap.proofs.Owning.{aligned-owned, aligned-bytes, aligned-none, aligned-new, aligned-more, new-apart, made-with, or-left, or-right, not_true, bytes-kept, bytes-live, made-other, made-live, live-room, slice-size}
use Rattle.owned_heap.proofs.heap.OwnedHeap.aligned_allocate.Goals as goal

is_offered : (o p : Offers) → o ≡ p → not o.aligned ≡ false → not p.aligned ≡ false
is_offered o p e h = ap (λ (x : Offers). not x.aligned) (sym e) ∙ h

pub returns-then-not-offers-clause-none : goal.returns-then-not-offers-clause-none
unfolding is_refused_at
returns-then-not-offers-clause-none g c = rw (← c.self.view_is) (or-left _ _ (ap (λ (o : Offers). not o.aligned) (sym c.offers.ensures) ∙ c.if-not-offers.true))

pub returns-then-not-offers-clause-rule : goal.returns-then-not-offers-clause-rule
unfolding AlignedAllocatesIn
returns-then-not-offers-clause-rule g c =
    rw (← c.self.view_is) (λ e. let f = ap (λ (o : Offers). o.aligned) c.offers.ensures ∙ e in let no = not_true _ c.if-not-offers.true in absurd (cc))

pub aligned_allocate-requires-clause-power : goal.aligned_allocate-requires-clause-power
aligned_allocate-requires-clause-power g c = (good-alignment c.args.a c.requires).power

pub invariant_of-self : goal.invariant_of-self
invariant_of-self g c =
    let x : Ticket = record { number = length c.self.inside.births.items; block = c.in-Some.block } in
    let e = made-with _ _ _ _ x c.and-self-inside-in-Some.ensures c.again.ensures c.after-new.ensures in
    record {
      owned =
          subst (IsOwned (g.L.Layer.model c.aligned_allocate.new.self) c.aligned_allocate.new.space) (sym e)
          (aligned-more _ _ _ _ _ c.args.n c.args.a _ (g.met.L.Layer.made c.self.inside.root) c.self.invariant.owned (good-alignment c.args.a c.requires).power (good-alignment c.args.a c.requires).most c.in-Some.ensures x refl);
      counted = omega (arith, ap length c.and-self-inside.ensures, c.self.invariant.counted, ap made e);
    }

pub invariant_of-self-in-None : goal.invariant_of-self-in-None
invariant_of-self-in-None g c = record {
  owned = aligned-owned _ _ _ _ _ c.args.n c.args.a _ (g.met.L.Layer.made c.self.inside.root) c.self.invariant.owned (good-alignment c.args.a c.requires).power (good-alignment c.args.a c.requires).most c.in-None.ensures;
  counted = c.self.invariant.counted;
}

pub returns-in-Some-clause-none : goal.returns-in-Some-clause-none
unfolding is_refused_at
returns-in-Some-clause-none g c = rw (← c.self.view_is) (or-right _ _ false (is_offered _ _ c.offers.ensures c.if-not-offers.false) (aligned-none _ _ _ _ _ c.args.n c.args.a _ (g.met.L.Layer.made c.self.inside.root) c.self.invariant.owned (good-alignment c.args.a c.requires).power (good-alignment c.args.a c.requires).most c.in-Some.ensures))

pub returns-in-None-clause-none : goal.returns-in-None-clause-none
unfolding is_refused_at
returns-in-None-clause-none g c = rw (← c.self.view_is) (or-right _ _ true (is_offered _ _ c.offers.ensures c.if-not-offers.false) (aligned-none _ _ _ _ _ c.args.n c.args.a _ (g.met.L.Layer.made c.self.inside.root) c.self.invariant.owned (good-alignment c.args.a c.requires).power (good-alignment c.args.a c.requires).most c.in-None.ensures))

pub returns-in-Some-clause-len : goal.returns-in-Some-clause-len
returns-in-Some-clause-len g c = ap (λ (y : Ticket). y.block.len) c.after-new.ensures ∙ (aligned-new _ _ _ _ _ c.args.n c.args.a _ (g.met.L.Layer.made c.self.inside.root) c.self.invariant.owned (good-alignment c.args.a c.requires).power (good-alignment c.args.a c.requires).most c.in-Some.ensures c.in-Some.block refl).0.len

pub returns-in-Some-clause-aligned : goal.returns-in-Some-clause-aligned
returns-in-Some-clause-aligned g c = rw c.after-new.ensures (aligned-new _ _ _ _ _ c.args.n c.args.a _ (g.met.L.Layer.made c.self.inside.root) c.self.invariant.owned (good-alignment c.args.a c.requires).power (good-alignment c.args.a c.requires).most c.in-Some.ensures c.in-Some.block refl).1

pub returns-in-Some-clause-size : goal.returns-in-Some-clause-size
returns-in-Some-clause-size g c =
    let x : Ticket = record { number = length c.self.inside.births.items; block = c.in-Some.block } in
    let e = made-with _ _ _ _ x c.and-self-inside-in-Some.ensures c.again.ensures c.after-new.ensures in
    let new = aligned-more _ _ _ _ _ c.args.n c.args.a _ (g.met.L.Layer.made c.self.inside.root) c.self.invariant.owned (good-alignment c.args.a c.requires).power (good-alignment c.args.a c.requires).most c.in-Some.ensures x refl in
    let k = made-live _ _ x e in
    rw c.after-new.ensures
    (ap length (bytes-live _ x k)
    ∙ (slice-size _ x.block (live-room _ _ _ (g.met.L.Layer.made c.aligned_allocate.new.self) new x (made-live _ _ x refl))
    ∙ (aligned-new _ _ _ _ _ c.args.n c.args.a _ (g.met.L.Layer.made c.self.inside.root) c.self.invariant.owned (good-alignment c.args.a c.requires).power (good-alignment c.args.a c.requires).most c.in-Some.ensures c.in-Some.block refl).0.len))

pub returns-in-Some-clause-others : goal.returns-in-Some-clause-others
returns-in-Some-clause-others g c =
    let x : Ticket = record { number = length c.self.inside.births.items; block = c.in-Some.block } in
    let e = made-with _ _ _ _ x c.and-self-inside-in-Some.ensures c.again.ensures c.after-new.ensures in
    rw (← c.self.view_is) (λ b n.
    bytes-kept _ _ b (made-other _ _ x b e (λ q. n (q ∙ c.self.invariant.counted)))
    (aligned-bytes _ _ _ _ _ c.args.n c.args.a _ (g.met.L.Layer.made c.self.inside.root) c.self.invariant.owned (good-alignment c.args.a c.requires).power (good-alignment c.args.a c.requires).most c.in-Some.ensures b))

pub returns-in-Some-clause-rule : goal.returns-in-Some-clause-rule
unfolding AlignedAllocatesIn
returns-in-Some-clause-rule g c = rw (← c.self.view_is, c.after-new.ensures) (λ e. c.in-Some.ensures)

pub returns-in-None-clause-others : goal.returns-in-None-clause-others
returns-in-None-clause-others g c = rw (← c.self.view_is) (λ b n. bytes-kept _ _ b refl (aligned-bytes _ _ _ _ _ c.args.n c.args.a _ (g.met.L.Layer.made c.self.inside.root) c.self.invariant.owned (good-alignment c.args.a c.requires).power (good-alignment c.args.a c.requires).most c.in-None.ensures b))

pub returns-in-None-clause-rule : goal.returns-in-None-clause-rule
unfolding AlignedAllocatesIn
returns-in-None-clause-rule g c = rw (← c.self.view_is) (λ e. c.in-None.ensures)

pub returns-in-Some-clause-apart : goal.returns-in-Some-clause-apart
returns-in-Some-clause-apart g c =
    let x : Ticket = record { number = length c.self.inside.births.items; block = c.in-Some.block } in
    let new = aligned-more _ _ _ _ _ c.args.n c.args.a _ (g.met.L.Layer.made c.self.inside.root) c.self.invariant.owned (good-alignment c.args.a c.requires).power (good-alignment c.args.a c.requires).most c.in-Some.ensures x refl in
    rw (← c.self.view_is, c.after-new.ensures) (new-apart _ _ _ x (g.met.L.Layer.made c.aligned_allocate.new.self) new)
