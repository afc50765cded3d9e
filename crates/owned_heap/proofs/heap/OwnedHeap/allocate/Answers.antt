-- The new block is live, and the others stay.
use Rattle.std.proofs.Common.{◌∙◌, ap, sym, subst, length, refl, arith}
use Rattle.owned_heap.specs.Ticket.{Ticket}
use Rattle.owned_heap.specs.Events.{made}
use Rattle.owned_heap.specs.Owned.{IsOwned, is_refused, AllocatesIn}
use Rattle.owned_heap.proofs.Owning.{asked-owned, asked-bytes, asked-none, given-owned, given-new, new-apart, bytes-kept, bytes-live, made-with, made-other, made-live, live-room, slice-size}
use Rattle.owned_heap.proofs.heap.OwnedHeap.allocate.Goals as goal

pub invariant_of-self : goal.invariant_of-self
invariant_of-self g c =
    let x : Ticket = record { number = length c.self.inside.births.items; block = c.in-Some.block } in
    let e = made-with _ _ _ _ x c.and-self-inside-in-Some.ensures c.again.ensures c.after-new.ensures in
    record {
      owned =
          subst (IsOwned (g.L.Layer.model c.allocate.new.self) c.allocate.new.space) (sym e)
          (given-owned _ _ _ _ _ _ x (g.met.L.Layer.made c.self.inside.root) c.self.invariant.owned c.in-Some.ensures);
      counted = omega (arith, ap length c.and-self-inside.ensures, c.self.invariant.counted, ap made e);
    }

pub invariant_of-self-in-None : goal.invariant_of-self-in-None
invariant_of-self-in-None g c = record {
  owned = asked-owned _ _ _ _ _ _ _ (g.met.L.Layer.made c.self.inside.root) c.self.invariant.owned c.in-None.ensures;
  counted = c.self.invariant.counted;
}

pub returns-in-Some-clause-none : goal.returns-in-Some-clause-none
unfolding is_refused
returns-in-Some-clause-none g c = rw (← c.self.view_is) (asked-none _ _ _ _ _ _ (g.met.L.Layer.made c.self.inside.root) c.self.invariant.owned.stands c.in-Some.ensures)

pub returns-in-Some-clause-len : goal.returns-in-Some-clause-len
returns-in-Some-clause-len g c =
    let x : Ticket = record { number = length c.self.inside.births.items; block = c.in-Some.block } in
    ap (λ (y : Ticket). y.block.len) c.after-new.ensures ∙ (given-new _ _ _ _ _ _ x (g.met.L.Layer.made c.self.inside.root) c.self.invariant.owned c.in-Some.ensures).len

pub returns-in-Some-clause-size : goal.returns-in-Some-clause-size
returns-in-Some-clause-size g c =
    let x : Ticket = record { number = length c.self.inside.births.items; block = c.in-Some.block } in
    let l = g.met.L.Layer.made c.self.inside.root in
    let e = made-with _ _ _ _ x c.and-self-inside-in-Some.ensures c.again.ensures c.after-new.ensures in
    let new = given-owned _ _ _ _ _ _ x l c.self.invariant.owned c.in-Some.ensures in
    let k = made-live _ _ x e in
    rw c.after-new.ensures
    (ap length (bytes-live _ x k)
    ∙ (slice-size _ x.block (live-room _ _ _ (g.met.L.Layer.made c.allocate.new.self) new x (made-live _ _ x refl))
    ∙ (given-new _ _ _ _ _ _ x l c.self.invariant.owned c.in-Some.ensures).len))

pub returns-in-Some-clause-others : goal.returns-in-Some-clause-others
returns-in-Some-clause-others g c =
    let x : Ticket = record { number = length c.self.inside.births.items; block = c.in-Some.block } in
    let e = made-with _ _ _ _ x c.and-self-inside-in-Some.ensures c.again.ensures c.after-new.ensures in
    rw (← c.self.view_is) (λ b n.
    bytes-kept _ _ b (made-other _ _ x b e (λ q. n (q ∙ c.self.invariant.counted)))
    (asked-bytes _ _ _ _ _ _ _ (g.met.L.Layer.made c.self.inside.root) c.self.invariant.owned c.in-Some.ensures b))

pub returns-in-Some-clause-rule : goal.returns-in-Some-clause-rule
unfolding AllocatesIn
returns-in-Some-clause-rule g c = rw (← c.self.view_is, c.after-new.ensures) c.in-Some.ensures

pub returns-in-None-clause-none : goal.returns-in-None-clause-none
unfolding is_refused
returns-in-None-clause-none g c = rw (← c.self.view_is) (asked-none _ _ _ _ _ _ (g.met.L.Layer.made c.self.inside.root) c.self.invariant.owned.stands c.in-None.ensures)

pub returns-in-None-clause-others : goal.returns-in-None-clause-others
returns-in-None-clause-others g c =
    rw (← c.self.view_is) (λ b n.
    bytes-kept _ _ b refl (asked-bytes _ _ _ _ _ _ _ (g.met.L.Layer.made c.self.inside.root) c.self.invariant.owned c.in-None.ensures b))

pub returns-in-None-clause-rule : goal.returns-in-None-clause-rule
unfolding AllocatesIn
returns-in-None-clause-rule g c = rw (← c.self.view_is) c.in-None.ensures

pub returns-in-Some-clause-apart : goal.returns-in-Some-clause-apart
returns-in-Some-clause-apart g c =
    let x : Ticket = record { number = length c.self.inside.births.items; block = c.in-Some.block } in
    let new = given-owned _ _ _ _ _ _ x (g.met.L.Layer.made c.self.inside.root) c.self.invariant.owned c.in-Some.ensures in
    rw (← c.self.view_is, c.after-new.ensures) (new-apart _ _ _ x (g.met.L.Layer.made c.allocate.new.self) new)
