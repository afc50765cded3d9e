-- The block is longer with its bytes, and the others stay.
use Rattle.std.proofs.Common.{◌∙◌, ap, sym, subst, ◌∷◌, true, false, length, take, refl, arith}
use Rattle.layer_rules.specs.declared.Block.{Block}
use Rattle.layer_rules.specs.declared.Offers.{Offers}
use Rattle.owned_heap.specs.Ticket.{Ticket}
use Rattle.owned_heap.specs.Events.{made}
use Rattle.owned_heap.specs.Owned.{IsOwned, ExpandsIn}
use Rattle.owned_heap.specs.declared.block.Event.TheVariants.{Gone}
use Rattle.owned_heap.proofs.Owning.{live-at, live-out, live-marked, live-room, unexpanded-owned, unexpanded-bytes, unexpanded-same, expanded-owned, new-apart, expanded-bytes, expanded-block, expanded-carried, changed-events, changed-other, expands-as, bytes-kept, bytes-live, made-live, slice-size, not_true}
use Rattle.owned_heap.proofs.heap.OwnedHeap.expand.Goals as goal

pub returns-then-not-offers-clause-rule : goal.returns-then-not-offers-clause-rule
unfolding ExpandsIn
returns-then-not-offers-clause-rule g c =
    rw (← c.self.view_is) (λ e. let f = ap (λ (o : Offers). o.expand) c.offers.ensures ∙ e in let no = not_true _ c.if-not-offers.true in absurd (cc))

pub expand-requires-clause-out : goal.expand-requires-clause-out
expand-requires-clause-out g c = rw c.block-block.ensures (live-out _ _ _ (g.met.L.Layer.made c.self.inside.root) c.self.invariant.owned c.args.b.now (live-at _ _ c.args.b.now c.self.view_is c.requires))

pub expand-requires-clause-marked : goal.expand-requires-clause-marked
expand-requires-clause-marked g c = rw c.block-block.ensures (live-marked _ _ _ (g.met.L.Layer.made c.self.inside.root) c.self.invariant.owned c.args.b.now (live-at _ _ c.args.b.now c.self.view_is c.requires))

pub invariant_of-self : goal.invariant_of-self
invariant_of-self g c = record { owned = unexpanded-owned _ _ _ _ _ c.args.b.now _ c.args.delta (g.met.L.Layer.made c.self.inside.root) c.self.invariant.owned (live-at _ _ c.args.b.now c.self.view_is c.requires) (expands-as _ _ _ _ _ _ c.args.delta _ false c.if-not-expand.true (rw c.block-block.ensures at c.expand.ensures)); counted = c.self.invariant.counted }

pub returns-then-not-expand-clause-same_bytes : goal.returns-then-not-expand-clause-same_bytes
returns-then-not-expand-clause-same_bytes g c = rw (← c.self.view_is) (bytes-kept _ _ c.args.b.now refl (unexpanded-bytes _ _ _ _ _ c.args.b.now _ c.args.delta (g.met.L.Layer.made c.self.inside.root) c.self.invariant.owned (live-at _ _ c.args.b.now c.self.view_is c.requires) (expands-as _ _ _ _ _ _ c.args.delta _ false c.if-not-expand.true (rw c.block-block.ensures at c.expand.ensures)) c.args.b.now))

pub returns-then-not-expand-clause-others : goal.returns-then-not-expand-clause-others
returns-then-not-expand-clause-others g c = rw (← c.self.view_is) (λ b n k. bytes-kept _ _ b refl (unexpanded-bytes _ _ _ _ _ c.args.b.now _ c.args.delta (g.met.L.Layer.made c.self.inside.root) c.self.invariant.owned (live-at _ _ c.args.b.now c.self.view_is c.requires) (expands-as _ _ _ _ _ _ c.args.delta _ false c.if-not-expand.true (rw c.block-block.ensures at c.expand.ensures)) b))

pub returns-then-not-expand-clause-rule : goal.returns-then-not-expand-clause-rule
unfolding ExpandsIn
returns-then-not-expand-clause-rule g c = rw (← c.self.view_is) (λ o. unexpanded-same _ _ _ _ _ _ c.args.delta (g.met.L.Layer.made c.self.inside.root) (expands-as _ _ _ _ _ _ c.args.delta _ false c.if-not-expand.true (rw c.block-block.ensures at c.expand.ensures)))

pub invariant_of-self-2 : goal.invariant_of-self-2
invariant_of-self-2 g c =
    let x : Ticket = record { number = length c.self.inside.births.items; block = c.expand.new.b } in
    let e = changed-events _ _ _ _ c.args.b.now _ _ x c.and-gone.ensures c.again.ensures c.and-self-inside-2.ensures c.again-2.ensures c.after-longer.ensures in
    record {
      owned = subst (IsOwned (g.L.Layer.model c.expand.new.self) c.expand.new.space) (sym e) (expanded-owned _ _ _ _ _ c.args.b.now _ c.args.delta (g.met.L.Layer.made c.self.inside.root) c.self.invariant.owned (live-at _ _ c.args.b.now c.self.view_is c.requires) x refl (expands-as _ _ _ _ _ _ c.args.delta _ true c.if-not-expand.false (rw c.block-block.ensures at c.expand.ensures)));
      counted = omega (arith, ap length c.and-self-inside.ensures, c.self.invariant.counted, ap made e);
    }

pub returns-clause-size : goal.returns-clause-size
returns-clause-size g c =
    let x : Ticket = record { number = length c.self.inside.births.items; block = c.expand.new.b } in
    let e = changed-events _ _ _ _ c.args.b.now _ _ x c.and-gone.ensures c.again.ensures c.and-self-inside-2.ensures c.again-2.ensures c.after-longer.ensures in
    let owned = expanded-owned _ _ _ _ _ c.args.b.now _ c.args.delta (g.met.L.Layer.made c.self.inside.root) c.self.invariant.owned (live-at _ _ c.args.b.now c.self.view_is c.requires) x refl (expands-as _ _ _ _ _ _ c.args.delta _ true c.if-not-expand.false (rw c.block-block.ensures at c.expand.ensures)) in
    rw c.after-longer.ensures
    (ap length (bytes-live _ x (made-live _ _ x e))
    ∙ (slice-size _ x.block (live-room _ _ _ (g.met.L.Layer.made c.expand.new.self) owned x (made-live (Gone c.args.b.now ∷ c.self.inside.events.items) _ x refl)) ∙ ap (λ (y : Block). y.len) (expanded-block _ _ _ _ _ c.args.b.now _ c.args.delta (g.met.L.Layer.made c.self.inside.root) c.self.invariant.owned (live-at _ _ c.args.b.now c.self.view_is c.requires) (expands-as _ _ _ _ _ _ c.args.delta _ true c.if-not-expand.false (rw c.block-block.ensures at c.expand.ensures)))))

pub returns-clause-kept : goal.returns-clause-kept
returns-clause-kept g c =
    let x : Ticket = record { number = length c.self.inside.births.items; block = c.expand.new.b } in
    let e = changed-events _ _ _ _ c.args.b.now _ _ x c.and-gone.ensures c.again.ensures c.and-self-inside-2.ensures c.again-2.ensures c.after-longer.ensures in
    let owned = expanded-owned _ _ _ _ _ c.args.b.now _ c.args.delta (g.met.L.Layer.made c.self.inside.root) c.self.invariant.owned (live-at _ _ c.args.b.now c.self.view_is c.requires) x refl (expands-as _ _ _ _ _ _ c.args.delta _ true c.if-not-expand.false (rw c.block-block.ensures at c.expand.ensures)) in
    rw (← c.self.view_is, c.after-longer.ensures)
    (ap (take c.args.b.now.block.len) (bytes-live _ x (made-live _ _ x e))
    ∙ (expanded-carried _ _ _ _ _ c.args.b.now _ c.args.delta (g.met.L.Layer.made c.self.inside.root) c.self.invariant.owned (live-at _ _ c.args.b.now c.self.view_is c.requires) (expands-as _ _ _ _ _ _ c.args.delta _ true c.if-not-expand.false (rw c.block-block.ensures at c.expand.ensures)) (live-room _ _ _ (g.met.L.Layer.made c.expand.new.self) owned x (made-live (Gone c.args.b.now ∷ c.self.inside.events.items) _ x refl))
    ∙ sym (bytes-live _ c.args.b.now (live-at _ _ c.args.b.now c.self.view_is c.requires))))

pub returns-clause-others : goal.returns-clause-others
returns-clause-others g c =
    let x : Ticket = record { number = length c.self.inside.births.items; block = c.expand.new.b } in
    let e = changed-events _ _ _ _ c.args.b.now _ _ x c.and-gone.ensures c.again.ensures c.and-self-inside-2.ensures c.again-2.ensures c.after-longer.ensures in
    rw (← c.self.view_is) (λ b n k.
    bytes-kept _ _ b (changed-other _ (Gone c.args.b.now ∷ c.self.inside.events.items) _ c.args.b.now x b refl e n (λ q. k (q ∙ c.self.invariant.counted))) (λ j. expanded-bytes _ _ _ _ _ c.args.b.now _ c.args.delta (g.met.L.Layer.made c.self.inside.root) c.self.invariant.owned (live-at _ _ c.args.b.now c.self.view_is c.requires) (expands-as _ _ _ _ _ _ c.args.delta _ true c.if-not-expand.false (rw c.block-block.ensures at c.expand.ensures)) b j n))

pub returns-clause-rule : goal.returns-clause-rule
unfolding ExpandsIn
returns-clause-rule g c = rw (← c.self.view_is, c.after-longer.ensures) (λ o. (expands-as _ _ _ _ _ _ c.args.delta _ true c.if-not-expand.false (rw c.block-block.ensures at c.expand.ensures)))

pub returns-clause-apart : goal.returns-clause-apart
returns-clause-apart g c =
    let x : Ticket = record { number = length c.self.inside.births.items; block = c.expand.new.b } in
    let new = expanded-owned _ _ _ _ _ c.args.b.now _ c.args.delta (g.met.L.Layer.made c.self.inside.root) c.self.invariant.owned (live-at _ _ c.args.b.now c.self.view_is c.requires) x refl (expands-as _ _ _ _ _ _ c.args.delta _ true c.if-not-expand.false (rw c.block-block.ensures at c.expand.ensures)) in
    rw (← c.self.view_is, c.after-longer.ensures) (new-apart _ _ (Gone c.args.b.now ∷ c.self.inside.events.items) x (g.met.L.Layer.made c.expand.new.self) new)
