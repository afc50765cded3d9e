-- The block has its new length and its bytes, and the others stay.
use Rattle.std.proofs.Common.{◌∙◌, ap, sym, subst, ◌∷◌, true, false, length, min, take, refl, arith}
use Rattle.owned_heap.specs.Ticket.{Ticket}
use Rattle.owned_heap.specs.Events.{made}
use Rattle.owned_heap.specs.Owned.{IsOwned, ReallocatesIn}
use Rattle.owned_heap.specs.declared.block.Event.TheVariants.{Gone}
use Rattle.owned_heap.proofs.Owning.{live-at, live-out, live-marked, live-room, unmoved-owned, unmoved-bytes, moved-len, moved-owned, new-apart, moved-bytes, moved-carried, changed-events, changed-other, reallocates-as, unmoved-same, bytes-kept, bytes-live, made-live, slice-size}
use Rattle.owned_heap.proofs.heap.OwnedHeap.reallocate.Goals as goal

pub reallocate-requires-clause-out : goal.reallocate-requires-clause-out
reallocate-requires-clause-out g c = rw c.block-block.ensures (live-out _ _ _ (g.met.L.Layer.made c.self.inside.root) c.self.invariant.owned c.args.b.now (live-at _ _ c.args.b.now c.self.view_is c.requires.live))

pub reallocate-requires-clause-marked : goal.reallocate-requires-clause-marked
reallocate-requires-clause-marked g c = rw c.block-block.ensures (live-marked _ _ _ (g.met.L.Layer.made c.self.inside.root) c.self.invariant.owned c.args.b.now (live-at _ _ c.args.b.now c.self.view_is c.requires.live))

pub invariant_of-self : goal.invariant_of-self
invariant_of-self g c = record { owned = unmoved-owned _ _ _ _ _ c.args.b.now _ c.args.n (g.met.L.Layer.made c.self.inside.root) c.self.invariant.owned (live-at _ _ c.args.b.now c.self.view_is c.requires.live) (reallocates-as _ _ _ _ _ _ c.args.n _ false c.if-not-reallocate.true (rw c.block-block.ensures at c.reallocate.ensures)); counted = c.self.invariant.counted }

pub returns-then-not-reallocate-clause-same_bytes : goal.returns-then-not-reallocate-clause-same_bytes
returns-then-not-reallocate-clause-same_bytes g c = rw (← c.self.view_is) (bytes-kept _ _ c.args.b.now refl (unmoved-bytes _ _ _ _ _ c.args.b.now _ c.args.n (g.met.L.Layer.made c.self.inside.root) c.self.invariant.owned (live-at _ _ c.args.b.now c.self.view_is c.requires.live) (reallocates-as _ _ _ _ _ _ c.args.n _ false c.if-not-reallocate.true (rw c.block-block.ensures at c.reallocate.ensures)) c.args.b.now))

pub returns-then-not-reallocate-clause-others : goal.returns-then-not-reallocate-clause-others
returns-then-not-reallocate-clause-others g c = rw (← c.self.view_is) (λ b n k. bytes-kept _ _ b refl (unmoved-bytes _ _ _ _ _ c.args.b.now _ c.args.n (g.met.L.Layer.made c.self.inside.root) c.self.invariant.owned (live-at _ _ c.args.b.now c.self.view_is c.requires.live) (reallocates-as _ _ _ _ _ _ c.args.n _ false c.if-not-reallocate.true (rw c.block-block.ensures at c.reallocate.ensures)) b))

pub returns-then-not-reallocate-clause-rule : goal.returns-then-not-reallocate-clause-rule
unfolding ReallocatesIn
returns-then-not-reallocate-clause-rule g c = rw (← c.self.view_is) (unmoved-same _ _ _ _ _ _ c.args.n (g.met.L.Layer.made c.self.inside.root) (reallocates-as _ _ _ _ _ _ c.args.n _ false c.if-not-reallocate.true (rw c.block-block.ensures at c.reallocate.ensures)))

pub invariant_of-self-2 : goal.invariant_of-self-2
invariant_of-self-2 g c =
    let x : Ticket = record { number = length c.self.inside.births.items; block = c.reallocate.new.b } in
    let e = changed-events _ _ _ _ c.args.b.now _ _ x c.and-gone.ensures c.again.ensures c.and-self-inside-2.ensures c.again-2.ensures c.after-moved.ensures in
    record {
      owned = subst (IsOwned (g.L.Layer.model c.reallocate.new.self) c.reallocate.new.space) (sym e) (moved-owned _ _ _ _ _ c.args.b.now _ c.args.n (g.met.L.Layer.made c.self.inside.root) c.self.invariant.owned (live-at _ _ c.args.b.now c.self.view_is c.requires.live) x refl c.requires.some (reallocates-as _ _ _ _ _ _ c.args.n _ true c.if-not-reallocate.false (rw c.block-block.ensures at c.reallocate.ensures)));
      counted = omega (arith, ap length c.and-self-inside.ensures, c.self.invariant.counted, ap made e);
    }

pub returns-clause-len : goal.returns-clause-len
returns-clause-len g c = ap (λ (y : Ticket). y.block.len) c.after-moved.ensures ∙ moved-len _ _ _ _ _ c.args.b.now _ c.args.n (g.met.L.Layer.made c.self.inside.root) c.self.invariant.owned (live-at _ _ c.args.b.now c.self.view_is c.requires.live) (reallocates-as _ _ _ _ _ _ c.args.n _ true c.if-not-reallocate.false (rw c.block-block.ensures at c.reallocate.ensures))

pub returns-clause-size : goal.returns-clause-size
returns-clause-size g c =
    let x : Ticket = record { number = length c.self.inside.births.items; block = c.reallocate.new.b } in
    let e = changed-events _ _ _ _ c.args.b.now _ _ x c.and-gone.ensures c.again.ensures c.and-self-inside-2.ensures c.again-2.ensures c.after-moved.ensures in
    let owned = moved-owned _ _ _ _ _ c.args.b.now _ c.args.n (g.met.L.Layer.made c.self.inside.root) c.self.invariant.owned (live-at _ _ c.args.b.now c.self.view_is c.requires.live) x refl c.requires.some (reallocates-as _ _ _ _ _ _ c.args.n _ true c.if-not-reallocate.false (rw c.block-block.ensures at c.reallocate.ensures)) in
    rw c.after-moved.ensures
    (ap length (bytes-live _ x (made-live _ _ x e))
    ∙ (slice-size _ x.block (live-room _ _ _ (g.met.L.Layer.made c.reallocate.new.self) owned x (made-live (Gone c.args.b.now ∷ c.self.inside.events.items) _ x refl)) ∙ moved-len _ _ _ _ _ c.args.b.now _ c.args.n (g.met.L.Layer.made c.self.inside.root) c.self.invariant.owned (live-at _ _ c.args.b.now c.self.view_is c.requires.live) (reallocates-as _ _ _ _ _ _ c.args.n _ true c.if-not-reallocate.false (rw c.block-block.ensures at c.reallocate.ensures))))

pub returns-clause-kept : goal.returns-clause-kept
returns-clause-kept g c =
    let x : Ticket = record { number = length c.self.inside.births.items; block = c.reallocate.new.b } in
    let e = changed-events _ _ _ _ c.args.b.now _ _ x c.and-gone.ensures c.again.ensures c.and-self-inside-2.ensures c.again-2.ensures c.after-moved.ensures in
    let owned = moved-owned _ _ _ _ _ c.args.b.now _ c.args.n (g.met.L.Layer.made c.self.inside.root) c.self.invariant.owned (live-at _ _ c.args.b.now c.self.view_is c.requires.live) x refl c.requires.some (reallocates-as _ _ _ _ _ _ c.args.n _ true c.if-not-reallocate.false (rw c.block-block.ensures at c.reallocate.ensures)) in
    rw (← c.self.view_is, c.after-moved.ensures)
    (ap (take (min c.args.b.now.block.len c.args.n)) (bytes-live _ x (made-live _ _ x e))
    ∙ (moved-carried _ _ _ _ _ c.args.b.now _ c.args.n (g.met.L.Layer.made c.self.inside.root) c.self.invariant.owned (live-at _ _ c.args.b.now c.self.view_is c.requires.live) (reallocates-as _ _ _ _ _ _ c.args.n _ true c.if-not-reallocate.false (rw c.block-block.ensures at c.reallocate.ensures)) c.requires.some (live-room _ _ _ (g.met.L.Layer.made c.reallocate.new.self) owned x (made-live (Gone c.args.b.now ∷ c.self.inside.events.items) _ x refl))
    ∙ ap (take c.args.n) (sym (bytes-live _ c.args.b.now (live-at _ _ c.args.b.now c.self.view_is c.requires.live)))))

pub returns-clause-others : goal.returns-clause-others
returns-clause-others g c =
    let x : Ticket = record { number = length c.self.inside.births.items; block = c.reallocate.new.b } in
    let e = changed-events _ _ _ _ c.args.b.now _ _ x c.and-gone.ensures c.again.ensures c.and-self-inside-2.ensures c.again-2.ensures c.after-moved.ensures in
    rw (← c.self.view_is) (λ b n k.
    bytes-kept _ _ b (changed-other _ (Gone c.args.b.now ∷ c.self.inside.events.items) _ c.args.b.now x b refl e n (λ q. k (q ∙ c.self.invariant.counted))) (λ j. moved-bytes _ _ _ _ _ c.args.b.now _ c.args.n (g.met.L.Layer.made c.self.inside.root) c.self.invariant.owned (live-at _ _ c.args.b.now c.self.view_is c.requires.live) (reallocates-as _ _ _ _ _ _ c.args.n _ true c.if-not-reallocate.false (rw c.block-block.ensures at c.reallocate.ensures)) b j n))

pub returns-clause-rule : goal.returns-clause-rule
unfolding ReallocatesIn
returns-clause-rule g c = rw (← c.self.view_is, c.after-moved.ensures) (reallocates-as _ _ _ _ _ _ c.args.n _ true c.if-not-reallocate.false (rw c.block-block.ensures at c.reallocate.ensures))

pub returns-clause-apart : goal.returns-clause-apart
returns-clause-apart g c =
    let x : Ticket = record { number = length c.self.inside.births.items; block = c.reallocate.new.b } in
    let new = moved-owned _ _ _ _ _ c.args.b.now _ c.args.n (g.met.L.Layer.made c.self.inside.root) c.self.invariant.owned (live-at _ _ c.args.b.now c.self.view_is c.requires.live) x refl c.requires.some (reallocates-as _ _ _ _ _ _ c.args.n _ true c.if-not-reallocate.false (rw c.block-block.ensures at c.reallocate.ensures)) in
    rw (← c.self.view_is, c.after-moved.ensures) (new-apart _ _ (Gone c.args.b.now ∷ c.self.inside.events.items) x (g.met.L.Layer.made c.reallocate.new.self) new)
