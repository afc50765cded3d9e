-- The block is live no more, and the others stay.
use Rattle.std.proofs.Common.{◌∙◌, ap, sym, subst}
use Rattle.owned_heap.specs.Owned.{IsOwned, DeallocatesIn}
use Rattle.owned_heap.specs.Events.{made}
use Rattle.owned_heap.proofs.Owning.{live-at, live-out, live-marked, freed-owned, freed-bytes, bytes-kept, gone-other}
use Rattle.owned_heap.proofs.heap.OwnedHeap.deallocate.Goals as goal

pub deallocate-yes-requires-clause-out : goal.deallocate-yes-requires-clause-out
deallocate-yes-requires-clause-out g c = rw c.block.ensures (live-out _ _ _ (g.met.L.Layer.made c.self.inside.root) c.self.invariant.owned c.args.b (live-at _ _ c.args.b c.self.view_is c.requires))

pub deallocate-yes-requires-clause-marked : goal.deallocate-yes-requires-clause-marked
deallocate-yes-requires-clause-marked g c = rw c.block.ensures (live-marked _ _ _ (g.met.L.Layer.made c.self.inside.root) c.self.invariant.owned c.args.b (live-at _ _ c.args.b c.self.view_is c.requires))

pub invariant_of-self : goal.invariant_of-self
invariant_of-self g c = record {
  owned =
      subst (IsOwned (g.L.Layer.model c.deallocate-yes.new.self) c.deallocate-yes.new.space) (sym c.and-self-inside.ensures)
      (freed-owned _ _ _ _ _ c.args.b _ (g.met.L.Layer.made c.self.inside.root) c.self.invariant.owned (live-at _ _ c.args.b c.self.view_is c.requires) (rw c.block.ensures at c.deallocate-yes.ensures));
  counted = c.self.invariant.counted ∙ sym (ap made c.and-self-inside.ensures);
}

pub returns-clause-others : goal.returns-clause-others
returns-clause-others g c =
    rw (← c.self.view_is) (λ b n.
    bytes-kept _ _ b (gone-other _ _ c.args.b b c.and-self-inside.ensures n)
    (λ k.
    freed-bytes _ _ _ _ _ c.args.b _ (g.met.L.Layer.made c.self.inside.root) c.self.invariant.owned (live-at _ _ c.args.b c.self.view_is c.requires) (rw c.block.ensures at c.deallocate-yes.ensures) b k n))

pub returns-clause-rule : goal.returns-clause-rule
unfolding DeallocatesIn
returns-clause-rule g c = rw (← c.self.view_is) (rw c.block.ensures at c.deallocate-yes.ensures)
