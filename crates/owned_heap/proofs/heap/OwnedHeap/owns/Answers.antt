use Rattle.std.proofs.Common.{refl}
use Rattle.owned_heap.specs.Owned.{holds, OwnsIn}
use Rattle.owned_heap.proofs.Owning.{asked_owns, bytes-kept}
use Rattle.owned_heap.proofs.heap.OwnedHeap.owns.Goals as goal

pub invariant_of-self : goal.invariant_of-self
invariant_of-self g c = record { owned = asked_owns _ _ _ _ c.args.b.now.block _ (g.met.L.Layer.made c.self.inside.root) c.self.invariant.owned (rw c.block.ensures at c.owns.ensures); counted = c.self.invariant.counted }

pub returns-clause-answer : goal.returns-clause-answer
unfolding holds
returns-clause-answer g c = rw (← c.self.view_is) (rw c.block.ensures at c.owns.ensures).answer

pub returns-clause-bytes : goal.returns-clause-bytes
returns-clause-bytes g c = rw (← c.self.view_is) (λ b. bytes-kept _ _ b refl (λ k. refl))

pub returns-clause-rule : goal.returns-clause-rule
unfolding OwnsIn
returns-clause-rule g c = rw (← c.self.view_is) (rw c.block.ensures at c.owns.ensures)
