use Rattle.owned_heap.specs.Owned.{extent_len}
use Rattle.owned_heap.proofs.Owning.{live-at, live-routed}
use Rattle.owned_heap.proofs.heap.OwnedHeap.extent.Goals as goal

pub extent-requires : goal.extent-requires
extent-requires g c = rw c.block.ensures (live-routed _ _ _ (g.met.L.Layer.made c.self.inside.root) c.self.invariant.owned c.args.b.now (live-at _ _ c.args.b.now c.self.view_is c.requires))

pub returns : goal.returns
unfolding extent_len
returns g c = rw (← c.self.view_is) (rw c.block.ensures at c.extent.ensures)
