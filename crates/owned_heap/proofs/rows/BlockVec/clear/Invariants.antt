use Rattle.std.proofs.Common.{length}
use Rattle.owned_heap.proofs.Clearing.{Clears}
use Rattle.owned_heap.proofs.rows.BlockVec.clear.Given as goal

abbrev pub invariant-loop-self : goal.invariant-loop-self
invariant-loop-self g l = Clears g.L.Layer.model l.initial.self l.self

abbrev pub decreases-loop-self : goal.decreases-loop-self
decreases-loop-self g l = length l.self.rows
