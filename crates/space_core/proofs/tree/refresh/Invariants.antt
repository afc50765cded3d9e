use Rattle.std.proofs.Common.{ℕ, ◌≡◌, ◌-◌, length}
use Rattle.space_core.specs.Trees.{Tells}
use Rattle.space_core.proofs.Nodes.{IsLevel, IsBeside}
use Rattle.space_core.proofs.tree.refresh.Given as goal

abbrev pub invariant-loop-len : goal.invariant-loop-len
invariant-loop-len l = record {
  size : length l.nodes ≡ l.width;
  level : IsLevel l.width l.len l.low l.high;
  tells : (i p n : ℕ) → IsBeside l.width l.len l.low l.high p n → Tells l.taken l.nodes i p n;
}

abbrev pub decreases-loop-len : goal.decreases-loop-len
decreases-loop-len l = l.width - l.len
