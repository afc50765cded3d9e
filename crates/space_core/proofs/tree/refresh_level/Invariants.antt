use Rattle.std.proofs.Common.{ℕ, ◌≡◌, ◌≤◌, length}
use Rattle.space_core.specs.Trees.{Tells}
use Rattle.space_core.proofs.tree.refresh_level.Given as goal

abbrev pub invariant-loop-i : goal.invariant-loop-i
invariant-loop-i l = record {
  size : length l.nodes ≡ length l.initial.nodes;
  tells : (i p n : ℕ) → ((l.low ≤ i → l.i ≤ i) → Tells l.taken l.initial.nodes i p n) → Tells l.taken l.nodes i p n;
}
