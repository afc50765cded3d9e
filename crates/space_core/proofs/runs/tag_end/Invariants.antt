use Rattle.std.proofs.Common.{ℕ, ◌≡◌, ◌≤◌, ◌<◌, slice_index}
use Rattle.space_core.proofs.runs.tag_end.Given as goal

abbrev pub invariant-loop-cell : goal.invariant-loop-cell
invariant-loop-cell l = (p : ℕ) → l.from ≤ p → p < l.cell → slice_index l.tags p ≡ l.tag
