use Rattle.std.proofs.Common.{ℕ, ◌≡◌, ◌+◌, ◌≤◌, ◌<◌, slice_index, ◌⊎◌, inl, inr, arith}
use Rattle.std.proofs.lemmas.Bool.{cases_lt}
use Rattle.space_core.proofs.runs.tag_end.Goals as goal

pub loop-cell-init : goal.loop-cell-init
loop-cell-init c = λ p a b. absurd (omega arith)

pub returns-then-tags-cell-clause-has : goal.returns-then-tags-cell-clause-has
returns-then-tags-cell-clause-has c = c.loop-cell.invariant

pub loop-cell-preserved : goal.loop-cell-preserved
loop-cell-preserved c = λ p a b. at p a b (cases_lt p c.loop-cell.cell)
  where
    at : (p : ℕ) → c.args.from ≤ p → p < c.loop-cell.cell + 1 → (p < c.loop-cell.cell) ⊎ (c.loop-cell.cell ≤ p) → slice_index c.args.tags.now p ≡ c.args.tag
    at p a b (inl l) = c.loop-cell.invariant p a l
    at p a b (inr l) = let e : p ≡ c.loop-cell.cell = omega arith in rw e c.if-tags-cell.false

pub returns-clause-has : goal.returns-clause-has
returns-clause-has c = λ p a b. c.loop-cell.invariant p a (omega (arith, c.loop-cell-test.false))
