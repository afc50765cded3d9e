use Rattle.std.proofs.Common.{ℕ, arith}
use Rattle.std.proofs.lemmas.Grind.{common_steps}
use Rattle.space_core.specs.Cells.{tag_cells}
use Rattle.space_core.proofs.CellRuns.{put_run-nil, length-put_run}
use Rattle.space_core.specs.Held.{held_memory}
use Rattle.space_core.specs.Memory.{Memory, IsMemory}
use Rattle.space_core.proofs.Space.put_tag.Goals as goal
use Rattle.space_core.proofs.Space.put_tag.Goals.{in-Open, in_default}

memory-tagged : (tag i n : ℕ) (m : Memory) → IsMemory m → IsMemory (record m { cells = tag_cells tag i n m.cells })
memory-tagged tag i n m h = record {
  sizes = rw (length-put_run tag i n m.cells.tags) h.sizes;
  cells = rw (length-put_run tag i n m.cells.tags) h.cells;
  leaves = h.leaves;
}

pub returns-clause-after : goal.returns-clause-after
returns-clause-after c =
    elim c.match-self.branch [
      | in-Open w ↦ rw (w.self-inside-is, ← c.self.view_is) (grind (arith, common_steps, length-put_run))
      | in_default w ↦ rw (w.self-inside-is, ← c.self.view_is, w.in_default.is, put_run-nil)
    ]

pub returns-clause-memory : goal.returns-clause-memory
returns-clause-memory c =
    rw (returns-clause-after c, ← c.self.view_is) (memory-tagged c.args.tag c.args.first c.args.cells (held_memory c.self.inside.store c.self.inside.leaves) c.self.invariant)

pub invariant_of-self : goal.invariant_of-self
invariant_of-self c = returns-clause-memory c
