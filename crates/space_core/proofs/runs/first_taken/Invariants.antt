use Rattle.std.proofs.Common.{◌≡◌, ◌+◌, ◌-◌}
use Rattle.space_core.proofs.CellRuns.{row}
use Rattle.space_core.specs.Runs.{is_free_run}
use Rattle.space_core.proofs.runs.first_taken.Given as goal

abbrev pub invariant-loop-cell : goal.invariant-loop-cell
invariant-loop-cell l = is_free_run (row l.tags) l.cell ((l.from + l.cells) - l.cell) ≡ is_free_run (row l.tags) l.from l.cells
