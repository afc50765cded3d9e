use Rattle.std.proofs.Common.{◌-◌, length}
use Rattle.space_core.proofs.TableRuns.{NoneBefore}
use Rattle.space_core.proofs.table.CellTable.find_run.Given as goal

abbrev pub invariant-loop-from : goal.invariant-loop-from
invariant-loop-from l = NoneBefore l.align l.self l.cells l.from

abbrev pub decreases-loop-from : goal.decreases-loop-from
decreases-loop-from l = length l.self - l.from
