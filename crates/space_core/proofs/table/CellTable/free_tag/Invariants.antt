use Rattle.std.proofs.Common.{length, ◌-◌}
use Rattle.space_core.proofs.Freeing.{IsFreed}
use Rattle.space_core.proofs.table.CellTable.free_tag.Given as goal

abbrev pub invariant-loop-from : goal.invariant-loop-from
invariant-loop-from l = IsFreed l.tag l.from l.initial.self l.self

abbrev pub decreases-loop-from : goal.decreases-loop-from
decreases-loop-from l = length l.initial.self - l.from
