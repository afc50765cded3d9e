use Rattle.std.proofs.Common.{◌-◌, ◌≤◌}
use Rattle.bitmapped_block.specs.UnitBits.{units_at}
use Rattle.bitmapped_block.proofs.Seeking.{HasNoneBefore}
use Rattle.bitmapped_block.proofs.bits.least_run.Given as goal

abbrev pub invariant-loop-at : goal.invariant-loop-at
invariant-loop-at l = record { within : l.at ≤ l.row.count; none : HasNoneBefore l.n (units_at l.space.bytes l.row) l.at }

abbrev pub decreases-loop-at : goal.decreases-loop-at
decreases-loop-at l = l.row.count - l.at
