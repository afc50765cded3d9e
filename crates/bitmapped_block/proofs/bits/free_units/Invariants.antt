use Rattle.std.proofs.Common.{◌-◌}
use Rattle.bitmapped_block.specs.UnitBits.{units_at}
use Rattle.bitmapped_block.proofs.Tallying.{IsCounted}
use Rattle.bitmapped_block.proofs.bits.free_units.Given as goal

abbrev pub invariant-loop-at : goal.invariant-loop-at
invariant-loop-at l = IsCounted (units_at l.space.bytes l.row) l.at l.free.count l.free.longest

abbrev pub decreases-loop-at : goal.decreases-loop-at
decreases-loop-at l = l.row.count - l.at
