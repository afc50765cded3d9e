use Rattle.std.proofs.Common.{◌-◌, ◌≤◌}
use Rattle.bitmapped_block.proofs.Putting.{IsPutUpTo}
use Rattle.bitmapped_block.proofs.bits.put.Given as goal

abbrev pub invariant-loop-at : goal.invariant-loop-at
invariant-loop-at l = record { put : IsPutUpTo l.taken l.row l.first l.at l.fn.space l.space; within : l.at ≤ l.end }

abbrev pub decreases-loop-at : goal.decreases-loop-at
decreases-loop-at l = l.end - l.at
