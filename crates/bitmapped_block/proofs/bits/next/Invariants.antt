use Rattle.std.proofs.Common.{◌-◌}
use Rattle.bitmapped_block.proofs.Scanning.{IsPassed}
use Rattle.bitmapped_block.proofs.bits.next.Given as goal

abbrev pub invariant-loop-at : goal.invariant-loop-at
invariant-loop-at l = IsPassed l.taken l.space.bytes l.row l.from l.upto l.at

abbrev pub decreases-loop-at : goal.decreases-loop-at
decreases-loop-at l = l.upto - l.at
