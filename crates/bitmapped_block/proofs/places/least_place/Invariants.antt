use Rattle.std.proofs.Common.{◌-◌, ◌+◌, ◌*◌, ◌^◌, ◌≤◌, ◌<◌}
use Rattle.bitmapped_block.specs.UnitBits.{units_at}
use Rattle.bitmapped_block.proofs.Placing.{HasNoPlaceBefore}
use Rattle.bitmapped_block.proofs.places.least_place.Given as goal

abbrev pub invariant-loop-place : goal.invariant-loop-place
invariant-loop-place l = record {
  none : HasNoPlaceBefore l.units.size l.n l.align l.units.base (units_at l.space.bytes l.units.row) l.place;
  most : l.place < 2 ^ 42;
}

abbrev pub decreases-loop-place : goal.decreases-loop-place
decreases-loop-place l = l.end - l.place
