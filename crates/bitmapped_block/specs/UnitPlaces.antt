-- What is asked of units that stand side by side.
use Rattle.std.specs.Prelude.{ℕ, ◌+◌, ◌*◌, ◌^◌, ◌≤◌}
use Rattle.bitmapped_block.specs.declared.places.Units.{Units}

-- a unit has some bytes, and the last one ends before the greatest place
pub record AreUnits (u : Units) : Type 0 where
  pub some : 1 ≤ u.size
  pub end : u.base + u.size * u.row.count ≤ 2 ^ 41
