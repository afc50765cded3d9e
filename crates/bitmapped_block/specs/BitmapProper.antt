-- What a bitmap asks of its numbers and of its parent.
use Rattle.std.specs.Prelude.{ℕ, ◌≤◌, ◌+◌}
use Rattle.layer_rules.specs.Rules.{Rules}
use Rattle.layer_laws.specs.Lawful.{most_nodes, most_layers}
use Rattle.bitmap_rules.specs.BitmapMeanings.{IsBitmapSize}

-- The numbers are in range, the parent's alignment is enough, and with the bitmap there are not too many layers.
pub record IsProper (unit count : ℕ) (e : Rules) : Type 0 where
  pub size : IsBitmapSize unit count e
  pub depth : e.depth + 1 ≤ most_layers
  pub few : e.nodes + 1 ≤ most_nodes
