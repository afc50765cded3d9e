-- What a free list asks of its numbers and of its parent.
use Rattle.std.specs.Prelude.{ℕ, ◌≤◌, ◌+◌}
use Rattle.layer_rules.specs.Rules.{Rules}
use Rattle.layer_laws.specs.Lawful.{most_nodes, most_layers}
use Rattle.free_list_rules.specs.FreeListMeanings.{IsCacheSize}

-- The lengths are in range, and with the free list there are not too many layers.
pub record IsProper (least greatest : ℕ) (e : Rules) : Type 0 where
  pub size : IsCacheSize least greatest
  pub depth : e.depth + 1 ≤ most_layers
  pub few : e.nodes + 1 ≤ most_nodes
