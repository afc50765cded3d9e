-- What a collector asks of its parent.
use Rattle.std.specs.Prelude.{◌≤◌, ◌+◌}
use Rattle.layer_rules.specs.Rules.{Rules}
use Rattle.layer_laws.specs.Lawful.{most_nodes, most_layers}

-- With the collector there are not too many layers.
pub record IsProper (e : Rules) : Type 0 where
  pub depth : e.depth + 1 ≤ most_layers
  pub few : e.nodes + 1 ≤ most_nodes
