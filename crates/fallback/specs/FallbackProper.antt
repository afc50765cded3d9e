-- What a fallback asks of its two layers.
use Rattle.std.specs.Prelude.{◌≡◌, ◌≤◌, ◌+◌, true, max}
use Rattle.layer_rules.specs.Rules.{Rules, IsBeside}
use Rattle.layer_laws.specs.Lawful.{most_nodes, most_layers}

-- The primary tells what it holds, no leaf of the one has the tag of a leaf of the other, and with the fallback there are not too many
-- layers.
pub record IsProper (p f : Rules) : Type 0 where
  pub owns : p.offers.owns ≡ true
  pub apart : IsBeside p f
  pub depth : max p.depth f.depth + 1 ≤ most_layers
  pub few : p.nodes + f.nodes + 1 ≤ most_nodes
