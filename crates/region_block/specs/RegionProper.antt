-- What a region asks of its numbers and of its parent.
use Rattle.std.specs.Prelude.{ℕ, ◌≡◌, ◌≤◌, ◌+◌, true}
use Rattle.size_round.specs.Sizes.{is_power_of_two, size_bound}
use Rattle.layer_rules.specs.Rules.{Rules}
use Rattle.layer_laws.specs.Lawful.{most_nodes, most_layers}
use Rattle.region_rules.specs.RegionMeanings.{most_align}

-- The size and the alignment are in range, the parent's alignment is enough, and with the region there are not too many layers.
pub record IsProper (size align : ℕ) (e : Rules) : Type 0 where
  pub size_some : 1 ≤ size
  pub size_most : size ≤ size_bound
  pub align_some : 1 ≤ align
  pub align_most : align ≤ most_align
  pub power : is_power_of_two align ≡ true
  pub aligned : align ≤ e.alignment
  pub depth : e.depth + 1 ≤ most_layers
  pub few : e.nodes + 1 ≤ most_nodes
