-- What an affix asks of its lengths and of its parent.
use Rattle.std.specs.Prelude.{ℕ, ◌≡◌, ◌≤◌, ◌+◌, true}
use Rattle.size_round.specs.Sizes.{is_multiple}
use Rattle.layer_rules.specs.Rules.{Rules}
use Rattle.layer_laws.specs.Lawful.{most_nodes, most_layers}
use Rattle.affix_rules.specs.AffixRules.{affix_bound}

-- The lengths are multiples of 8 in range, with a prefix the parent's places are multiples of at least 8, and with the affix there are
-- not too many layers.
pub record IsProper (prefix suffix : ℕ) (e : Rules) : Type 0 where
  pub prefix_whole : is_multiple prefix 8 ≡ true
  pub suffix_whole : is_multiple suffix 8 ≡ true
  pub prefix_most : prefix ≤ affix_bound
  pub suffix_most : suffix ≤ affix_bound
  pub aligned : 1 ≤ prefix → 8 ≤ e.alignment
  pub depth : e.depth + 1 ≤ most_layers
  pub few : e.nodes + 1 ≤ most_nodes
