-- What a block that is out of statistics is, and their laws.
use Rattle.std.specs.Prelude.{◌≡◌, ◌≤◌, ◌↔◌, true}
use Rattle.space_core.specs.Cells.{Cells}
use Rattle.layer_rules.specs.declared.Block.{Block}
use Rattle.layer_rules.specs.State.{State, is_open, child}
use Rattle.layer_rules.specs.Rules.{Rules, HasSomeTags}
use Rattle.layer_laws.specs.Lawful.{IsRegular, IsLawful}
use Rattle.stats_rules.specs.StatsRules.{stats_rules}

abbrev pub StatsIsRegular : Type 0
StatsIsRegular = (e : Rules) → IsRegular e → IsRegular (stats_rules e)

abbrev pub StatsIsLawful : Type 0
StatsIsLawful = (e : Rules) → HasSomeTags e → IsRegular e → IsLawful e → IsLawful (stats_rules e)

-- out of the parent
pub record IsOutCounted (e : Rules) (b : Block) (s : State) (cells : Cells) : Type 0 where
  pub is_set : is_open s ≡ true
  pub some : 1 ≤ b.len
  pub below : e.is_out b (child s 0) cells ≡ true

abbrev pub OutOfStats : Type 0
OutOfStats = (e : Rules) (b : Block) (s : State) (cells : Cells) → ((stats_rules e).is_out b s cells ≡ true) ↔ IsOutCounted e b s cells
