-- NullMeanings: what the layer that serves nothing is, in words.
use Rattle.std.specs.Prelude.{◌≡◌, false}
use Rattle.space_core.specs.Cells.{Cells}
use Rattle.layer_rules.specs.declared.Block.{Block}
use Rattle.layer_rules.specs.State.{State}
use Rattle.layer_rules.specs.NullRules.{null_rules}
use Rattle.layer_laws.specs.Lawful.{IsRegular, IsLawful}

-- no block is out of it
abbrev pub OutOfNull : Type 0
OutOfNull = (b : Block) (s : State) (cells : Cells) → null_rules.is_out b s cells ≡ false

abbrev pub NullIsRegular : Type 0
NullIsRegular = IsRegular null_rules

abbrev pub NullIsLawful : Type 0
NullIsLawful = IsLawful null_rules
