-- What a block that is out of quantize is, and its laws.
use Rattle.std.specs.Prelude.{◌≡◌, ◌≤◌, ◌↔◌, true}
use Rattle.size_round.specs.Sizes.{RoundingKind, is_proper_kind}
use Rattle.space_core.specs.Cells.{Cells}
use Rattle.layer_rules.specs.declared.Block.{Block}
use Rattle.layer_rules.specs.Blocks.{lies_in}
use Rattle.layer_rules.specs.State.{State, is_open, child}
use Rattle.layer_rules.specs.Rules.{Rules, HasSomeTags}
use Rattle.layer_laws.specs.Lawful.{IsRegular, IsLawful}
use Rattle.quantize_rules.specs.QuantizeRules.{quantize_down, quantize_rules}

abbrev pub QuantizeIsRegular : Type 0
QuantizeIsRegular = (kind : RoundingKind) (e : Rules) → is_proper_kind kind ≡ true → IsRegular e → IsRegular (quantize_rules kind e)

abbrev pub QuantizeIsLawful : Type 0
QuantizeIsLawful = (kind : RoundingKind) (e : Rules) → is_proper_kind kind ≡ true → HasSomeTags e → IsRegular e → IsLawful e → IsLawful (quantize_rules kind e)

-- the block that is handed down has every byte of the block
abbrev pub QuantizeHandsAllDown : Type 0
QuantizeHandsAllDown = (kind : RoundingKind) (b : Block) → is_proper_kind kind ≡ true → lies_in b (quantize_down kind b) ≡ true

-- with its rounded length out of the parent
pub record IsOutRounded (kind : RoundingKind) (e : Rules) (b : Block) (s : State) (cells : Cells) : Type 0 where
  pub is_set : is_open s ≡ true
  pub some : 1 ≤ b.len
  pub below : e.is_out (quantize_down kind b) (child s 0) cells ≡ true

abbrev pub OutOfQuantize : Type 0
OutOfQuantize = (kind : RoundingKind) (e : Rules) (b : Block) (s : State) (cells : Cells) → ((quantize_rules kind e).is_out b s cells ≡ true) ↔ IsOutRounded kind e b s cells
