-- What the rules of a fallback mean: which blocks are out of it, and its laws.
use Rattle.std.proofs.Common.{◌≡◌, true, ◌≤◌, if◌then◌else◌, ◌↔◌}
use Rattle.layer_rules.specs.Rules.{Rules, HasDistinctTags, HasSomeTags}
use Rattle.layer_laws.specs.Lawful.{IsRegular, IsLawful}
use Rattle.fallback_rules.specs.FallbackRules.{fallback_rules}
use Rattle.space_core.specs.Cells.{Cells}
use Rattle.layer_rules.specs.declared.Block.{Block}
use Rattle.layer_rules.specs.State.{State, is_open, child}

-- ---- which blocks are out

-- out of the primary where that holds it, else of the second
pub record IsOutFallback (p f : Rules) (b : Block) (s : State) (cells : Cells) : Type 0 where
  pub is_set : is_open s ≡ true
  pub some : 1 ≤ b.len
  pub below : (if p.holds b (child s 0) then p.is_out b (child s 0) cells else f.is_out b (child s 1) cells) ≡ true

-- a block is out of a fallback exactly so
abbrev pub OutOfFallback : Type 0
OutOfFallback = (primary second : Rules) (b : Block) (s : State) (cells : Cells) → ((fallback_rules primary second).is_out b s cells ≡ true) ↔ IsOutFallback primary second b s cells

-- ---- the laws

-- over layers that are regular
abbrev pub FallbackIsRegular : Type 0
FallbackIsRegular = (primary second : Rules) → IsRegular primary → IsRegular second → IsRegular (fallback_rules primary second)

-- over layers that are regular and lawful, with leaves that have tags of their own, where the primary offers owns
abbrev pub FallbackIsLawful : Type 0
FallbackIsLawful =
    (primary second : Rules) → primary.offers.owns ≡ true → HasDistinctTags (fallback_rules primary second) → HasSomeTags (fallback_rules primary second)
    → IsRegular primary → IsRegular second → IsLawful primary → IsLawful second → IsLawful (fallback_rules primary second)
