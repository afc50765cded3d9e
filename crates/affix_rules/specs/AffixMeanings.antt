-- What a block that is out of an affix is, what the bytes round it say, and the laws of affixes.
use Rattle.std.specs.Prelude.{ℕ, ◌+◌, ◌-◌, ◌≡◌, ◌≤◌, ◌<◌, ◌↔◌, true, List, get_or}
use Rattle.space_core.specs.Cells.{Cells}
use Rattle.space_core.specs.Words.{IsWordAt}
use Rattle.layer_rules.specs.declared.Block.{Block}
use Rattle.layer_rules.specs.Blocks.{end_of, lies_in}
use Rattle.layer_rules.specs.State.{State, is_open, child}
use Rattle.layer_rules.specs.Rules.{Rules, HasSomeTags}
use Rattle.layer_laws.specs.Lawful.{IsRegular, IsLawful}
use Rattle.affix_rules.specs.AffixRules.{affix_down, suffix_byte, has_length, has_affixes, affix_rules}

-- whatever the lengths of prefix and suffix
abbrev pub AffixIsRegular : Type 0
AffixIsRegular = (prefix suffix : ℕ) (e : Rules) → IsRegular e → IsRegular (affix_rules prefix suffix e)

abbrev pub AffixIsLawful : Type 0
AffixIsLawful = (prefix suffix : ℕ) (e : Rules) → HasSomeTags e → IsRegular e → IsLawful e → IsLawful (affix_rules prefix suffix e)

-- the block that is handed down has every byte of the block
abbrev pub AffixHandsAllDown : Type 0
AffixHandsAllDown = (prefix suffix : ℕ) (b : Block) → lies_in b (affix_down prefix suffix b) ≡ true

-- the bytes of the prefix stand in front, and all of it is out of the parent
pub record IsOutAffixed (prefix suffix : ℕ) (e : Rules) (b : Block) (s : State) (cells : Cells) : Type 0 where
  pub is_set : is_open s ≡ true
  pub some : 1 ≤ b.len
  pub fits : prefix ≤ b.place
  pub below : e.is_out (affix_down prefix suffix b) (child s 0) cells ≡ true

abbrev pub OutOfAffix : Type 0
OutOfAffix = (prefix suffix : ℕ) (e : Rules) (b : Block) (s : State) (cells : Cells) → ((affix_rules prefix suffix e).is_out b s cells ≡ true) ↔ IsOutAffixed prefix suffix e b s cells

-- a prefix of at least 8 bytes begins with the block's length
abbrev pub HasLengthBefore : (prefix : ℕ) → Block → List ℕ → Type 0
HasLengthBefore prefix b bytes = 8 ≤ prefix → IsWordAt bytes (b.place - prefix) b.len

abbrev pub LengthStandsBefore : Type 0
LengthStandsBefore = (prefix : ℕ) (b : Block) (bytes : List ℕ) → (has_length prefix b bytes ≡ true) ↔ HasLengthBefore prefix b bytes

-- the bytes round a block are as the layer wrote them
pub record IsAffixClean (prefix suffix : ℕ) (b : Block) (bytes : List ℕ) : Type 0 where
  pub first : HasLengthBefore prefix b bytes
  pub zeros : (k : ℕ) → b.place + 8 ≤ k + prefix → k < b.place → get_or bytes k 0 ≡ 0
  pub behind : (k : ℕ) → end_of b ≤ k → k < end_of b + suffix → get_or bytes k 0 ≡ suffix_byte

abbrev pub AffixesByBytes : Type 0
AffixesByBytes = (prefix suffix : ℕ) (b : Block) (bytes : List ℕ) → (has_affixes prefix suffix b bytes ≡ true) ↔ IsAffixClean prefix suffix b bytes
