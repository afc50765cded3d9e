-- What a block that is out of a quota is, and its laws.
use Rattle.std.specs.Prelude.{ℕ, ◌≡◌, ◌≤◌, ◌↔◌, true, [], ◌∷◌}
use Rattle.space_core.specs.Cells.{Cells}
use Rattle.layer_rules.specs.declared.Block.{Block}
use Rattle.layer_rules.specs.State.{State, is_open, child, row_of}
use Rattle.layer_rules.specs.Rules.{Rules, HasSomeTags, IsSettled}
use Rattle.layer_laws.specs.Lawful.{IsRegular, IsLawful}
use Rattle.quota_rules.specs.QuotaRules.{quota_rules}

abbrev pub QuotaIsRegular : Type 0
QuotaIsRegular = (most : ℕ) (e : Rules) → IsRegular e → IsRegular (quota_rules most e)

abbrev pub QuotaIsLawful : Type 0
QuotaIsLawful = (most : ℕ) (e : Rules) → HasSomeTags e → IsRegular e → IsLawful e → IsLawful (quota_rules most e)

-- out of the parent
pub record IsOutWithin (e : Rules) (b : Block) (s : State) (cells : Cells) : Type 0 where
  pub is_set : is_open s ≡ true
  pub some : 1 ≤ b.len
  pub below : e.is_out b (child s 0) cells ≡ true

abbrev pub OutOfQuota : Type 0
OutOfQuota = (most : ℕ) (e : Rules) (b : Block) (s : State) (cells : Cells) → ((quota_rules most e).is_out b s cells ≡ true) ↔ IsOutWithin e b s cells

-- the number of bytes that an open one counts, no more than its quota
pub record CountsWithin (most : ℕ) (s : State) : Type 0 where
  pub used : ℕ
  pub kept : row_of s ≡ used ∷ []
  pub within : used ≤ most

abbrev pub QuotaCountsWithin : Type 0
QuotaCountsWithin = (most : ℕ) (e : Rules) (s : State) (cells : Cells) → is_open s ≡ true → IsSettled (quota_rules most e) s cells → CountsWithin most s
