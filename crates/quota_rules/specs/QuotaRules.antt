-- A quota: it hands down what it is asked as long as no more than so many bytes are out, and keeps how many these are.
use Rattle.std.specs.Prelude.{ℕ, ◌+◌, ◌-◌, Bool, true, false, List, [], ◌∷◌, nat_le}
use Rattle.layer_rules.specs.declared.Fact.TheVariants as Said
use Rattle.layer_rules.specs.Fields.{kept_row_of}
use Rattle.layer_rules.specs.Offering.{offers_of}
use Rattle.layer_rules.specs.State.{Own, row_own, row_in}
use Rattle.layer_rules.specs.Rules.{Rules}
use Rattle.layer_rules.specs.Handing.{Handing, as_it_is, handing_rules}

-- a row with one number
abbrev pub first_number : List ℕ → ℕ
first_number [] = 0
first_number (n ∷ ns) = n

abbrev pub used_own : ℕ → Own
used_own used = row_own (used ∷ [])

abbrev pub used_in : Own → ℕ
used_in own = first_number (row_in own)

-- one number, within the quota
abbrev pub is_within : (most : ℕ) → Own → Bool
is_within most (row_own (used ∷ [])) = nat_le used most
is_within most own = false

-- the same with another number, where there is one
abbrev pub with_used : (ℕ → ℕ) → Own → Own
with_used f (row_own (used ∷ [])) = used_own (f used)
with_used f own = own

-- the bytes that are out after n more were asked, and after a block of n came back
abbrev pub charged : (ok : Bool) (n used : ℕ) → ℕ
charged true n used = used + n
charged false n used = used

abbrev pub refunded : (ok : Bool) (n used : ℕ) → ℕ
refunded true n used = used - n
refunded false n used = used

abbrev pub quota_handing : (most : ℕ) → Rules → Handing
quota_handing most e = record (as_it_is e) {
  aligns = false;
  moves = true;
  passes = is_within most;
  kept = λ k. used_own (first_number (kept_row_of k));
  first = used_own 0;
  admits = λ n own. nat_le (used_in own + n) most;
  allocated = λ ok n. with_used (charged ok n);
  expanded = λ ok delta b. with_used (charged ok delta);
  deallocated = λ ok b. with_used (refunded ok b.len);
  all_deallocated = with_used (λ used. 0);
  opens_for = λ need. nat_le need most;
  offers = let o = e.offers in offers_of o.owns o.expand false o.all;
  fact = λ own. Said.Numbers (used_in own) most;
}

unfoldable pub quota_rules : (most : ℕ) → Rules → Rules
quota_rules most e = handing_rules (quota_handing most e) e
