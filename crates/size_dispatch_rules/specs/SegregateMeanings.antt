-- SegregateMeanings: what is asked of a segregator's numbers, which member a length has, what a block that is out is, and the laws.
use Rattle.std.specs.Prelude.{◌≡◌, ℕ, ◌+◌, ◌<◌, ◌≤◌, ◌↔◌, true, List, length, slice_index}
use Rattle.size_round.specs.Sizes.{limit}
use Rattle.space_core.specs.Cells.{Cells}
use Rattle.layer_rules.specs.declared.Block.{Block}
use Rattle.layer_rules.specs.State.{State, is_open, child}
use Rattle.layer_rules.specs.Rules.{Rules}
use Rattle.layer_rules.specs.Members.{nth}
use Rattle.layer_laws.specs.Chooses.{EachMember, HaveOwnTags}
use Rattle.layer_laws.specs.Lawful.{IsRegular, IsLawful}
use Rattle.size_dispatch_rules.specs.SegregateRules.{are_thresholds, member_for, segregate_rules}

-- ---- the numbers

-- each threshold is above the number before the first, and above each one before it, and none is above the limit
pub record AreAscending (before : ℕ) (ts : List ℕ) : Type 0 where
  pub above : (k : ℕ) → k < length ts → before < slice_index ts k
  pub most : (k : ℕ) → k < length ts → slice_index ts k ≤ limit
  pub ascending : (j k : ℕ) → j < k → k < length ts → slice_index ts j < slice_index ts k

abbrev pub ThresholdsAreAscending : Type 0
ThresholdsAreAscending = (before : ℕ) (ts : List ℕ) → (are_thresholds before ts ≡ true) ↔ AreAscending before ts

-- at least one threshold, each above the one before it, and one member more
pub record AreThresholds (ts : List ℕ) (es : List Rules) : Type 0 where
  pub some : 1 ≤ length ts
  pub count : length es ≡ length ts + 1
  pub in_order : AreAscending 0 ts

-- ---- the member for a length

-- each threshold before number i is below n, and threshold i, where there is one, is not
pub record IsFirstNotBelow (ts : List ℕ) (n i : ℕ) : Type 0 where
  pub within : i ≤ length ts
  pub before : (k : ℕ) → k < i → slice_index ts k < n
  pub reached : i < length ts → n ≤ slice_index ts i

abbrev pub MemberForIsFirst : Type 0
MemberForIsFirst = (ts : List ℕ) (n : ℕ) → IsFirstNotBelow ts n (member_for ts n)

-- a segregator has the member for each length
abbrev pub HasMemberFor : Type 0
HasMemberFor = (ts : List ℕ) (es : List Rules) (n : ℕ) → AreThresholds ts es → member_for ts n < length es

-- ---- a block that is out

-- of the member for its length
pub record IsOutSegregate (ts : List ℕ) (es : List Rules) (b : Block) (s : State) (cells : Cells) : Type 0 where
  pub is_set : is_open s ≡ true
  pub some : 1 ≤ b.len
  pub below : (nth es (member_for ts b.len)).is_out b (child s (member_for ts b.len)) cells ≡ true

-- a block is out exactly where these facts hold of it
abbrev pub OutOfSegregate : Type 0
OutOfSegregate = (ts : List ℕ) (es : List Rules) (b : Block) (s : State) (cells : Cells) → ((segregate_rules ts es).is_out b s cells ≡ true) ↔ IsOutSegregate ts es b s cells

-- ---- the laws

-- over regular members it is regular
abbrev pub SegregateIsRegular : Type 0
SegregateIsRegular = (ts : List ℕ) (es : List Rules) → AreThresholds ts es → EachMember IsRegular es → IsRegular (segregate_rules ts es)

-- over members that are lawful too, with tags of their own, it is lawful
abbrev pub SegregateIsLawful : Type 0
SegregateIsLawful = (ts : List ℕ) (es : List Rules) → AreThresholds ts es → HaveOwnTags es → EachMember IsRegular es → EachMember IsLawful es → IsLawful (segregate_rules ts es)
