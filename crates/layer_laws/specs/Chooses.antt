-- Choosing by length: what is asked of a `Choosing` over members so that its rules are regular and lawful where each member's are.
use Rattle.std.specs.Prelude.{ℕ, ◌≡◌, ◌≢◌, ◌≤◌, ◌<◌, true, List, length}
use Rattle.size_round.specs.Sizes.{limit}
use Rattle.layer_rules.specs.declared.Block.{Block}
use Rattle.layer_rules.specs.Blocks.{with_len}
use Rattle.layer_rules.specs.Rows.{EachPair}
use Rattle.layer_rules.specs.Rules.{Rules, IsIn}
use Rattle.layer_rules.specs.Members.{nth, tags_of}
use Rattle.layer_rules.specs.Choosing.{Choosing, choosing_rules}
use Rattle.layer_laws.specs.Lawful.{IsRegular, IsLawful}

pub record Chooses (h : Choosing) (es : List Rules) : Type 0 where
  -- each length that has a member has one of these, and is asked of it as a length that is enough; that member's block is shown as one of the length itself
  pub there : (n : ℕ) → h.fits n ≡ true → h.chosen n < length es
  pub enough : (n : ℕ) → h.fits n ≡ true → n ≤ h.asked n
  pub shown : (n : ℕ) (b : Block) → b.len ≡ h.asked n → h.shown n b ≡ with_len b n
  -- of two lengths of one member the greater is asked as no less
  pub in_order : (m n : ℕ) → h.fits m ≡ true → h.fits n ≡ true → h.chosen m ≡ h.chosen n → m ≤ n → h.asked m ≤ h.asked n
  -- good sizes
  pub good : (n : ℕ) → n ≤ h.good_alloc_size n
  pub of_nothing : h.good_alloc_size 0 ≡ 0
  pub above_limit : (n : ℕ) → limit < n → h.good_alloc_size n ≡ n

-- each member has the property
abbrev pub EachMember : (Rules → Type 0) → List Rules → Type 0
EachMember P es = (i : ℕ) → i < length es → P (nth es i)

-- each has it, and so has null, which stands for each further number
abbrev pub EachNumber : (Rules → Type 0) → List Rules → Type 0
EachNumber P es = (i : ℕ) → P (nth es i)

-- no two leaves of the members have one tag, and none has that of free cells
pub record HaveOwnTags (es : List Rules) : Type 0 where
  pub distinct : EachPair ◌≢◌ (tags_of es)
  pub some : (t : ℕ) → IsIn (tags_of es) t → 1 ≤ t

-- members with tags of their own, each regular and lawful
pub record AreMembers (h : Choosing) (es : List Rules) : Type 0 where
  pub chooses : Chooses h es
  pub own : HaveOwnTags es
  pub regular : EachNumber IsRegular es
  pub lawful : EachNumber IsLawful es

-- what a `Choosing` that chooses gives over regular members, and over members that are lawful too and have tags of their own
abbrev pub ChoosingIsRegular : Type 0
ChoosingIsRegular = (h : Choosing) (es : List Rules) → Chooses h es → EachMember IsRegular es → IsRegular (choosing_rules h es)

abbrev pub ChoosingIsLawful : Type 0
ChoosingIsLawful = (h : Choosing) (es : List Rules) → Chooses h es → HaveOwnTags es → EachMember IsRegular es → EachMember IsLawful es → IsLawful (choosing_rules h es)
