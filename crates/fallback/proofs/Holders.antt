-- Which of its two layers a block of an open fallback is out of.
use Rattle.std.proofs.Common.{◌≡◌, refl, Bool, true, false, cond, ◌++◌, []}
use Rattle.space_core.specs.Cells.{Cells}
use Rattle.layer_rules.specs.declared.Block.{Block}
use Rattle.layer_rules.specs.Members.{group_settled}
use Rattle.layer_rules.specs.Rules.{Rules, IsSettled}
use Rattle.layer_rules.specs.State.{State, nothing, open_with, two_children, is_open, child}
use Rattle.layer_laws.proofs.MembersLawful.{GroupParts, group-parts}
use Rattle.layer_laws.proofs.Tests.{opened}
use Rattle.fallback_rules.specs.FallbackRules.{fallback_rules}
use Rattle.fallback_rules.proofs.FallbackHeld.{both}
use Rattle.fallback_rules.proofs.FallbackOut.{out-fallback}

-- the two as they stand
abbrev pub pair_of : State → State → State
pair_of a c = open_with nothing (two_children a c)

-- the first where a test is true, else the second
pub cond-true : {A : Type 0} (x y : A) (q : Bool) → q ≡ true → cond q x y ≡ x
cond-true x y true e = refl
cond-true x y false e = absurd (cc)

pub cond-false : {A : Type 0} (x y : A) (q : Bool) → q ≡ false → cond q x y ≡ y
cond-false x y false e = refl
cond-false x y true e = absurd (cc)

-- it is out of the one that the primary's test names
pub record IsOutOfFirst (p : Rules) (b : Block) (s : State) (cells : Cells) : Type 0 where
  pub held : p.holds b (child s 0) ≡ true
  pub below : p.is_out b (child s 0) cells ≡ true

pub record IsOutOfSecond (p f : Rules) (b : Block) (s : State) (cells : Cells) : Type 0 where
  pub not_held : p.holds b (child s 0) ≡ false
  pub below : f.is_out b (child s 1) cells ≡ true

by-holder : (p f : Rules) (b : Block) (s : State) (cells : Cells) (P : Bool → Type 0) (q : Bool) → p.holds b (child s 0) ≡ q → cond q (p.is_out b (child s 0) cells) (f.is_out b (child s 1) cells) ≡ true
    → (IsOutOfFirst p b s cells → P true) → (IsOutOfSecond p f b s cells → P false) → P q
by-holder p f b s cells P true e o x y = x (record { held = e; below = o })
by-holder p f b s cells P false e o x y = y (record { not_held = e; below = o })

-- what is chosen by the test, of a block that is out
pub of-holder : (p f : Rules) (b : Block) (s : State) (cells : Cells) (P : Bool → Type 0) → (fallback_rules p f).is_out b s cells ≡ true → (IsOutOfFirst p b s cells → P true) → (IsOutOfSecond p f b s cells → P false) → P (p.holds b (child s 0))
of-holder p f b s cells P o x y = by-holder p f b s cells P (p.holds b (child s 0)) refl (out-fallback p f b s cells o).below x y

-- the parts of an open fallback that is sound
pub fallback-opened : (p f : Rules) (s : State) (cells : Cells) → is_open s ≡ true → IsSettled (fallback_rules p f) s cells → GroupParts (both p f) s cells
unfolding fallback_rules
fallback-opened p f s cells o z = group-parts (both p f) s cells (opened s (p.leaf_tags ++ f.leaf_tags) cells (group_settled (both p f) s cells) o z)
