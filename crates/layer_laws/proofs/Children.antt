-- Children: the children of a state, one by one, and what a child's answer is to its parent.
use Rattle.std.proofs.Common.{◌≡◌, ◌≢◌, refl, sym, ap, subst, ◌∙◌, ℕ, zero, suc, ◌≤◌, ◌<◌, ◌⊎◌, inl, inr, true, arith, Option, Some, None, option_map, ◌∷◌}
use Rattle.std.proofs.lemmas.Bool.{cases_eq}
use Rattle.std.proofs.lemmas.Bool.Decides.{nat_tests}
use Rattle.layer_rules.specs.declared.Block.{Block}
use Rattle.layer_rules.specs.Blocks.{end_of, is_apart}
use Rattle.layer_rules.specs.State.{State, closed, open_with, States, no_children, child_and, nth_child, set_child, child, with_child}
use Rattle.layer_rules.specs.After.{Placed, from_child}
use Rattle.size_round.specs.SizeMeanings.{IsMultiple}
use Rattle.layer_laws.specs.Lawful.{AtMultiple}

-- how many children there are
abbrev pub child_count : States → ℕ
child_count no_children = 0
child_count (child_and s ss) = suc (child_count ss)

pub set-same : (ss : States) (i : ℕ) (t : State) → i < child_count ss → nth_child (set_child ss i t) i ≡ t
set-same no_children i t h = absurd (omega arith)
set-same (child_and s ss) zero t h = refl
set-same (child_and s ss) (suc i) t h = set-same ss i t (omega arith)

pub set-other : (ss : States) (i j : ℕ) (t : State) → i ≢ j → nth_child (set_child ss i t) j ≡ nth_child ss j
set-other no_children i j t n = refl
set-other (child_and s ss) zero zero t n = absurd (n refl)
set-other (child_and s ss) zero (suc j) t n = refl
set-other (child_and s ss) (suc i) zero t n = refl
set-other (child_and s ss) (suc i) (suc j) t n = let m : i ≢ j = omega arith in set-other ss i j t m

pub set-count : (ss : States) (i : ℕ) (t : State) → child_count (set_child ss i t) ≡ child_count ss
set-count no_children i t = refl
set-count (child_and s ss) zero t = refl
set-count (child_and s ss) (suc i) t = ap suc (set-count ss i t)

-- the child that was set, or another
pub child-case : (ss : States) (i : ℕ) (t : State) (P : State → Type 0) (j : ℕ) → i < child_count ss → (j ≡ i → P t) → ((j ≡ i → ⊥) → P (nth_child ss j)) → P (nth_child (set_child ss i t) j)
child-case ss i t P j l f g =
    elim (cases_eq j i) [
      | inl e ↦ subst (λ k. P (nth_child (set_child ss i t) k)) (sym e) (subst P (sym (set-same ss i t l)) (f e))
      | inr n ↦ subst P (sym (set-other ss i j t (λ e. n (sym e)))) (g n)
    ]

-- what each child has, and the one that was set where there is one
pub set-keeps : (ss : States) (i : ℕ) (t : State) (P : State → Type 0) (j : ℕ) → P (nth_child ss j) → (j ≡ i → P t) → P (nth_child (set_child ss i t) j)
set-keeps no_children i t P j h f = h
set-keeps (child_and s ss) zero t P zero h f = f refl
set-keeps (child_and s ss) zero t P (suc j) h f = h
set-keeps (child_and s ss) (suc i) t P zero h f = h
set-keeps (child_and s ss) (suc i) t P (suc j) h f = set-keeps ss i t P j h (λ e. f (ap suc e))

pub child-keeps : (s : State) (i : ℕ) (t : State) (P : State → Type 0) (j : ℕ) → P (child s j) → (j ≡ i → P t) → P (child (with_child s i t) j)
child-keeps closed i t P j h f = h
child-keeps (open_with own ss) i t P j h f = set-keeps ss i t P j h f

-- what the child i answered
pub record IsShown (i : ℕ) (shown : Block → Block) (o : Option Placed) (q : Placed) : Type 0 where
  pub below : Placed
  pub answered : o ≡ Some below
  pub block : q.block ≡ shown below.block
  pub route : q.route ≡ i ∷ below.route

pub shown-of : (i : ℕ) (shown : Block → Block) (o : Option Placed) (q : Placed) → option_map (from_child shown i) o ≡ Some q → IsShown i shown o q
shown-of i shown None q e = absurd (cc)
shown-of i shown (Some p) q e =
    let z : from_child shown i p ≡ q = cc in
    record { below = p; answered = refl; block = sym (ap (λ (q : Placed). q.block) z); route = sym (ap (λ (q : Placed). q.route) z) }

-- a block that is shown at its own place is at a multiple where it was
pub shown-at_multiple : (i a : ℕ) (shown : Block → Block) (o : Option Placed) → ((p : Placed) → o ≡ Some p → (shown p.block).place ≡ p.block.place) → AtMultiple a o → AtMultiple a (option_map (from_child shown i) o)
shown-at_multiple i a shown o same m q z =
    let x = shown-of i shown o q z in
    let place : x.below.block.place ≡ q.block.place = sym (ap (λ (b : Block). b.place) x.block ∙ same x.below x.answered) in
    subst (λ n. IsMultiple n a) place (m x.below x.answered)

-- two runs with no number in common lie one behind the other
pub runs-apart : (a b c d : ℕ) → a < b → c < d → ((i : ℕ) → a ≤ i → i < b → c ≤ i → i < d → ⊥) → (b ≤ c) ⊎ (d ≤ a)
runs-apart a b c d x y h = elim (which a b c d x y) [ inl l ↦ inl l | inr o ↦ elim o [ inl l ↦ inr l | inr o ↦ elim o [ inl l ↦ absurd (h a (omega arith) (omega arith) (omega arith) (omega arith)) | inr l ↦ absurd (h c (omega arith) (omega arith) (omega arith) (omega arith)) ] ] ]
  where
    which : (a b c d : ℕ) → a < b → c < d → (b ≤ c) ⊎ (d ≤ a) ⊎ ((c ≤ a) × (a < d)) ⊎ ((a ≤ c) × (c < b))
    which a b c d h k = grind arith

pub apart-either : (x y : Block) → (end_of x ≤ y.place) ⊎ (end_of y ≤ x.place) → is_apart x y ≡ true
apart-either x y (inl l) = grind (arith, nat_tests)
apart-either x y (inr l) = grind (arith, nat_tests)
