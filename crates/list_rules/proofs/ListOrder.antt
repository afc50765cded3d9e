-- What an open list is between calls, as a test and as named parts; the member that it opens next; and the list with another order.
use Rattle.std.proofs.Common.{◌≡◌, ◌≢◌, refl, sym, subst, ◌∙◌, ap, ℕ, zero, suc, ◌+◌, ◌<◌, ◌≤◌, inl, inr, Bool, true, false, not, ◌||◌, cond, List, [], ◌∷◌, filter, Some, nat_eq, nat_lt, arith}
use Rattle.std.proofs.Math.Bool.{beq}
use Rattle.std.proofs.lemmas.Bool.{and_from, cases_eq}
use Rattle.std.proofs.lemmas.Bool.Decides.{nat_tests}
use Rattle.std.specs.List.{list_all, list_any}
use Rattle.layer_rules.specs.Rows.{Each, EachPair}
use Rattle.layer_rules.specs.State.{State, closed, open_with, Own, nothing, region_own, bitmap_own, kr_own, cache_own, stats_own, order_own, row_own, order_in, States, no_children, child_and, nth_child, set_child, is_open, child, children_of, order_of}
use Rattle.layer_laws.proofs.Basics.{and-fst, and-snd}
use Rattle.layer_laws.proofs.Children.{set-same, set-other, set-count}
use Rattle.list_rules.specs.ListRules.{to_front, first_closed, child_count, is_order, are_once, are_open_as, is_ordered}
use Rattle.list_rules.specs.ListMeanings.{NextMemberIsClosed}

-- exactly the members of the order are open, and each is named once
pub record IsOrdered (count : ℕ) (s : State) : Type 0 where
  pub form : s ≡ open_with (order_own (order_of s)) (children_of s)
  pub children : child_count (children_of s) ≡ count
  pub named : Each (λ i. i < count) (order_of s)
  pub once : EachPair ◌≢◌ (order_of s)
  pub those_open : (i : ℕ) → i < count → is_open (child s i) ≡ list_any (nat_eq i) (order_of s)

-- ---- of elements, one by one

each-from : (p : ℕ → Bool) (P : ℕ → Type 0) → ((x : ℕ) → p x ≡ true → P x) → (xs : List ℕ) → list_all p xs ≡ true → Each P xs
each-from p P f [] h = tt
each-from p P f (x ∷ xs) h = (f x (and-fst (p x) (list_all p xs) h), each-from p P f xs (and-snd (p x) (list_all p xs) h))

from-each : (p : ℕ → Bool) (P : ℕ → Type 0) → ((x : ℕ) → P x → p x ≡ true) → (xs : List ℕ) → Each P xs → list_all p xs ≡ true
from-each p P f [] h = refl
from-each p P f (x ∷ xs) h = and_from _ _ (f x h.0) (from-each p P f xs h.1)

once-from : (xs : List ℕ) → are_once xs ≡ true → EachPair ◌≢◌ xs
once-from [] h = tt
once-from (i ∷ is) h = (
  each-from (λ j. not (nat_eq i j)) (λ j. i ≢ j) (λ j q. grind (arith, nat_tests)) is (and-fst (list_all (λ j. not (nat_eq i j)) is) (are_once is) h),
  once-from is (and-snd (list_all (λ j. not (nat_eq i j)) is) (are_once is) h),
)

from-once : (xs : List ℕ) → EachPair ◌≢◌ xs → are_once xs ≡ true
from-once [] h = refl
from-once (i ∷ is) h = and_from _ _ (from-each (λ j. not (nat_eq i j)) (λ j. i ≢ j) (λ j q. grind (arith, nat_tests)) is h.0) (from-once is h.1)

-- ---- which children are open

same-test : (x y : Bool) → beq x y ≡ true → x ≡ y
same-test true true h = refl
same-test false false h = refl
same-test true false h = absurd (cc)
same-test false true h = absurd (cc)

test-same : (x y : Bool) → x ≡ y → beq x y ≡ true
test-same true true h = refl
test-same false false h = refl
test-same true false h = absurd (cc)
test-same false true h = absurd (cc)

open_as-at : (order : List ℕ) (k : ℕ) (ss : States) → are_open_as order k ss ≡ true → (i j : ℕ) → j ≡ k + i → i < child_count ss → is_open (nth_child ss i) ≡ list_any (nat_eq j) order
open_as-at order k no_children h i j q l = absurd (omega arith)
open_as-at order k (child_and s ss) h zero j q l =
    let e : k ≡ j = omega arith in
    same-test (is_open s) (list_any (nat_eq k) order) (and-fst (beq (is_open s) (list_any (nat_eq k) order)) _ h) ∙ ap (λ x. list_any (nat_eq x) order) e
open_as-at order k (child_and s ss) h (suc i) j q l =
    open_as-at order (suc k) ss (and-snd (beq (is_open s) (list_any (nat_eq k) order)) (are_open_as order (suc k) ss) h) i j (omega arith) (omega arith)

at-open_as : (order : List ℕ) (k : ℕ) (ss : States) → ((i j : ℕ) → j ≡ k + i → i < child_count ss → is_open (nth_child ss i) ≡ list_any (nat_eq j) order) → are_open_as order k ss ≡ true
at-open_as order k no_children h = refl
at-open_as order k (child_and s ss) h =
    and_from _ _ (test-same (is_open s) (list_any (nat_eq k) order) (h 0 k (omega arith) (omega arith))) (at-open_as order (suc k) ss (λ i j q l. h (suc i) j (omega arith) (omega arith)))

is-order : (own : Own) → is_order own ≡ true → own ≡ order_own (order_in own)
is-order (order_own order) h = refl
is-order nothing h = absurd (cc)
is-order (region_own chunk position) h = absurd (cc)
is-order (bitmap_own chunk base units) h = absurd (cc)
is-order (kr_own chunk mode position units) h = absurd (cc)
is-order (cache_own places) h = absurd (cc)
is-order (stats_own counts) h = absurd (cc)
is-order (row_own numbers) h = absurd (cc)

-- ---- the test and the parts

pub ordered-parts : (count : ℕ) (s : State) → is_ordered count s ≡ true → IsOrdered count s
ordered-parts count closed h = absurd (cc)
ordered-parts count (open_with own ss) h =
    let order = order_in own in
    let counted = and-snd (is_order own) _ h in
    let below = and-snd (nat_eq (child_count ss) count) _ counted in
    let rest = and-snd (list_all (λ i. nat_lt i count) order) _ below in
    let same : nat_eq (child_count ss) count ≡ true = and-fst (nat_eq (child_count ss) count) _ counted in
    let children : child_count ss ≡ count = grind (arith, nat_tests) in
    record {
      form = ap (λ o. open_with o ss) (is-order own (and-fst (is_order own) _ h));
      children = children;
      named = each-from (λ i. nat_lt i count) (λ i. i < count) (λ i q. grind (arith, nat_tests)) order (and-fst (list_all (λ i. nat_lt i count) order) _ below);
      once = once-from order (and-fst (are_once order) (are_open_as order 0 ss) rest);
      those_open = λ i l. open_as-at order 0 ss (and-snd (are_once order) (are_open_as order 0 ss) rest) i i (omega arith) (omega arith);
    }

pub ordered-test : (count : ℕ) (s : State) → IsOrdered count s → is_ordered count s ≡ true
ordered-test count s h =
    let order = order_of s in
    let ss = children_of s in
    let n = h.children in
    let counted : nat_eq (child_count ss) count ≡ true = grind (arith, nat_tests) in
    subst (λ t. is_ordered count t ≡ true) (sym h.form)
    (and_from _ _ counted
    (and_from _ _ (from-each (λ i. nat_lt i count) (λ i. i < count) (λ i q. grind (arith, nat_tests)) order h.named)
    (and_from _ _ (from-once order h.once)
    (at-open_as order 0 ss (λ i j q l. let e : i ≡ j = omega arith in h.those_open i (omega arith) ∙ ap (λ x. list_any (nat_eq x) order) e)))))

-- of children that are counted from a number on
past : (k i : ℕ) (ss : States) → first_closed k ss ≡ Some i → k ≤ i
unfolding first_closed
past k i no_children h = absurd (cc)
past k i (child_and closed ss) h = let e : k ≡ i = cc in omega arith
past k i (child_and (open_with own us) ss) h = let l = past (suc k) i ss h in omega arith

closed-at : (k i : ℕ) (ss : States) → first_closed k ss ≡ Some i → (j : ℕ) → i ≡ k + j → nth_child ss j ≡ closed
unfolding first_closed
closed-at k i no_children h j q = refl
closed-at k i (child_and closed ss) h zero q = refl
closed-at k i (child_and closed ss) h (suc j) q = let e : k ≡ i = cc in absurd (omega arith)
closed-at k i (child_and (open_with own us) ss) h zero q = let l = past (suc k) i ss h in absurd (omega arith)
closed-at k i (child_and (open_with own us) ss) h (suc j) q = closed-at (suc k) i ss h j (omega arith)

pub next-is_closed : NextMemberIsClosed
next-is_closed s i h = closed-at 0 i (children_of s) h i (omega arith)

-- ---- another order

pub any-here : (i : ℕ) (is : List ℕ) → list_any (nat_eq i) (i ∷ is) ≡ true
any-here i is = let q : nat_eq i i ≡ true = grind (arith, nat_tests) in ap (λ x. x || list_any (nat_eq i) is) q

-- the row without i
abbrev rest_of : ℕ → List ℕ → List ℕ
rest_of i is = filter (λ j. not (nat_eq i j)) is

each-if : (P : ℕ → Type 0) (x : Bool) (j : ℕ) (is : List ℕ) → (x ≡ true → P j) → Each P is → Each P (cond x (j ∷ is) is)
each-if P true j is h k = (h refl, k)
each-if P false j is h k = k

once-if : (x : Bool) (j : ℕ) (is : List ℕ) → Each (λ k. j ≢ k) is → EachPair ◌≢◌ is → EachPair ◌≢◌ (cond x (j ∷ is) is)
once-if true j is h k = (h, k)
once-if false j is h k = k

each-rest : (P : ℕ → Type 0) (i : ℕ) (is : List ℕ) → Each P is → Each P (rest_of i is)
each-rest P i [] h = tt
each-rest P i (j ∷ is) h = each-if P (not (nat_eq i j)) j (rest_of i is) (λ q. h.0) (each-rest P i is h.1)

differs : (i j : ℕ) → not (nat_eq i j) ≡ true → i ≢ j
differs i j q = grind (arith, nat_tests)

each-other_rest : (i : ℕ) (is : List ℕ) → Each (λ j. i ≢ j) (rest_of i is)
each-other_rest i [] = tt
each-other_rest i (j ∷ is) = each-if (λ k. i ≢ k) (not (nat_eq i j)) j (rest_of i is) (differs i j) (each-other_rest i is)

once-rest : (i : ℕ) (is : List ℕ) → EachPair ◌≢◌ is → EachPair ◌≢◌ (rest_of i is)
once-rest i [] h = tt
once-rest i (j ∷ is) h = once-if (not (nat_eq i j)) j (rest_of i is) (each-rest (λ k. j ≢ k) i is h.0) (once-rest i is h.1)

-- another number is in the rest where it was in the row
any-if : (k j : ℕ) (x : Bool) (is : List ℕ) (z : Bool) → (x ≡ false → nat_eq k j ≡ false) → list_any (nat_eq k) is ≡ z → list_any (nat_eq k) (cond x (j ∷ is) is) ≡ (nat_eq k j || z)
any-if k j true is z h q = ap (λ x. nat_eq k j || x) q
any-if k j false is z h q = q ∙ sym (ap (λ x. x || z) (h refl))

not-same : (i j k : ℕ) → (k ≡ i → ⊥) → not (nat_eq i j) ≡ false → nat_eq k j ≡ false
not-same i j k n q =
    let e : i ≡ j = grind (arith, nat_tests) in
    let m : k ≢ j = λ z. n (z ∙ sym e) in
    grind (arith, nat_tests)

any-rest : (i k : ℕ) → (k ≡ i → ⊥) → (is : List ℕ) → list_any (nat_eq k) (rest_of i is) ≡ list_any (nat_eq k) is
any-rest i k n [] = refl
any-rest i k n (j ∷ is) = any-if k j (not (nat_eq i j)) (rest_of i is) (list_any (nat_eq k) is) (not-same i j k n) (any-rest i k n is)

any-front : (i k : ℕ) → (k ≡ i → ⊥) → (is : List ℕ) → list_any (nat_eq k) (to_front i is) ≡ list_any (nat_eq k) is
any-front i k n is =
    let m : k ≢ i = n in
    let f : nat_eq k i ≡ false = grind (arith, nat_tests) in
    ap (λ x. x || list_any (nat_eq k) (rest_of i is)) f ∙ any-rest i k n is

-- ---- one member changed

-- the open list with this order, and t for its member i
abbrev pub list_with : List ℕ → (i : ℕ) → States → State → State
list_with order i ss t = open_with (order_own order) (set_child ss i t)

-- an open member changed, and the order stays
pub kept-order : (count : ℕ) (order : List ℕ) (ss : States) (i : ℕ) (t : State) → IsOrdered count (open_with (order_own order) ss) → i < count → is_open (nth_child ss i) ≡ true → is_open t ≡ true → IsOrdered count (list_with order i ss t)
kept-order count order ss i t h l was now =
    let c = h.children in
    record {
      form = refl;
      children = set-count ss i t ∙ h.children;
      named = h.named;
      once = h.once;
      those_open = λ k lk. elim (cases_eq k i) [
        | inl e ↦ subst (λ k. is_open (nth_child (set_child ss i t) k) ≡ list_any (nat_eq k) order) (sym e) (ap is_open (set-same ss i t (omega arith)) ∙ (now ∙ (sym was ∙ h.those_open i l)))
        | inr n ↦ ap is_open (set-other ss i k t (λ e. n (sym e))) ∙ h.those_open k lk
      ];
    }

-- a member changed that is open then, and comes to the front
pub front-order : (count : ℕ) (order : List ℕ) (ss : States) (i : ℕ) (t : State) → IsOrdered count (open_with (order_own order) ss) → i < count → is_open t ≡ true → IsOrdered count (list_with (to_front i order) i ss t)
front-order count order ss i t h l now =
    let c = h.children in
    record {
      form = refl;
      children = set-count ss i t ∙ h.children;
      named = (l, each-rest (λ j. j < count) i order h.named);
      once = (each-other_rest i order, once-rest i order h.once);
      those_open = λ k lk. elim (cases_eq k i) [
        | inl e ↦ subst (λ k. is_open (nth_child (set_child ss i t) k) ≡ list_any (nat_eq k) (to_front i order)) (sym e) (ap is_open (set-same ss i t (omega arith)) ∙ (now ∙ sym (any-here i (rest_of i order))))
        | inr n ↦ ap is_open (set-other ss i k t (λ e. n (sym e))) ∙ (h.those_open k lk ∙ sym (any-front i k n order))
      ];
    }
