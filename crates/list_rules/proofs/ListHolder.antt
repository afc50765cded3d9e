-- The holder of a block in a list: the first of the order that holds it.
use Rattle.std.proofs.Common.{◌≡◌, ◌≢◌, refl, sym, ap, ◌∙◌, ℕ, inl, inr, Bool, true, false, ◌||◌, cond, arith, List, [], ◌∷◌, Some, None, find, nat_eq}
use Rattle.std.proofs.lemmas.Bool.{cases_eq}
use Rattle.std.proofs.lemmas.Bool.Decides.{nat_tests}
use Rattle.std.specs.List.{list_any}

later : (x y : Bool) → x ≡ false → (x || y) ≡ true → y ≡ true
later false y e q = q
later true y e q = absurd (cc)

pub or-right : (x y : Bool) → y ≡ true → (x || y) ≡ true
or-right true y q = refl
or-right false y q = q

-- where one number alone passes, and is in the row
pub find-only : (p : ℕ → Bool) (j : ℕ) (is : List ℕ) → list_any (nat_eq j) is ≡ true → p j ≡ true → ((i : ℕ) → (i ≡ j → ⊥) → p i ≡ false) → find p is ≡ Some j
find-only p j [] h t f = absurd (cc)
find-only p j (i ∷ is) h t f =
    elim (cases_eq i j) [
      | inl e ↦ ap (λ x. cond x (Some i) (find p is)) (ap p e ∙ t) ∙ ap Some e
      | inr n ↦ ap (λ x. cond x (Some i) (find p is)) (f i n) ∙ find-only p j is (later (nat_eq j i) (list_any (nat_eq j) is) (other n) h) t f
    ]
  where
    other : (i ≡ j → ⊥) → nat_eq j i ≡ false
    other n = let m : j ≢ i = λ e. n (sym e) in grind (arith, nat_tests)

-- where none passes
pub find-none : (p : ℕ → Bool) (is : List ℕ) → ((k : ℕ) → p k ≡ false) → find p is ≡ None
find-none p [] f = refl
find-none p (i ∷ is) f = ap (λ x. cond x (Some i) (find p is)) (f i) ∙ find-none p is f

-- a number of the row passes
pub any-passes : (p : ℕ → Bool) (is : List ℕ) → list_any p is ≡ true → (i : ℕ) × (p i ≡ true)
any-passes p [] h = absurd (cc)
any-passes p (i ∷ is) h = go (p i) refl h (any-passes p is)
  where
    go : (x : Bool) → p i ≡ x → (x || list_any p is) ≡ true → (list_any p is ≡ true → (i : ℕ) × (p i ≡ true)) → (i : ℕ) × (p i ≡ true)
    go true e q f = (i, e)
    go false e q f = f q

pub passes-any : (p : ℕ → Bool) (j : ℕ) (is : List ℕ) → list_any (nat_eq j) is ≡ true → p j ≡ true → list_any p is ≡ true
passes-any p j [] h t = absurd (cc)
passes-any p j (i ∷ is) h t =
    elim (cases_eq i j) [
      | inl e ↦ ap (λ x. x || list_any p is) (ap p e ∙ t)
      | inr n ↦ or-right (p i) (list_any p is) (passes-any p j is (later (nat_eq j i) (list_any (nat_eq j) is) (other n) h) t)
    ]
  where
    other : (i ≡ j → ⊥) → nat_eq j i ≡ false
    other n = let m : j ≢ i = λ e. n (sym e) in grind (arith, nat_tests)
