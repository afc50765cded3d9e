-- Runs: rows of units, each taken (true) or free (false), and the first place where so many are free.
use Rattle.std.specs.Prelude.{ℕ, zero, suc, ◌+◌, Bool, true, false, ◌&&◌, List, [], ◌∷◌, Option, Some, None, drop}

-- the first n units are there and none is taken
unfoldable pub starts_free : ℕ → List Bool → Bool
starts_free zero us = true
starts_free (suc n) [] = false
starts_free (suc n) (true ∷ us) = false
starts_free (suc n) (false ∷ us) = starts_free n us

-- the first n units are there and each is taken
unfoldable pub starts_taken : ℕ → List Bool → Bool
starts_taken zero us = true
starts_taken (suc n) [] = false
starts_taken (suc n) (true ∷ us) = starts_taken n us
starts_taken (suc n) (false ∷ us) = false

-- the n units from number i on are there, and free or taken
abbrev pub is_free_run : (us : List Bool) (i n : ℕ) → Bool
is_free_run us i n = starts_free n (drop i us)

abbrev pub is_taken_run : (us : List Bool) (i n : ℕ) → Bool
is_taken_run us i n = starts_taken n (drop i us)

-- The number of the first unit that passes the test and from which n units are free. Units are counted from i.
unfoldable pub first_run : (allowed : ℕ → Bool) (n i : ℕ) → List Bool → Option ℕ
unfolding starts_free
first_run allowed n i [] = None
first_run allowed n i (u ∷ us) =
    elim (allowed i && starts_free n (u ∷ us)) [ true ↦ Some i | false ↦ first_run allowed n (suc i) us ]

-- the row with n elements from number i on replaced by x
unfoldable pub put_run : {A : Type 0} → A → (i n : ℕ) → List A → List A
put_run x zero zero ys = ys
put_run x zero (suc n) [] = []
put_run x zero (suc n) (y ∷ ys) = x ∷ put_run x zero n ys
put_run x (suc i) n [] = []
put_run x (suc i) n (y ∷ ys) = y ∷ put_run x i n ys

-- how many units are free
unfoldable pub free_count : List Bool → ℕ
free_count [] = 0
free_count (true ∷ us) = free_count us
free_count (false ∷ us) = suc (free_count us)

-- the first of p, p + step and so on that passes the test, after at most so many steps
unfoldable pub first_place : (test : ℕ → Bool) (step steps p : ℕ) → Option ℕ
first_place test step zero p = elim (test p) [ true ↦ Some p | false ↦ None ]
first_place test step (suc n) p = elim (test p) [ true ↦ Some p | false ↦ first_place test step n (p + step) ]
