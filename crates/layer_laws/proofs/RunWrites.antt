-- A run that is put, and the count of free units.
use Rattle.std.proofs.Common.{◌≡◌, refl, ℕ, zero, suc, ◌+◌, ◌<◌, ◌≤◌, Bool, true, false, not, cond, List, [], ◌∷◌, length, Some, slice_get, arith}
use Rattle.std.proofs.lemmas.List.Recursion.{is_count_by}
use Rattle.space_core.specs.Runs.{put_run, free_count}
use Rattle.space_core.proofs.CellRuns.{length-put_run}
use Rattle.layer_laws.specs.UnitMeanings.{IsPut, UnitsArePut, NumbersArePut, FreeCountCounts}

put_inside : {A : Type 0} (x : A) (i n : ℕ) (ys : List A) (k : ℕ) → k < length ys → i ≤ k → k < i + n → slice_get (put_run x i n ys) k ≡ Some x
unfolding put_run
put_inside x zero zero ys k a b c = absurd (omega arith)
put_inside x zero (suc n) [] k a b c = absurd (omega arith)
put_inside x zero (suc n) (y ∷ ys) zero a b c = refl
put_inside x zero (suc n) (y ∷ ys) (suc k) a b c = put_inside x zero n ys k (omega arith) (omega arith) (omega arith)
put_inside x (suc i) n [] k a b c = absurd (omega arith)
put_inside x (suc i) n (y ∷ ys) zero a b c = absurd (omega arith)
put_inside x (suc i) n (y ∷ ys) (suc k) a b c = put_inside x i n ys k (omega arith) (omega arith) (omega arith)

put_below : {A : Type 0} (x : A) (i n : ℕ) (ys : List A) (k : ℕ) → k < i → slice_get (put_run x i n ys) k ≡ slice_get ys k
unfolding put_run
put_below x zero n ys k h = absurd (omega arith)
put_below x (suc i) n [] k h = refl
put_below x (suc i) n (y ∷ ys) zero h = refl
put_below x (suc i) n (y ∷ ys) (suc k) h = put_below x i n ys k (omega arith)

put_behind : {A : Type 0} (x : A) (i n : ℕ) (ys : List A) (k : ℕ) → i + n ≤ k → slice_get (put_run x i n ys) k ≡ slice_get ys k
unfolding put_run
put_behind x zero zero ys k h = refl
put_behind x zero (suc n) [] k h = refl
put_behind x zero (suc n) (y ∷ ys) zero h = absurd (omega arith)
put_behind x zero (suc n) (y ∷ ys) (suc k) h = put_behind x zero n ys k (omega arith)
put_behind x (suc i) n [] k h = refl
put_behind x (suc i) n (y ∷ ys) zero h = refl
put_behind x (suc i) n (y ∷ ys) (suc k) h = put_behind x i n ys k (omega arith)

is_put : {A : Type 0} (x : A) (i n : ℕ) (ys : List A) → IsPut x i n ys (put_run x i n ys)
is_put x i n ys = record { size = length-put_run x i n ys; inside = put_inside x i n ys; below = put_below x i n ys; behind = put_behind x i n ys }

pub units_are_put : UnitsArePut
units_are_put x i n us = is_put x i n us

pub numbers_are_put : NumbersArePut
numbers_are_put x i n xs = is_put x i n xs

free_count-cons : (u : Bool) (us : List Bool) → free_count (u ∷ us) ≡ cond (not u) (1 + free_count us) (free_count us)
unfolding free_count
free_count-cons true us = refl
free_count-cons false us = omega arith

pub free_count_counts : FreeCountCounts
unfolding free_count
free_count_counts us = is_count_by free_count not refl free_count-cons us
