-- Runs of cells, step by step.
use Rattle.std.proofs.Common.{ℕ, zero, suc, ◌≡◌, ◌≢◌, ◌+◌, ◌-◌, ◌≤◌, ◌<◌, Bool, true, false, not, ◌&&◌, nat_eq, length-drop, List, [], ◌∷◌, length, get_or, set, drop, Option, Some, refl, ap, ◌∙◌, arith}
use Rattle.std.proofs.Math.Seq.{drop-cons}
use Rattle.std.proofs.lemmas.Bool.Decides.{nat_tests}
use Rattle.std.proofs.lemmas.List.{get_or-drop, length-map}
use Rattle.space_core.specs.Cells.{Cells, taken_cells, cells_with, cell_at, cells_touched, has_tag, cell_behind, more_cells, has_room_behind}
use Rattle.space_core.specs.Runs.{starts_free, starts_taken, is_free_run, is_taken_run, first_run, put_run}

-- ---- the row of a table

abbrev pub row : List ℕ → List Bool
row T = taken_cells (record { tags = T })

pub length-row : (T : List ℕ) → length (row T) ≡ length T
length-row [] = refl
length-row (t ∷ T) = ap suc (length-row T)

row-at : (T : List ℕ) (c : ℕ) → c < length T → get_or (row T) c true ≡ not (nat_eq (get_or T c 0) 0)
row-at [] c h = absurd (omega arith)
row-at (t ∷ T) zero h = refl
row-at (t ∷ T) (suc c) h = row-at T c (omega arith)

row-cons : (T : List ℕ) (c : ℕ) → c < length T → drop c (row T) ≡ not (nat_eq (get_or T c 0) 0) ∷ drop (c + 1) (row T)
row-cons T c h =
    let l : c < length (row T) = rw length-row h in
    let e : c + 1 ≡ suc c = omega arith in
    rw e (drop-cons (row T) c true l ∙ ap (λ u. u ∷ drop (suc c) (row T)) (row-at T c h))

taken_tag : (t : ℕ) → t ≢ 0 → not (nat_eq t 0) ≡ true
taken_tag t h = grind (arith, nat_tests)

-- a cell that is taken, or past the end, is taken in the row
row-taken : (T : List ℕ) (j : ℕ) → (j < length T → get_or T j 0 ≢ 0) → get_or (row T) j true ≡ true
row-taken [] j h = refl
row-taken (t ∷ T) zero h = taken_tag t (h (omega arith))
row-taken (t ∷ T) (suc j) h = row-taken T j (λ l. h (omega arith))

-- ---- free and taken runs

pub starts_free-length : (n : ℕ) (us : List Bool) → starts_free n us ≡ true → n ≤ length us
unfolding starts_free
starts_free-length zero us h = omega arith
starts_free-length (suc n) [] h = absurd (cc)
starts_free-length (suc n) (true ∷ us) h = absurd (cc)
starts_free-length (suc n) (false ∷ us) h = let l = starts_free-length n us h in omega arith

starts_taken-length : (n : ℕ) (us : List Bool) → starts_taken n us ≡ true → n ≤ length us
unfolding starts_taken
starts_taken-length zero us h = omega arith
starts_taken-length (suc n) [] h = absurd (cc)
starts_taken-length (suc n) (false ∷ us) h = absurd (cc)
starts_taken-length (suc n) (true ∷ us) h = let l = starts_taken-length n us h in omega arith

-- a free run, and one of cells with a tag, stand within the table
pub free-inside : (T : List ℕ) (c n : ℕ) → is_free_run (row T) c n ≡ true → 0 < n → c + n ≤ length T
free-inside T c n h p =
    let l = starts_free-length n (drop c (row T)) h in
    let d : length (drop c (row T)) ≡ length T - c = rw length-drop (rw length-row refl) in
    omega arith

pub taken-inside : (us : List Bool) (c n : ℕ) → is_taken_run us c n ≡ true → 0 < n → c + n ≤ length us
taken-inside us c n h p =
    let l = starts_taken-length n (drop c us) h in
    let d : length (drop c us) ≡ length us - c = rw length-drop refl in
    omega arith

pub tagged-inside : (tag place n : ℕ) (cells : Cells) → has_tag tag place n cells ≡ true → 1 ≤ n → cell_at place + cells_touched place n ≤ length cells.tags
tagged-inside tag place n cells h p =
    let l : length (cells_with tag cells) ≡ length cells.tags = rw length-map refl in
    let t = taken-inside (cells_with tag cells) (cell_at place) (cells_touched place n) h (omega arith) in
    omega arith

pub free-end : (T : List ℕ) (c e : ℕ) → e ≤ c → is_free_run (row T) c (e - c) ≡ true
unfolding starts_free
free-end T c e h = let d : e - c ≡ 0 = omega arith in ap (λ n. is_free_run (row T) c n) d

free-cons : (n : ℕ) (u : Bool) (us : List Bool) → starts_free (suc n) (u ∷ us) ≡ (not u && starts_free n us)
unfolding starts_free
free-cons n true us = refl
free-cons n false us = refl

pub free-step : (T : List ℕ) (c e : ℕ) → c < e → c < length T → is_free_run (row T) c (e - c) ≡ (nat_eq (get_or T c 0) 0 && is_free_run (row T) (c + 1) (e - (c + 1)))
free-step T c e h l =
    let d : e - c ≡ suc (e - (c + 1)) = omega arith in
    rw (d, row-cons T c l) (free-cons (e - (c + 1)) (not (nat_eq (get_or T c 0) 0)) (drop (c + 1) (row T)) ∙ twice (nat_eq (get_or T c 0) 0) (starts_free (e - (c + 1)) (drop (c + 1) (row T))))
  where
    twice : (a b : Bool) → (not (not a) && b) ≡ (a && b)
    twice true b = refl
    twice false b = refl

-- no run is free that holds a taken unit, or one past the end
not_free : (n k : ℕ) (us : List Bool) → k < n → get_or us k true ≡ true → starts_free n us ≡ false
unfolding starts_free
not_free zero k us l e = absurd (omega arith)
not_free (suc n) k [] l e = refl
not_free (suc n) k (true ∷ us) l e = refl
not_free (suc n) zero (false ∷ us) l e = absurd (cc)
not_free (suc n) (suc k) (false ∷ us) l e = not_free n k us (omega arith) e

pub not_free-there : (T : List ℕ) (c n j : ℕ) → c ≤ j → j < c + n → (j < length T → get_or T j 0 ≢ 0) → is_free_run (row T) c n ≡ false
not_free-there T c n j a b h =
    let k = j - c in
    let p : c + k ≡ j = omega arith in
    not_free n k (drop c (row T)) (omega arith) (rw (get_or-drop c (row T) k true, p) (row-taken T j h))

-- ---- the first run

second : (b : Bool) (x y : Option ℕ) → b ≡ false → elim b as (λ _. Option ℕ) [ true ↦ x | false ↦ y ] ≡ y
second true x y e = absurd (cc)
second false x y e = refl

first : (b : Bool) (x y : Option ℕ) → b ≡ true → elim b as (λ _. Option ℕ) [ true ↦ x | false ↦ y ] ≡ x
first true x y e = refl
first false x y e = absurd (cc)

pub passed : (allowed : ℕ → Bool) (n c : ℕ) (u : Bool) (us : List Bool) → (allowed c && starts_free n (u ∷ us)) ≡ false → first_run allowed n c (u ∷ us) ≡ first_run allowed n (suc c) us
unfolding first_run
passed allowed n c u us e = second (allowed c && starts_free n (u ∷ us)) (Some c) (first_run allowed n (suc c) us) e

pub found : (allowed : ℕ → Bool) (n c : ℕ) (u : Bool) (us : List Bool) → (allowed c && starts_free n (u ∷ us)) ≡ true → first_run allowed n c (u ∷ us) ≡ Some c
unfolding first_run
found allowed n c u us e = first (allowed c && starts_free n (u ∷ us)) (Some c) (first_run allowed n (suc c) us) e

-- ---- a run that is put

put-nothing : {A : Type 0} (x : A) (i : ℕ) (ys : List A) → put_run x i 0 ys ≡ ys
unfolding put_run
put-nothing x zero ys = refl
put-nothing x (suc i) [] = refl
put-nothing x (suc i) (y ∷ ys) = ap (λ zs. y ∷ zs) (put-nothing x i ys)

pub put-end : {A : Type 0} (x : A) (c e : ℕ) (ys : List A) → e ≤ c → put_run x c (e - c) ys ≡ ys
put-end x c e ys h = let d : e - c ≡ 0 = omega arith in rw d (put-nothing x c ys)

put-more : {A : Type 0} (x : A) (c n : ℕ) (ys : List A) → put_run x c (suc n) ys ≡ put_run x (suc c) n (set ys c x)
unfolding put_run
put-more x zero n [] = refl
put-more x zero n (y ∷ ys) = refl
put-more x (suc c) n [] = refl
put-more x (suc c) n (y ∷ ys) = ap (λ zs. y ∷ zs) (put-more x c n ys)

pub put-step : {A : Type 0} (x : A) (c e : ℕ) (ys : List A) → c < e → put_run x c (e - c) ys ≡ put_run x (c + 1) (e - (c + 1)) (set ys c x)
put-step x c e ys h =
    let d : e - c ≡ suc (e - (c + 1)) = omega arith in
    let q : c + 1 ≡ suc c = omega arith in
    rw (d, q) (put-more x c (e - suc c) ys)

pub put_run-nil : {A : Type 0} (x : A) (i n : ℕ) → put_run x i n [] ≡ []
unfolding put_run
put_run-nil x zero zero = refl
put_run-nil x zero (suc n) = refl
put_run-nil x (suc i) n = refl

pub length-put_run : {A : Type 0} (x : A) (i n : ℕ) (ys : List A) → length (put_run x i n ys) ≡ length ys
unfolding put_run
length-put_run x zero zero ys = refl
length-put_run x zero (suc n) [] = refl
length-put_run x zero (suc n) (y ∷ ys) = ap suc (length-put_run x zero n ys)
length-put_run x (suc i) n [] = refl
length-put_run x (suc i) n (y ∷ ys) = ap suc (length-put_run x i n ys)

-- free cells behind a block with cells of its own stand within the table
pub behind-inside : (tag place n m : ℕ) (cells : Cells) → has_tag tag place n cells ≡ true → 1 ≤ n → has_room_behind place n m cells ≡ true → cell_behind place n + more_cells place n m ≤ length cells.tags
behind-inside tag place n m cells h p f = by_count (more_cells place n m) f
  where
    by_count : (k : ℕ) → is_free_run (taken_cells cells) (cell_behind place n) k ≡ true → cell_behind place n + k ≤ length cells.tags
    by_count zero f = let t = tagged-inside tag place n cells h p in omega arith
    by_count (suc k) f = free-inside cells.tags (cell_behind place n) (suc k) f (omega arith)
