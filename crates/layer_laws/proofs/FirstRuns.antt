-- Runs of units element by element, and the first run.
use Rattle.std.proofs.Common.{◌≡◌, refl, sym, ◌∙◌, ap, subst, ℕ, zero, suc, ◌+◌, ◌-◌, ◌<◌, ◌≤◌, ⊎_elim, Bool, true, false, not, ◌&&◌, nat_eq, List, [], ◌∷◌, length, drop, map, Option, Some, None, slice_get, arith}
use Rattle.std.proofs.lemmas.Bool.{cases_lt}
use Rattle.std.proofs.lemmas.Bool.Decides.{nat_tests}
use Rattle.std.proofs.lemmas.Option.{slice_get_within}
use Rattle.space_core.specs.Runs.{starts_free, starts_taken, is_free_run, first_run}
use Rattle.space_core.specs.Cells.{taken_cells, cells_with}
use Rattle.layer_laws.specs.UnitMeanings.{AreAll, FreeRunsAreFree, TakenRunsAreTaken, FreeCellsAreUntagged, TaggedCellsHaveTheTag, IsFirstRun, FirstRunIsFirst, NoFirstRun}

-- ---- element by element

starts_free-each : (n : ℕ) (us : List Bool) → starts_free n us ≡ true → (k : ℕ) → k < n → slice_get us k ≡ Some false
unfolding starts_free
starts_free-each zero us h k l = absurd (omega arith)
starts_free-each (suc n) [] h k l = cc
starts_free-each (suc n) (true ∷ us) h k l = cc
starts_free-each (suc n) (false ∷ us) h zero l = refl
starts_free-each (suc n) (false ∷ us) h (suc k) l = starts_free-each n us h k (omega arith)

starts_free-from : (n : ℕ) (us : List Bool) → ((k : ℕ) → k < n → slice_get us k ≡ Some false) → starts_free n us ≡ true
unfolding starts_free
starts_free-from zero us h = refl
starts_free-from (suc n) [] h = let e = h 0 (omega arith) in cc
starts_free-from (suc n) (true ∷ us) h = let e = h 0 (omega arith) in cc
starts_free-from (suc n) (false ∷ us) h = starts_free-from n us (λ k l. h (suc k) (omega arith))

starts_taken-each : (n : ℕ) (us : List Bool) → starts_taken n us ≡ true → (k : ℕ) → k < n → slice_get us k ≡ Some true
unfolding starts_taken
starts_taken-each zero us h k l = absurd (omega arith)
starts_taken-each (suc n) [] h k l = cc
starts_taken-each (suc n) (false ∷ us) h k l = cc
starts_taken-each (suc n) (true ∷ us) h zero l = refl
starts_taken-each (suc n) (true ∷ us) h (suc k) l = starts_taken-each n us h k (omega arith)

starts_taken-from : (n : ℕ) (us : List Bool) → ((k : ℕ) → k < n → slice_get us k ≡ Some true) → starts_taken n us ≡ true
unfolding starts_taken
starts_taken-from zero us h = refl
starts_taken-from (suc n) [] h = let e = h 0 (omega arith) in cc
starts_taken-from (suc n) (false ∷ us) h = let e = h 0 (omega arith) in cc
starts_taken-from (suc n) (true ∷ us) h = starts_taken-from n us (λ k l. h (suc k) (omega arith))

slice_get-dropped : {A : Type 0} (i k : ℕ) (xs : List A) → slice_get (drop i xs) k ≡ slice_get xs (i + k)
slice_get-dropped zero k xs = let e : zero + k ≡ k = omega arith in rw e refl
slice_get-dropped (suc i) k [] = refl
slice_get-dropped (suc i) k (x ∷ xs) = let e : suc i + k ≡ suc (i + k) = omega arith in rw e (slice_get-dropped i k xs)

all_from-starts : {A : Type 0} (x : A) (xs : List A) (i n : ℕ) → ((k : ℕ) → k < n → slice_get (drop i xs) k ≡ Some x) → AreAll x xs i n
all_from-starts x xs i n h k l m =
    let e : i + (k - i) ≡ k = omega arith in
    ap (λ q. slice_get xs q) (sym e) ∙ sym (slice_get-dropped i (k - i) xs) ∙ h (k - i) (omega arith)

starts-from_all : {A : Type 0} (x : A) (xs : List A) (i n : ℕ) → AreAll x xs i n → (k : ℕ) → k < n → slice_get (drop i xs) k ≡ Some x
starts-from_all x xs i n h k l = slice_get-dropped i k xs ∙ h (i + k) (omega arith) (omega arith)

pub free_runs_are_free : FreeRunsAreFree
free_runs_are_free us i n =
    (λ h. all_from-starts false us i n (starts_free-each n (drop i us) h), λ h. starts_free-from n (drop i us) (starts-from_all false us i n h))

pub taken_runs_are_taken : TakenRunsAreTaken
taken_runs_are_taken us i n =
    (λ h. all_from-starts true us i n (starts_taken-each n (drop i us) h), λ h. starts_taken-from n (drop i us) (starts-from_all true us i n h))

-- ---- cells, which are units by a test of their tag

mapped-each : {A B : Type 0} (f : A → B) (x : A) (y : B) (xs : List A) (k : ℕ) → ((z : A) → f z ≡ y → z ≡ x) → slice_get (map f xs) k ≡ Some y → slice_get xs k ≡ Some x
mapped-each f x y [] k back h = cc
mapped-each f x y (z ∷ xs) zero back h = let e : f z ≡ y = cc in ap Some (back z e)
mapped-each f x y (z ∷ xs) (suc k) back h = mapped-each f x y xs k back h

each-mapped : {A B : Type 0} (f : A → B) (x : A) (y : B) (xs : List A) (k : ℕ) → f x ≡ y → slice_get xs k ≡ Some x → slice_get (map f xs) k ≡ Some y
each-mapped f x y [] k e h = cc
each-mapped f x y (z ∷ xs) zero e h = let s : z ≡ x = cc in ap Some (ap f s ∙ e)
each-mapped f x y (z ∷ xs) (suc k) e h = each-mapped f x y xs k e h

untagged : (tag : ℕ) → not (nat_eq tag 0) ≡ false → tag ≡ 0
untagged tag h = grind (arith, nat_tests)

same_tag : (tag t : ℕ) → nat_eq t tag ≡ true → t ≡ tag
same_tag tag t h = grind (arith, nat_tests)

pub free_cells_are_untagged : FreeCellsAreUntagged
free_cells_are_untagged cells i n =
    let f = λ (tag : ℕ). not (nat_eq tag 0) in
    let r = free_runs_are_free (taken_cells cells) i n in
    (λ h k l m. mapped-each f 0 false cells.tags k untagged (r.0 h k l m), λ h. r.1 (λ k l m. each-mapped f 0 false cells.tags k refl (h k l m)))

pub tagged_cells_have_the_tag : TaggedCellsHaveTheTag
tagged_cells_have_the_tag tag cells i n =
    let f = λ (t : ℕ). nat_eq t tag in
    let same : nat_eq tag tag ≡ true = grind (arith, nat_tests) in
    let r = taken_runs_are_taken (cells_with tag cells) i n in
    (λ h k l m. mapped-each f tag true cells.tags k (same_tag tag) (r.0 h k l m), λ h. r.1 (λ k l m. each-mapped f tag true cells.tags k same (h k l m)))

-- a free run of some units begins at a unit
pub run_within : (us : List Bool) (i n : ℕ) → 1 ≤ n → is_free_run us i n ≡ true → i < length us
run_within us i n l h = slice_get_within us i false ((free_runs_are_free us i n).0 h i (omega arith) (omega arith))

-- ---- the first run

second_fails : (a b : Bool) → (a && b) ≡ false → a ≡ true → b ≡ false
second_fails true b h e = h
second_fails false b h e = cc

-- what holds of no start behind i, and not of i, holds of none from i on
none_behind : (allowed : ℕ → Bool) (n i : ℕ) (u : Bool) (us : List Bool) (k : ℕ) → (allowed i && starts_free n (u ∷ us)) ≡ false → (suc i ≤ k → allowed k ≡ true → is_free_run us (k - suc i) n ≡ false) → i ≤ k → allowed k ≡ true → is_free_run (u ∷ us) (k - i) n ≡ false
none_behind allowed n i u us k t rest l e = ⊎_elim
    (λ m. let z : k - i ≡ suc (k - suc i) = omega arith in rw z (rest (omega arith) e))
    (λ m. let s : k ≡ i = omega arith in let z : k - i ≡ 0 = omega arith in rw z (second_fails (allowed i) (starts_free n (u ∷ us)) t (subst (λ q. allowed q ≡ true) s e)))
    (cases_lt i k)

first_run-case : (allowed : ℕ → Bool) (n i : ℕ) (u : Bool) (us : List Bool) (j : ℕ) (b : Bool) → (allowed i && starts_free n (u ∷ us)) ≡ b → (first_run allowed n (suc i) us ≡ Some j → IsFirstRun allowed n (suc i) us j) → (elim b [ true ↦ Some i | false ↦ first_run allowed n (suc i) us ]) ≡ Some j → IsFirstRun allowed n i (u ∷ us) j
first_run-case allowed n i u us j true t rest h =
    let s : i ≡ j = cc in
    let z : j - i ≡ 0 = omega arith in
    record { from = omega arith; within = omega arith; passes = rw (← s) (grind arith); free = rw z (grind arith); first = λ k l m e. absurd (omega arith) }
first_run-case allowed n i u us j false t rest h =
    let r = rest h in
    let f = r.from in
    let w = r.within in
    let z : j - i ≡ suc (j - suc i) = omega arith in
    record { from = omega arith; within = omega arith; passes = r.passes; free = rw z r.free; first = λ k l m e. none_behind allowed n i u us k t (λ o e. r.first k o m e) l e }

pub first_run_is_first : FirstRunIsFirst
unfolding first_run
first_run_is_first allowed n i [] j h = cc
first_run_is_first allowed n i (u ∷ us) j h = first_run-case allowed n i u us j _ refl (first_run_is_first allowed n (suc i) us j) h

no_run-case : (allowed : ℕ → Bool) (n i : ℕ) (u : Bool) (us : List Bool) (k : ℕ) (b : Bool) → (allowed i && starts_free n (u ∷ us)) ≡ b → (first_run allowed n (suc i) us ≡ None → suc i ≤ k → allowed k ≡ true → is_free_run us (k - suc i) n ≡ false) → ◌≡◌ {A = Option ℕ} (elim b [ true ↦ Some i | false ↦ first_run allowed n (suc i) us ]) None → i ≤ k → allowed k ≡ true → is_free_run (u ∷ us) (k - i) n ≡ false
no_run-case allowed n i u us k true t rest h l e = cc
no_run-case allowed n i u us k false t rest h l e = none_behind allowed n i u us k t (rest h) l e

pub no_first_run : NoFirstRun
unfolding first_run
no_first_run allowed n i [] h k l m e = absurd (omega arith)
no_first_run allowed n i (u ∷ us) h k l m e =
    no_run-case allowed n i u us k _ refl (λ f o g. no_first_run allowed n (suc i) us f k o (omega arith) g) h l e
