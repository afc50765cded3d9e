-- Runs of units, index by index.
use Rattle.std.proofs.Common.{◌≡◌, refl, ℕ, zero, suc, ◌≤◌, ◌<◌, ◌+◌, ◌-◌, Bool, true, false, ◌&&◌, arith, List, [], ◌∷◌, get_or, length, drop, Some, map, not, nat_eq}
use Rattle.space_core.specs.Runs.{starts_free, starts_taken, first_run, put_run}

pub starts_taken-at : (n : ℕ) (us : List Bool) (k : ℕ) → starts_taken n us ≡ true → k < n → get_or us k false ≡ true
unfolding starts_taken
starts_taken-at zero us k h l = absurd (omega arith)
starts_taken-at (suc n) [] k h l = absurd (cc)
starts_taken-at (suc n) (false ∷ us) k h l = absurd (cc)
starts_taken-at (suc n) (true ∷ us) zero h l = refl
starts_taken-at (suc n) (true ∷ us) (suc k) h l = starts_taken-at n us k h (omega arith)

pub starts_taken-from : (n : ℕ) (us : List Bool) → ((k : ℕ) → k < n → get_or us k false ≡ true) → starts_taken n us ≡ true
unfolding starts_taken
starts_taken-from zero us h = refl
starts_taken-from (suc n) [] h = let e = h 0 (omega arith) in absurd (cc)
starts_taken-from (suc n) (false ∷ us) h = let e = h 0 (omega arith) in absurd (cc)
starts_taken-from (suc n) (true ∷ us) h = starts_taken-from n us (λ k l. h (suc k) (omega arith))

pub starts_free-at : (n : ℕ) (us : List Bool) (k : ℕ) → starts_free n us ≡ true → k < n → get_or us k true ≡ false
unfolding starts_free
starts_free-at zero us k h l = absurd (omega arith)
starts_free-at (suc n) [] k h l = absurd (cc)
starts_free-at (suc n) (true ∷ us) k h l = absurd (cc)
starts_free-at (suc n) (false ∷ us) zero h l = refl
starts_free-at (suc n) (false ∷ us) (suc k) h l = starts_free-at n us k h (omega arith)

-- a cell whose unit is free has no tag
pub free-cell : (T : List ℕ) (c : ℕ) → get_or (map (λ t. not (nat_eq t 0)) T) c true ≡ false → get_or T c 0 ≡ 0
free-cell [] c h = refl
free-cell (t ∷ T) zero h = grind arith
free-cell (t ∷ T) (suc c) h = free-cell T c h

-- ---- a run that is put

pub put_run-below : {A : Type 0} (x : A) (i n : ℕ) (ys : List A) (k : ℕ) (d : A) → k < i → get_or (put_run x i n ys) k d ≡ get_or ys k d
unfolding put_run
put_run-below x zero n ys k d h = absurd (omega arith)
put_run-below x (suc i) n [] k d h = refl
put_run-below x (suc i) n (y ∷ ys) zero d h = refl
put_run-below x (suc i) n (y ∷ ys) (suc k) d h = put_run-below x i n ys k d (omega arith)

pub put_run-above : {A : Type 0} (x : A) (i n : ℕ) (ys : List A) (k : ℕ) (d : A) → i + n ≤ k → get_or (put_run x i n ys) k d ≡ get_or ys k d
unfolding put_run
put_run-above x zero zero ys k d h = refl
put_run-above x zero (suc n) [] k d h = refl
put_run-above x zero (suc n) (y ∷ ys) zero d h = absurd (omega arith)
put_run-above x zero (suc n) (y ∷ ys) (suc k) d h = put_run-above x zero n ys k d (omega arith)
put_run-above x (suc i) n [] k d h = refl
put_run-above x (suc i) n (y ∷ ys) zero d h = refl
put_run-above x (suc i) n (y ∷ ys) (suc k) d h = put_run-above x i n ys k d (omega arith)

pub put_run-in : {A : Type 0} (x : A) (i n : ℕ) (ys : List A) (k : ℕ) (d : A) → i ≤ k → k < i + n → k < length ys → get_or (put_run x i n ys) k d ≡ x
unfolding put_run
put_run-in x zero zero ys k d a b c = absurd (omega arith)
put_run-in x zero (suc n) [] k d a b c = absurd (omega arith)
put_run-in x zero (suc n) (y ∷ ys) zero d a b c = refl
put_run-in x zero (suc n) (y ∷ ys) (suc k) d a b c = put_run-in x zero n ys k d (omega arith) (omega arith) (omega arith)
put_run-in x (suc i) n [] k d a b c = absurd (omega arith)
put_run-in x (suc i) n (y ∷ ys) zero d a b c = absurd (omega arith)
put_run-in x (suc i) n (y ∷ ys) (suc k) d a b c = put_run-in x i n ys k d (omega arith) (omega arith) (omega arith)

-- ---- the run that is found

pub record IsFound (allowed : ℕ → Bool) (n i : ℕ) (us : List Bool) (c : ℕ) : Type 0 where
  pub from : i ≤ c
  pub passes : allowed c ≡ true
  pub free : starts_free n (drop (c - i) us) ≡ true

first_run-case : (allowed : ℕ → Bool) (n i : ℕ) (u : Bool) (us : List Bool) (c : ℕ) (b : Bool) → (allowed i && starts_free n (u ∷ us)) ≡ b → (first_run allowed n (suc i) us ≡ Some c → IsFound allowed n (suc i) us c) → (elim b [ true ↦ Some i | false ↦ first_run allowed n (suc i) us ]) ≡ Some c → IsFound allowed n i (u ∷ us) c
first_run-case allowed n i u us c true e h q =
    let s : i ≡ c = cc in
    let z : c - i ≡ 0 = omega arith in
    record { from = omega arith; passes = rw (← s) (grind arith); free = rw z (grind arith) }
first_run-case allowed n i u us c false e h q =
    let r = h q in
    let z : c - i ≡ suc (c - suc i) = omega (arith, r.from) in
    record { from = omega (arith, r.from); passes = r.passes; free = rw z r.free }

pub first_run-found : (allowed : ℕ → Bool) (n i : ℕ) (us : List Bool) (c : ℕ) → first_run allowed n i us ≡ Some c → IsFound allowed n i us c
unfolding first_run
first_run-found allowed n i [] c e = absurd (cc)
first_run-found allowed n i (u ∷ us) c e = first_run-case allowed n i u us c _ refl (first_run-found allowed n (suc i) us c) e
