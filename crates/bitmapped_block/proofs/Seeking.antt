-- The least run of free units, found from one free unit to the next taken one.
use Rattle.std.proofs.Common.{◌≡◌, refl, sym, ◌∙◌, ap, subst, ℕ, ◌+◌, ◌-◌, ◌≤◌, ◌<◌, ⊎_elim, Bool, true, false, List, length, slice_get, Option, Some, None, arith}
use Rattle.std.proofs.lemmas.Bool.{cases_lt}
use Rattle.std.proofs.lemmas.Option.{slice_get_within}
use Rattle.space_core.specs.Runs.{first_run, is_free_run}
use Rattle.layer_laws.proofs.FirstRuns.{first_run_is_first, no_first_run, free_runs_are_free}
use Rattle.bitmapped_block.specs.UnitBits.{IsNext}

-- ---- the first run, by what holds of it

abbrev pub run_of : (n : ℕ) → List Bool → Option ℕ
run_of n us = first_run (λ i. true) n 0 us

first-is : (n at : ℕ) (us : List Bool) → at < length us → is_free_run us at n ≡ true → ((k : ℕ) → k < at → is_free_run us k n ≡ false) → run_of n us ≡ Some at
first-is n at us l f b = go (run_of n us) refl
  where
    go : (o : Option ℕ) → run_of n us ≡ o → o ≡ Some at
    go None e =
        let z = no_first_run (λ i. true) n 0 us e at (omega arith) (omega arith) refl in
        let s : at - 0 ≡ at = omega arith in
        let y : is_free_run us at n ≡ false = subst (λ k. is_free_run us k n ≡ false) s z in
        absurd (cc)
    go (Some j) e =
        let r = first_run_is_first (λ i. true) n 0 us j e in
        let s : j - 0 ≡ j = omega arith in
        let t : at - 0 ≡ at = omega arith in
        let free : is_free_run us j n ≡ true = subst (λ k. is_free_run us k n ≡ true) s r.free in
        ⊎_elim
        (λ a. let y = b j a in absurd (cc))
        (λ a. ⊎_elim
        (λ c. let y : is_free_run us at n ≡ false = subst (λ k. is_free_run us k n ≡ false) t (r.first at (omega arith) c refl) in absurd (cc))
        (λ c. let q : j ≡ at = omega arith in ap Some q)
        (cases_lt at j))
        (cases_lt j at)

first-none : (n : ℕ) (us : List Bool) → ((k : ℕ) → k < length us → is_free_run us k n ≡ false) → run_of n us ≡ None
first-none n us b = go (run_of n us) refl
  where
    go : (o : Option ℕ) → run_of n us ≡ o → o ≡ None
    go None e = refl
    go (Some j) e =
        let r = first_run_is_first (λ i. true) n 0 us j e in
        let s : j - 0 ≡ j = omega arith in
        let free : is_free_run us j n ≡ true = subst (λ k. is_free_run us k n ≡ true) s r.free in
        let w = r.within in
        let y = b j (omega arith) in
        absurd (cc)

-- ---- where no run is

-- a run with a taken unit is not free, nor is one that reaches behind the last unit
pub not_free : (us : List Bool) (k n j : ℕ) → k ≤ j → j < k + n → slice_get us j ≡ Some true → is_free_run us k n ≡ false
not_free us k n j a b t = go (is_free_run us k n) refl
  where
    go : (x : Bool) → is_free_run us k n ≡ x → x ≡ false
    go false e = refl
    go true e = let f = (free_runs_are_free us k n).0 e j a b in absurd (cc)

pub too_long : (us : List Bool) (k n : ℕ) → 1 ≤ n → length us < k + n → is_free_run us k n ≡ false
too_long us k n a b = go (is_free_run us k n) refl
  where
    go : (x : Bool) → is_free_run us k n ≡ x → x ≡ false
    go false e = refl
    go true e = let w = slice_get_within us (k + n - 1) false ((free_runs_are_free us k n).0 e (k + n - 1) (omega arith) (omega arith)) in absurd (omega arith)

-- no run of so many free units begins before a unit
pub record HasNoneBefore (n : ℕ) (us : List Bool) (at : ℕ) : Type 0 where
  pub none : (k : ℕ) → k < at → is_free_run us k n ≡ false

-- from a taken unit on up to the next free one no run begins
pub none-up_to : (n : ℕ) (us : List Bool) (from upto k : ℕ) → 1 ≤ n → HasNoneBefore n us from → IsNext false us from upto k → HasNoneBefore n us k
none-up_to n us from upto k l h x =
    let s = x.start in
    record { none = λ j a. ⊎_elim (λ b. h.none j b) (λ b. not_free us j n j (omega arith) (omega arith) (x.before j b (omega arith))) (cases_lt j from) }

pub none-at_first : (n : ℕ) (us : List Bool) (upto k : ℕ) → 1 ≤ n → IsNext false us 0 upto k → HasNoneBefore n us k
none-at_first n us upto k l x = none-up_to n us 0 upto k l (record { none = λ j a. absurd (omega arith) }) x

-- a run that ends at a taken unit is too short, and so is one that begins behind its first unit
pub none-over : (n : ℕ) (us : List Bool) (at end : ℕ) → HasNoneBefore n us at → IsNext true us at (at + n) end → end < at + n → HasNoneBefore n us end
none-over n us at end h x l = record { none = λ j a. ⊎_elim (λ b. h.none j b) (λ b. not_free us j n end (omega arith) (omega arith) (x.here l)) (cases_lt j at) }

-- the next free unit stands behind the taken one
pub next-behind : (us : List Bool) (at n end upto k : ℕ) → IsNext true us at (at + n) end → end < at + n → at + n ≤ upto → IsNext false us end upto k → end < k
next-behind us at n end upto k x l u y =
    let s = y.start in
    ⊎_elim (λ a. a) (λ a. let q : k ≡ end = omega arith in let t = x.here l in let f = subst (λ j. slice_get us j ≡ Some false) q (y.here (omega arith)) in absurd (cc)) (cases_lt end k)

-- ---- what is answered

pub run-found : (n at count : ℕ) (us : List Bool) → 1 ≤ n → length us ≡ count → n ≤ count - at → HasNoneBefore n us at → IsNext true us at (at + n) (at + n) → Some at ≡ run_of n us
run-found n at count us l e f h x =
    let s : (at + n) - at ≡ n = omega arith in
    sym (first-is n at us (omega arith) ((free_runs_are_free us at n).1 (λ k a b. x.before k a (omega arith))) h.none)

pub run-none : (n at count : ℕ) (us : List Bool) → 1 ≤ n → length us ≡ count → count - at < n → HasNoneBefore n us at → None ≡ run_of n us
run-none n at count us l e f h = sym (first-none n us (λ k a. ⊎_elim (λ b. h.none k b) (λ b. too_long us k n l (omega arith)) (cases_lt k at)))

-- a run that is found ends with the units
pub run-within : (n i count : ℕ) (us : List Bool) → 1 ≤ n → length us ≡ count → Some i ≡ run_of n us → i + n ≤ count
run-within n i count us l e q =
    let r = first_run_is_first (λ i. true) n 0 us i (sym q) in
    let s : i - 0 ≡ i = omega arith in
    let free : is_free_run us i n ≡ true = subst (λ k. is_free_run us k n ≡ true) s r.free in
    let w = slice_get_within us (i + n - 1) false ((free_runs_are_free us i n).0 free (i + n - 1) (omega arith) (omega arith)) in
    omega arith
