-- How many units are free, and how many the longest run of them has, counted run by run.
use Rattle.std.proofs.Common.{◌≡◌, refl, sym, ◌∙◌, ap, subst, ℕ, zero, suc, ◌+◌, ◌-◌, ◌≤◌, ◌<◌, ◌⊎◌, inl, inr, ⊎_elim, Bool, true, false, List, [], ◌∷◌, length, drop, slice_get, Some, max, arith, length-drop}
use Rattle.std.proofs.lemmas.Bool.{cases_lt}
use Rattle.std.proofs.lemmas.List.{drop-drop}
use Rattle.space_core.specs.Runs.{free_count}
use Rattle.layer_rules.specs.UnitRows.{longest_run}
use Rattle.bitmapped_block.specs.UnitBits.{IsNext}

get-drop : (i k : ℕ) (us : List Bool) → slice_get (drop i us) k ≡ slice_get us (i + k)
get-drop zero k us = let e : k ≡ 0 + k = omega arith in ap (slice_get us) e
get-drop (suc i) k [] = refl
get-drop (suc i) k (u ∷ us) = let e : suc i + k ≡ suc (i + k) = omega arith in get-drop i k us ∙ ap (slice_get (u ∷ us)) (sym e)

-- ---- the units at the front

taken-count : (n : ℕ) (us : List Bool) → ((k : ℕ) → k < n → slice_get us k ≡ Some true) → free_count us ≡ free_count (drop n us)
unfolding free_count
taken-count zero us h = refl
taken-count (suc n) [] h = refl
taken-count (suc n) (true ∷ us) h = taken-count n us (λ k l. h (suc k) (omega arith))
taken-count (suc n) (false ∷ us) h = let e = h 0 (omega arith) in absurd (cc)

taken-longest : (n : ℕ) (us : List Bool) → ((k : ℕ) → k < n → slice_get us k ≡ Some true) → longest_run 0 us ≡ longest_run 0 (drop n us)
unfolding longest_run
taken-longest zero us h = refl
taken-longest (suc n) [] h = refl
taken-longest (suc n) (true ∷ us) h = let r = taken-longest n us (λ k l. h (suc k) (omega arith)) in omega (arith, r)
taken-longest (suc n) (false ∷ us) h = let e = h 0 (omega arith) in absurd (cc)

free-count : (n : ℕ) (us : List Bool) → ((k : ℕ) → k < n → slice_get us k ≡ Some false) → free_count us ≡ n + free_count (drop n us)
unfolding free_count
free-count zero us h = omega arith
free-count (suc n) [] h = let e = h 0 (omega arith) in absurd (cc)
free-count (suc n) (true ∷ us) h = let e = h 0 (omega arith) in absurd (cc)
free-count (suc n) (false ∷ us) h = let r = free-count n us (λ k l. h (suc k) (omega arith)) in omega (arith, r)

free-longest : (n run : ℕ) (us : List Bool) → ((k : ℕ) → k < n → slice_get us k ≡ Some false) → longest_run run us ≡ longest_run (run + n) (drop n us)
unfolding longest_run
free-longest zero run us h = let e : run ≡ run + 0 = omega arith in ap (λ r. longest_run r us) e
free-longest (suc n) run [] h = let e = h 0 (omega arith) in absurd (cc)
free-longest (suc n) run (true ∷ us) h = let e = h 0 (omega arith) in absurd (cc)
free-longest (suc n) run (false ∷ us) h = let e : suc run + n ≡ run + suc n = omega arith in free-longest n (suc run) us (λ k l. h (suc k) (omega arith)) ∙ ap (λ r. longest_run r (drop n us)) e

-- a run that ends here
ended : (run : ℕ) (us : List Bool) → (0 < length us → slice_get us 0 ≡ Some true) → longest_run run us ≡ max run (longest_run 0 us)
unfolding longest_run
ended run [] h = omega arith
ended run (true ∷ us) h = omega arith
ended run (false ∷ us) h = let e = h (omega arith) in absurd (cc)

-- ---- what is counted so far

-- all free units before a unit, and the longest run of them, are counted
pub record IsCounted (us : List Bool) (at count longest : ℕ) : Type 0 where
  pub within : at ≤ length us
  pub few : count ≤ at
  pub sum : count + free_count (drop at us) ≡ free_count us
  pub most : max longest (longest_run 0 (drop at us)) ≡ longest_run 0 us

pub none-counted : (us : List Bool) → IsCounted us 0 0 0
none-counted us = record { within = omega arith; few = omega arith; sum = omega arith; most = omega arith }

pub run-counted : (us : List Bool) (at first end upto count longest : ℕ) → length us ≡ upto → IsCounted us at count longest → IsNext false us at upto first → IsNext true us first upto end → IsCounted us end (count + (end - first)) (max longest (end - first))
run-counted us at first end upto count longest e h x y =
    let s = x.start in
    let t = y.start in
    let most = y.most in
    let few = h.few in
    let a : at + (first - at) ≡ first = omega arith in
    let b : first + (end - first) ≡ end = omega arith in
    let to_first : drop (first - at) (drop at us) ≡ drop first us = drop-drop (first - at) at us ∙ ap (λ n. drop n us) a in
    let to_end : drop (end - first) (drop first us) ≡ drop end us = drop-drop (end - first) first us ∙ ap (λ n. drop n us) b in
    let taken = λ (k : ℕ) (l : k < first - at). get-drop at k us ∙ x.before (at + k) (omega arith) (omega arith) in
    let free = λ (k : ℕ) (l : k < end - first). get-drop first k us ∙ y.before (first + k) (omega arith) (omega arith) in
    let c = taken-count (first - at) (drop at us) taken ∙ ap free_count to_first in
    let d = free-count (end - first) (drop first us) free ∙ ap (λ vs. (end - first) + free_count vs) to_end in
    let l = taken-longest (first - at) (drop at us) taken ∙ ap (longest_run 0) to_first in
    let none : 0 + (end - first) ≡ end - first = omega arith in
    let m = free-longest (end - first) 0 (drop first us) free ∙ ap (λ vs. longest_run (0 + (end - first)) vs) to_end ∙ ap (λ r. longest_run r (drop end us)) none in
    let last = ended (end - first) (drop end us) (λ z. let w : end + 0 ≡ end = omega arith in get-drop end 0 us ∙ ap (slice_get us) w ∙ y.here (omega (arith, length-drop end us))) in
    let cs = h.sum in
    let ls = h.most in
    record { within = omega arith; few = omega arith; sum = omega (arith, c, d, cs); most = omega (arith, l, m, last, ls) }

pub all-counted : (us : List Bool) (at upto count longest : ℕ) → length us ≡ upto → IsCounted us at count longest → upto ≤ at → (count ≡ free_count us) × (longest ≡ longest_run 0 us)
unfolding free_count longest_run
all-counted us at upto count longest e h l =
    let none : drop at us ≡ [] = nothing (drop at us) (let w = h.within in omega (arith, length-drop at us)) in
    let c = h.sum in
    let m = h.most in
    (omega (arith, ap free_count none, c), omega (arith, ap (longest_run 0) none, m))
  where
    nothing : (vs : List Bool) → length vs ≡ 0 → vs ≡ []
    nothing [] q = refl
    nothing (v ∷ vs) q = absurd (omega arith)
