-- The first place that passes a test, among places that lie one step apart.
use Rattle.std.proofs.Common.{◌≡◌, refl, sym, ◌∙◌, ℕ, zero, suc, ◌+◌, ◌*◌, ◌≤◌, Bool, true, false, Option, Some, None, arith}
use Rattle.space_core.specs.Runs.{first_place}
use Rattle.layer_laws.specs.UnitMeanings.{IsFirstPlace, FirstPlaceIsFirst, NoFirstPlace}

no_steps : (p step : ℕ) → p + 0 * step ≡ p
no_steps p step = omega arith

one_step : (p step j : ℕ) → p + suc j * step ≡ p + step + j * step
one_step p step j = grind arith

-- what fails at p, and at each step behind it, fails from p on
fails_from : (test : ℕ → Bool) (step p j : ℕ) → test p ≡ false → ((i : ℕ) → suc i ≡ j → test (p + step + i * step) ≡ false) → test (p + j * step) ≡ false
fails_from test step p zero t rest = rw (no_steps p step) t
fails_from test step p (suc j) t rest = rw (one_step p step j) (rest j refl)

pub first_place_is_first : FirstPlaceIsFirst
unfolding first_place
first_place_is_first test step zero p q h = here (test p) refl h
  where
    here : (b : Bool) → test p ≡ b → ◌≡◌ {A = Option ℕ} (elim b [ true ↦ Some p | false ↦ None ]) (Some q) → IsFirstPlace test step zero p q
    here true t h = let s : p ≡ q = cc in record { times = 0; few = omega arith; at = omega arith; passes = rw (← s) t; before = λ j l. absurd (omega arith) }
    here false t h = cc
first_place_is_first test step (suc n) p q h = here (first_place_is_first test step n (p + step) q) (test p) refl h
  where
    here : (first_place test step n (p + step) ≡ Some q → IsFirstPlace test step n (p + step) q) → (b : Bool) → test p ≡ b → ◌≡◌ {A = Option ℕ} (elim b [ true ↦ Some p | false ↦ first_place test step n (p + step) ]) (Some q) → IsFirstPlace test step (suc n) p q
    here rest true t h = let s : p ≡ q = cc in record { times = 0; few = omega arith; at = omega arith; passes = rw (← s) t; before = λ j l. absurd (omega arith) }
    here rest false t h =
        let r = rest h in
        record { times = suc r.times; few = omega (arith, r.few); at = r.at ∙ sym (one_step p step r.times); passes = r.passes; before = λ j l. fails_from test step p j t (λ i e. r.before i (omega arith)) }

pub no_first_place : NoFirstPlace
unfolding first_place
no_first_place test step zero p h j l = let z : j ≡ 0 = omega arith in rw (z, no_steps p step) (here (test p) refl h)
  where
    here : (b : Bool) → test p ≡ b → ◌≡◌ {A = Option ℕ} (elim b [ true ↦ Some p | false ↦ None ]) None → test p ≡ false
    here true t h = cc
    here false t h = t
no_first_place test step (suc n) p h j l = here (λ e i k. no_first_place test step n (p + step) e i k) (test p) refl h
  where
    here : (first_place test step n (p + step) ≡ None → (i : ℕ) → i ≤ n → test (p + step + i * step) ≡ false) → (b : Bool) → test p ≡ b → ◌≡◌ {A = Option ℕ} (elim b [ true ↦ Some p | false ↦ first_place test step n (p + step) ]) None → test (p + j * step) ≡ false
    here rest true t h = cc
    here rest false t h = fails_from test step p j t (λ i e. rest h i (omega arith))
