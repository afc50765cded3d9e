-- The units that a block touches, and the least free place.
use Rattle.std.proofs.Common.{◌≡◌, sym, ◌∙◌, ap, subst, ℕ, suc, ◌+◌, ◌-◌, ◌*◌, ◌/◌, ◌<◌, ◌≤◌, Bool, true, false, List, length, slice_get, arith}
use Rattle.std.proofs.Math.Nat.{mul-le-mul_right, add-mul, lt_of_mul-lt-mul_right}
use Rattle.std.proofs.lemmas.Nat.{div-add-mod', mod_below, le-div}
use Rattle.std.proofs.lemmas.Bool.{false_from_ne_true}
use Rattle.std.proofs.lemmas.Bool.Decides.{nat_tests}
use Rattle.size_round.specs.Sizes.{ceil_div, up}
use Rattle.size_round.specs.SizeMeanings.{IsMultiple}
use Rattle.size_round.proofs.UpLeast.{ceil_div-least, up_is_least}
use Rattle.layer_rules.specs.Blocks.{block, end_of}
use Rattle.layer_rules.specs.Units.{first_unit, unit_count}
use Rattle.layer_rules.specs.State.{base_of, units_of}
use Rattle.layer_laws.proofs.FirstRuns.{free_runs_are_free, run_within}
use Rattle.layer_laws.proofs.FirstPlaces.{first_place_is_first, no_first_place}
use Rattle.bitmap_rules.specs.BitmapRules.{units_free}
use Rattle.bitmap_rules.specs.BitmapMeanings.{UnitsFreeByBytes, FreePlaceIsLeast, NoFreePlace, BitmapPlaceIsLeast, NoBitmapPlace}
use Rattle.layer_laws.proofs.CellBytes.{unit_below, units_in_order, byte_of_unit}

-- ---- units by bytes

pub units_free_by_bytes : UnitsFreeByBytes
units_free_by_bytes unit base us b h l m =
    let x = b.place - base in
    let e = end_of b - base in
    let r = free_runs_are_free us (first_unit unit base b) (unit_count unit base b) in
    let below = unit_below x e unit h (omega arith) in (
      λ f k g.
          let low : b.place ≤ k = grind (arith, nat_tests) in
          let high : k < end_of b = grind (arith, nat_tests) in
          let from = units_in_order x (k - base) unit h (omega arith) in
          let to = unit_below (k - base) e unit h (omega arith) in
          r.0 f ((k - base) / unit) from (omega arith),
      λ f. r.1 (λ u from to.
          let w = byte_of_unit x e unit u h (omega arith) from (omega arith) in
          let back : (base + w.0) - base ≡ w.0 = omega arith in
          let low : b.place ≤ base + w.0 = omega (arith, w.1) in
          let high : base + w.0 < end_of b = omega (arith, w.2) in
          let g = f (base + w.0) (grind (arith, nat_tests)) in
          ap (λ q. slice_get us q) (sym (ap (λ q. q / unit) back ∙ w.3)) ∙ g),
    )

-- ---- the least free place

-- a multiple at or above the base lies so many steps above the first
record IsStepAbove (a base q : ℕ) : Type 0 where
  steps : ℕ
  at : q ≡ up base a + steps * a

step_above : (a base q : ℕ) → 1 ≤ a → IsMultiple q a → base ≤ q → IsStepAbove a base q
step_above a base q h (t, e) l =
    let c = ceil_div-least base a t h (omega arith) in
    let sum : t ≡ ceil_div base a + (t - ceil_div base a) = omega arith in
    record { steps = t - ceil_div base a; at = e ∙ ap (λ x. x * a) sum ∙ add-mul (ceil_div base a) (t - ceil_div base a) a }

-- behind the last unit no place is free
free_within : (unit n base : ℕ) (us : List Bool) (q : ℕ) → 1 ≤ unit → 1 ≤ n → base ≤ q → units_free unit base us (block q n) ≡ true → (q - base) / unit < length us
free_within unit n base us q h l m f =
    let below = unit_below (q - base) (q + n - base) unit h (omega arith) in
    run_within us ((q - base) / unit) (unit_count unit base (block q n)) (omega arith) f

steps_within : (unit n a base : ℕ) (us : List Bool) (j : ℕ) → 1 ≤ unit → 1 ≤ n → 1 ≤ a → units_free unit base us (block (up base a + j * a) n) ≡ true → j ≤ unit * length us / a
steps_within unit n a base us j h l m f =
    let u = (up_is_least base a m).enough in
    let q = up base a + j * a in
    let w = free_within unit n base us q h l (omega arith) f in
    let next : suc ((q - base) / unit) * unit ≡ (q - base) / unit * unit + unit = grind arith in
    let top : suc ((q - base) / unit) * unit ≤ length us * unit = mul-le-mul_right unit w in
    let turned : length us * unit ≡ unit * length us = grind arith in
    le-div j (unit * length us) a (omega arith) (omega (arith, div-add-mod' (q - base) unit, mod_below (q - base) unit (omega arith)))

pub free_place_is_least : FreePlaceIsLeast
free_place_is_least unit n a base us p m e =
    let test = λ (x : ℕ). units_free unit base us (block x n) in
    let r = first_place_is_first test a (unit * length us / a) (up base a) p e in
    let enough = (up_is_least base a m).enough in
    let at = r.at in
    record {
      aligned = (ceil_div base a + r.times, r.at ∙ sym (add-mul (ceil_div base a) r.times a));
      above = omega arith;
      free = r.passes;
      least = λ q i b c.
          let s = step_above a base q m i b in
          let e = s.at in
          let fewer : s.steps < r.times = lt_of_mul-lt-mul_right a (omega arith) in
          subst (λ x. test x ≡ false) (sym s.at) (r.before s.steps fewer);
    }

pub no_free_place : NoFreePlace
no_free_place unit n a base us h l m e q i b =
    let test = λ (x : ℕ). units_free unit base us (block x n) in
    let s = step_above a base q m i b in
    subst (λ x. test x ≡ false) (sym s.at) (false_from_ne_true (test (up base a + s.steps * a)) (λ t.
    let f = no_first_place test a (unit * length us / a) (up base a) e s.steps (steps_within unit n a base us s.steps h l m t) in
    cc))

pub bitmap_place_is_least : BitmapPlaceIsLeast
bitmap_place_is_least unit n a s p m e = free_place_is_least unit n a (base_of s) (units_of s) p m e

pub no_bitmap_place : NoBitmapPlace
no_bitmap_place unit n a s h l m e = no_free_place unit n a (base_of s) (units_of s) h l m e
