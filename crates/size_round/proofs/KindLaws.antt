-- A proper rounding gives enough, keeps the order, and stays within twice the limit.
use Rattle.std.proofs.Common.{◌≡◌, refl, ℕ, ◌^◌, ◌≤◌, true, arith}
use Rattle.std.proofs.lemmas.Bool.Decides.{nat_tests}
use Rattle.size_round.specs.Sizes.{limit, up, power_of_two, multiple_of, rounded, is_proper_kind}
use Rattle.size_round.specs.SizeMeanings.{RoundedIsEnough, RoundedIsMonotone, RoundedIsBounded}
use Rattle.size_round.proofs.UpLeast.{up_is_least, times_below}
use Rattle.size_round.proofs.PowerLaws.{rounded_is_least_power}

proper_step : (step : ℕ) → is_proper_kind (multiple_of step) ≡ true → (1 ≤ step) × (step ≤ 2 ^ 30)
proper_step step h = (grind (arith, nat_tests), grind (arith, nat_tests))

pub rounded_is_enough : RoundedIsEnough
unfolding rounded
rounded_is_enough power_of_two n h = (rounded_is_least_power n).enough
rounded_is_enough (multiple_of step) n h = (up_is_least n step (proper_step step h).0).enough

pub rounded_is_monotone : RoundedIsMonotone
unfolding rounded
rounded_is_monotone power_of_two m n h l =
    let r = rounded_is_least_power n in
    let e = r.enough in
    (rounded_is_least_power m).least (rounded power_of_two n) r.has (omega arith)
rounded_is_monotone (multiple_of step) m n h l =
    let r = up_is_least n step (proper_step step h).0 in
    let e = r.enough in
    (up_is_least m step (proper_step step h).0).least (up n step) r.has (omega arith)

pub rounded_is_bounded : RoundedIsBounded
unfolding rounded
rounded_is_bounded power_of_two n h l = let w = (rounded_is_least_power n).least limit (40, refl) l in omega arith
rounded_is_bounded (multiple_of step) n h l =
    let p = proper_step step h in
    let b = times_below n step p.0 in
    omega arith
