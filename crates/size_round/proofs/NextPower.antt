-- The next power of two, as the machine's words find it, is the least.
use Rattle.std.proofs.Common.{◌≡◌, refl, sym, subst, ℕ, ◌*◌, ◌/◌, ◌≤◌, ◌<◌, inl, inr, max, arith}
use Rattle.std.proofs.lemmas.Bool.{cases_lt}
use Rattle.size_round.specs.Sizes.{limit, power_of_two, rounded}
use Rattle.size_round.specs.SizeMeanings.{IsPower}
use Rattle.size_round.proofs.PowerLaws.{next_power, rounded_is_least_power}
use Rattle.size_round.proofs.KindLaws.{rounded_is_bounded}

pub next_is_least : (n p : ℕ) → 1 ≤ n → IsPower p → n ≤ p → p / 2 < max 1 n → p ≡ rounded power_of_two n
next_is_least n p s w l h =
    let r = rounded_is_least_power n in
    let e = r.enough in
    let k = r.least p w l in
    elim (cases_lt (rounded power_of_two n) p) [
      | inl x ↦ absurd (let y = next_power (rounded power_of_two n) p r.has w x in omega arith)
      | inr x ↦ omega arith
    ]

pub least_is_bounded : (n p : ℕ) → 1 ≤ n → n ≤ limit → IsPower p → n ≤ p → p / 2 < max 1 n → p ≤ 2 * limit
least_is_bounded n p s m w l h = subst (λ (q : ℕ). q ≤ 2 * limit) (sym (next_is_least n p s w l h)) (rounded_is_bounded power_of_two n refl m)
