-- Powers of two: the least that is enough, and the greatest that divides.
use Rattle.std.proofs.Common.{◌≡◌, refl, sym, ◌∙◌, ap, subst, ℕ, zero, suc, ◌+◌, ◌*◌, ◌/◌, ◌%◌, ◌^◌, ◌<◌, ◌≤◌, ◌⊎◌, ⊎_elim, inl, inr, Bool, true, false, nat_le, nat_eq, arith}
use Rattle.std.proofs.Math.Nat.{pow-le-pow_right, two-pow-succ, le_antisymm, mul-add}
use Rattle.std.proofs.lemmas.Nat.{pow_pos}
use Rattle.std.proofs.lemmas.Bool.{cases_lt}
use Rattle.std.proofs.lemmas.Bool.Decides.{nat_tests}
use Rattle.size_round.specs.Sizes.{power_of_two, rounded, power_from, power_part, is_power_of_two}
use Rattle.size_round.specs.SizeMeanings.{IsPower, IsGreatest, IsPowerIn, PowersPass, RoundedIsLeastPower, PartIsGreatest}

pub one_is_power : IsPower 1
one_is_power = (0, refl)

pub power_is_some : (p : ℕ) → IsPower p → 1 ≤ p
power_is_some p (k, e) = omega (arith, pow_pos k)

pub double_is_power : (p : ℕ) → IsPower p → IsPower (p + p)
double_is_power p (k, e) = (suc k, let t = two-pow-succ k in cc)

-- of two powers the greater is at least twice the less
pub next_power : (p q : ℕ) → IsPower p → IsPower q → p < q → p + p ≤ q
next_power p q (i, e) (j, f) h =
    let above : i < j = ⊎_elim (λ l. l) (λ l. let w : 2 ^ j ≤ 2 ^ i = pow-le-pow_right (omega arith) l in absurd (omega arith)) (cases_lt i j) in
    let w : 2 ^ suc i ≤ 2 ^ j = pow-le-pow_right (omega arith) (omega arith) in
    omega (arith, two-pow-succ i)

-- the least power that is at least n, among those from p on
record IsLeastPower (p n r : ℕ) : Type 0 where
  power : IsPower r
  enough : n ≤ r
  least : (q : ℕ) → IsPower q → n ≤ q → p ≤ q → r ≤ q

power_from-least : (d p n : ℕ) → IsPower p → n ≤ p + d → IsLeastPower p n (power_from d p n)
unfolding power_from
power_from-least zero p n e h = record { power = e; enough = omega arith; least = λ q f l m. m }
power_from-least (suc d) p n e h = go (λ f. power_from-least d (p + p) n (double_is_power p e) f) (nat_le n p) refl
  where
    go : (n ≤ (p + p) + d → IsLeastPower (p + p) n (power_from d (p + p) n)) → (b : Bool) → nat_le n p ≡ b → IsLeastPower p n (elim b [ true ↦ p | false ↦ power_from d (p + p) n ])
    go next true t = record { power = e; enough = grind (arith, nat_tests); least = λ q f l m. m }
    go next false t =
        let some = power_is_some p e in
        let below : p < n = grind (arith, nat_tests) in
        let r = next (omega arith) in
        record {
          power = r.power;
          enough = r.enough;
          least = λ q f l m. r.least q f l (next_power p q e f (omega arith));
        }

pub rounded_is_least_power : RoundedIsLeastPower
unfolding rounded
rounded_is_least_power n =
    let r = power_from-least n 1 n one_is_power (omega arith) in
    record { has = r.power; enough = r.enough; least = λ q f l. r.least q f l (power_is_some q f) }

pub powers_pass : PowersPass
powers_pass a = (
  pass_is_power,
  λ e.
      let some = power_is_some a e in
      let r = rounded_is_least_power a in
      let least = r.least a e (omega arith) in
      let enough = r.enough in
      let same : rounded power_of_two a ≡ a = le_antisymm least enough in
      grind (arith, nat_tests),
)
  where
    pass_is_power : is_power_of_two a ≡ true → IsPower a
    pass_is_power t =
        let some : 1 ≤ a = grind (arith, nat_tests) in
        let same : rounded power_of_two a ≡ a = grind (arith, nat_tests) in
        subst IsPower same (rounded_is_least_power a).has

-- a power in n is 1, or twice a power in the half of n
half_power : (n q : ℕ) → IsPowerIn n q → (q ≡ 1) ⊎ ((n % 2 ≡ 0) × (p : ℕ) × (q ≡ p + p) × IsPowerIn (n / 2) p)
half_power n q ((zero, e), m) = inl e
half_power n q ((suc j, e), (t, m)) =
    let twice = two-pow-succ j in
    let product : t * q ≡ t * 2 ^ j + t * 2 ^ j = ap (λ x. t * x) (e ∙ twice) ∙ mul-add t (2 ^ j) (2 ^ j) in
    inr (omega arith, 2 ^ j, e ∙ twice, ((j, refl), (t, omega arith)))

double_in : (n p : ℕ) → n % 2 ≡ 0 → IsPowerIn (n / 2) p → IsPowerIn n (2 * p)
double_in n p h (e, (t, m)) =
    let twice : 2 * p ≡ p + p = omega arith in
    let product : t * (p + p) ≡ t * p + t * p = mul-add t p p in
    (subst IsPower (sym twice) (double_is_power p e), (t, rw twice (omega arith)))

power_part-greatest : (h n : ℕ) → 1 ≤ n → n ≤ h → IsGreatest (IsPowerIn n) (power_part h n)
unfolding power_part
power_part-greatest zero n a b = absurd (omega arith)
power_part-greatest (suc h) n a b = go (λ c d. power_part-greatest h (n / 2) c d) (nat_eq (n % 2) 0) refl
  where
    go : (1 ≤ n / 2 → n / 2 ≤ h → IsGreatest (IsPowerIn (n / 2)) (power_part h (n / 2))) → (t : Bool) → nat_eq (n % 2) 0 ≡ t → IsGreatest (IsPowerIn n) (elim t [ true ↦ 2 * power_part h (n / 2) | false ↦ 1 ])
    go next true t =
        let even : n % 2 ≡ 0 = grind (arith, nat_tests) in
        let r = next (omega arith) (omega arith) in
        let some = power_is_some (power_part h (n / 2)) r.has.0 in
        record {
          has = double_in n (power_part h (n / 2)) even r.has;
          greatest = λ q i. ⊎_elim (λ e. omega arith) (λ w. let g = r.greatest w.1 w.3 in omega arith) (half_power n q i);
        }
    go next false t =
        let odd : n % 2 ≡ 0 → ⊥ = grind (arith, nat_tests) in
        record {
          has = (one_is_power, (n, omega arith));
          greatest = λ q i. ⊎_elim (λ e. omega arith) (λ w. absurd (odd w.0)) (half_power n q i);
        }

pub part_is_greatest : PartIsGreatest
part_is_greatest n h = power_part-greatest n n h (omega arith)
