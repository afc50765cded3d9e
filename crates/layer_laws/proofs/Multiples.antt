-- Multiples: sums and differences of them, and what the lesser and the greater of two powers divide.
use Rattle.std.proofs.Common.{◌≡◌, refl, sym, ap₂, ◌∙◌, ℕ, ◌+◌, ◌-◌, ◌≤◌, ◌⊎◌, inl, inr, arith, min, max}
use Rattle.std.proofs.Math.Nat.{add-mul, mul_comm, mul-sub}
use Rattle.std.proofs.lemmas.Bool.{cases_lt}
use Rattle.size_round.specs.SizeMeanings.{IsMultiple, IsPower}
use Rattle.layer_laws.proofs.CellRooms.{power_in_power}

pub multiple-sum : (m n a : ℕ) → IsMultiple m a → IsMultiple n a → IsMultiple (m + n) a
multiple-sum m n a (k, e) (l, f) = (k + l, rw (e, f, add-mul) refl)

pub multiple-difference : (m n a : ℕ) → IsMultiple m a → IsMultiple n a → IsMultiple (m - n) a
multiple-difference m n a (k, e) (l, f) = (k - l, ap₂ (λ x y. x - y) (e ∙ mul_comm k a) (f ∙ mul_comm l a) ∙ sym (mul-sub a k l) ∙ mul_comm a (k - l))

pub multiple-itself : (a : ℕ) → IsMultiple a a
multiple-itself a = (1, omega arith)

pub min-is : (a b : ℕ) → (min a b ≡ a) × (a ≤ b) ⊎ (min a b ≡ b) × (b ≤ a)
min-is a b = elim (cases_lt a b) [ inl l ↦ inl (omega arith, omega arith) | inr l ↦ inr (omega arith, l) ]

-- the lesser of two powers divides both
pub min-divides : (a b : ℕ) → IsPower a → IsPower b → IsMultiple a (min a b) × IsMultiple b (min a b)
min-divides a b p q =
    elim (min-is a b) [
      | inl e ↦ (rw e.0 (multiple-itself a), rw e.0 (power_in_power a b p q e.1))
      | inr e ↦ (rw e.0 (power_in_power b a q p e.1), rw e.0 (multiple-itself b))
    ]

-- both divide the greater
pub divide-max : (a b : ℕ) → IsPower a → IsPower b → IsMultiple (max a b) a × IsMultiple (max a b) b
divide-max a b p q =
    elim (cases_lt a b) [
      | inl l ↦ let m : max a b ≡ b = omega arith in (rw m (power_in_power a b p q (omega arith)), rw m (multiple-itself b))
      | inr l ↦ let m : max a b ≡ a = omega arith in (rw m (multiple-itself a), rw m (power_in_power b a q p l))
    ]
