-- Good sizes that a layer gives for lengths that are served.
use Rattle.std.proofs.Common.{◌≡◌, refl, ℕ, ◌≤◌, ◌<◌, Bool, true, false, arith}
use Rattle.std.proofs.lemmas.Bool.Decides.{nat_tests}
use Rattle.size_round.specs.Sizes.{limit}
use Rattle.size_round.specs.SizeMeanings.{IsPower}
use Rattle.size_round.proofs.PowerLaws.{power_is_some}
use Rattle.layer_rules.specs.Offering.{is_served_size, if_served, full_alignment}
use Rattle.layer_laws.specs.Lawful.{IsAlignment}

-- they are enough
pub served-enough : (g : ℕ → ℕ) (n : ℕ) → n ≤ g n → n ≤ if_served g n
served-enough g n h = go (is_served_size n)
  where
    go : (b : Bool) → n ≤ elim b [ true ↦ g n | false ↦ n ]
    go true = h
    go false = omega arith

unserved : (g : ℕ → ℕ) (n : ℕ) → is_served_size n ≡ false → if_served g n ≡ n
unserved g n h = go (is_served_size n) h
  where
    go : (b : Bool) → b ≡ false → (elim b [ true ↦ g n | false ↦ n ]) ≡ n
    go true e = cc
    go false e = refl

above : (n : ℕ) → limit < n → is_served_size n ≡ false
above n h = grind (arith, nat_tests)

-- what no layer serves is left as it is
pub unserved-zero : (g : ℕ → ℕ) → if_served g 0 ≡ 0
unserved-zero g = unserved g 0 refl

pub unserved-above : (g : ℕ → ℕ) (n : ℕ) → limit < n → if_served g n ≡ n
unserved-above g n h = unserved g n (above n h)

-- a power of two that is not too great
pub power-alignment : (a : ℕ) → IsPower a → a ≤ full_alignment → IsAlignment a
power-alignment a p h = record { power = p; some = power_is_some a p; most = h }
