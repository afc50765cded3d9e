-- Sizes: the greatest size that a layer serves, rounding up, and the two kinds of rounding.
use Rattle.std.specs.Prelude.{ℕ, zero, suc, ◌+◌, ◌-◌, ◌*◌, ◌/◌, ◌%◌, ◌^◌, Bool, true, false, ◌&&◌, nat_le, nat_eq}

-- the greatest length that a layer serves
abbrev pub limit : ℕ
limit = 2 ^ 40

-- n / m, rounded up
abbrev pub ceil_div : ℕ → ℕ → ℕ
ceil_div n m = (n + (m - 1)) / m

-- the least multiple of a that is at least n
abbrev pub up : ℕ → ℕ → ℕ
up n a = ceil_div n a * a

pub data RoundingKind : Type 0 where
  power_of_two : RoundingKind
  multiple_of : (step : ℕ) → RoundingKind

-- The first of p, 2 p, 4 p and so on that is at least n, in at most so many doublings. n of them are always enough.
unfoldable pub power_from : (doublings p n : ℕ) → ℕ
power_from zero p n = p
power_from (suc d) p n = elim (nat_le n p) [ true ↦ p | false ↦ power_from d (p + p) n ]

-- the size that a rounding gives for n
unfoldable pub rounded : RoundingKind → ℕ → ℕ
unfolding power_from
rounded power_of_two n = power_from n 1 n
rounded (multiple_of step) n = up n step

-- the greatest power of two that divides n, in at most so many halvings
unfoldable pub power_part : (halvings n : ℕ) → ℕ
power_part zero n = 1
power_part (suc h) n = elim (nat_eq (n % 2) 0) [ true ↦ 2 * power_part h (n / 2) | false ↦ 1 ]

-- ---- tests of sizes

-- low ≤ n ≤ high
abbrev pub is_between : (low high n : ℕ) → Bool
is_between low high n = nat_le low n && nat_le n high

abbrev pub is_multiple : (n of : ℕ) → Bool
is_multiple n of = nat_eq (n % of) 0

abbrev pub is_power_of_two : ℕ → Bool
is_power_of_two a = nat_le 1 a && nat_eq (rounded power_of_two a) a

-- the greatest size that a layer is made with, and the greatest step of a rounding
abbrev pub size_bound : ℕ
size_bound = 2 ^ 30

abbrev pub is_proper_kind : RoundingKind → Bool
is_proper_kind power_of_two = true
is_proper_kind (multiple_of step) = is_between 1 size_bound step
