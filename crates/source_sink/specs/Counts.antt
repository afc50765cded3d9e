-- Counts: how often a device has failed. A count stops at the greatest number of 64 bits.
use Rattle.std.specs.Prelude.{ℕ, ◌+◌, ◌-◌, ◌^◌, ◌≤◌, min}

-- the greatest count, which no fault raises
abbrev pub most_faults : ℕ
most_faults = 2 ^ 64 - 1

-- one more, up to the greatest count
abbrev pub one_more : (count : ℕ) → ℕ
one_more count = min (count + 1) most_faults

-- A count rose where it is greater than before, or stands at its greatest.
abbrev pub Rose : (before now : ℕ) → Type 0
Rose before now = one_more before ≤ now
