-- Bits of a word of 64: number i is worth 2 ^ i.
use Rattle.std.specs.Prelude.{ℕ, Bool, cond, not, ◌≡◌, ◌≤◌, ◌<◌}
use Rattle.std.specs.Int.{bit_at}

-- bit i of the word is x
abbrev pub IsBit : (x : Bool) (word i : ℕ) → Type 0
IsBit x word i = bit_at word i ≡ cond x 1 0

-- No bit from one number up to k is x. Bit k is, where it is one of the 64.
pub record IsLowest (x : Bool) (word from k : ℕ) : Type 0 where
  pub start : from ≤ k
  pub most : k ≤ 64
  pub before : (i : ℕ) → from ≤ i → i < k → IsBit (not x) word i
  pub here : k < 64 → IsBit x word k

-- the bits from one number up to another are x, and the others are those of the old word
pub record AreSet (x : Bool) (from upto old new : ℕ) : Type 0 where
  pub inside : (i : ℕ) → from ≤ i → i < upto → IsBit x new i
  pub below : (i : ℕ) → i < from → bit_at new i ≡ bit_at old i
  pub above : (i : ℕ) → upto ≤ i → i < 64 → bit_at new i ≡ bit_at old i
