-- How the numbers of an open bitmap hang together.
use Rattle.std.specs.Prelude.{ℕ, ◌≡◌, ◌+◌, ◌≤◌, Option}
use Rattle.std.specs.Option.{ForSome}
use Rattle.size_round.specs.Sizes.{limit}
use Rattle.bitmap_rules.specs.BitmapRules.{bitmap_front, bitmap_chunk}
use Rattle.bitmapped_block.specs.declared.bits.BitRow.{BitRow}
use Rattle.bitmapped_block.specs.declared.bitmapped.Bitmap.{Bitmap}
use Rattle.bitmapped_block.specs.declared.places.Units.{Units}

-- the bits of an open bitmap, and its units
abbrev pub row_of : Bitmap → BitRow
row_of b = record { place = b.chunk.place; count = b.count }

abbrev pub held_units : (size : ℕ) → Bitmap → Units
held_units size b = record { size = size; base = b.base; row = row_of b }

-- the chunk has room for the bits and for the units, which begin behind the bits
pub record IsSized (unit : ℕ) (b : Bitmap) : Type 0 where
  pub len : b.chunk.len ≡ bitmap_chunk unit b.count
  pub start : b.base ≡ b.chunk.place + bitmap_front b.count
  pub most : b.chunk.len ≤ limit

-- so where it is open
abbrev pub AreSized : (unit : ℕ) → Option Bitmap → Type 0
AreSized unit o = ForSome o (λ b. IsSized unit b)
