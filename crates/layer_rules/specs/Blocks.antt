-- Blocks: a place and a length. A set of bytes is a test of a place.
use Rattle.layer_rules.specs.declared.Block.{Block}
use Rattle.std.specs.Prelude.{Bool, nat_le, nat_lt, ℕ, ◌&&◌, ◌+◌, ◌||◌}

abbrev pub block : (place len : ℕ) → Block
block place len = record { place = place; len = len }

-- where nothing is known of a block
abbrev pub no_block : Block
no_block = block 0 0

-- the same place with another length
abbrev pub with_len : Block → ℕ → Block
with_len b n = block b.place n

-- the first place behind the block
abbrev pub end_of : Block → ℕ
end_of b = b.place + b.len

-- the block's bytes
abbrev pub has_place : Block → ℕ → Bool
has_place b k = nat_le b.place k && nat_lt k (end_of b)

-- each byte of b is one of the outer block
abbrev pub lies_in : (b outer : Block) → Bool
lies_in b outer = nat_le outer.place b.place && nat_le (end_of b) (end_of outer)

-- no byte is in both
abbrev pub is_apart : (b c : Block) → Bool
is_apart b c = nat_le (end_of b) c.place || nat_le (end_of c) b.place
