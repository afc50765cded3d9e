-- BlockMeanings: how two blocks lie, byte by byte.
use Rattle.std.specs.Prelude.{◌≡◌, ℕ, ◌≤◌, ◌↔◌, true, false}
use Rattle.layer_rules.specs.declared.Block.{Block}
use Rattle.layer_rules.specs.Blocks.{has_place, lies_in, is_apart}

-- a block with a byte lies in another exactly where each of its bytes is one of the other's
abbrev pub LiesInByBytes : Type 0
LiesInByBytes = (b outer : Block) → 1 ≤ b.len → (lies_in b outer ≡ true) ↔ ((k : ℕ) → has_place b k ≡ true → has_place outer k ≡ true)

-- two blocks with bytes are apart exactly where no byte is in both
abbrev pub ApartByBytes : Type 0
ApartByBytes = (b c : Block) → 1 ≤ b.len → 1 ≤ c.len → (is_apart b c ≡ true) ↔ ((k : ℕ) → has_place b k ≡ true → has_place c k ≡ false)
