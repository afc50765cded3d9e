-- Units: which units of a row a block touches, where units of one size stand side by side from a base on.
use Rattle.layer_rules.specs.Blocks.{block, end_of}
use Rattle.layer_rules.specs.declared.Block.{Block}
use Rattle.size_round.specs.Sizes.{ceil_div}
use Rattle.std.specs.Prelude.{ℕ, ◌*◌, ◌+◌, ◌-◌, ◌/◌}

-- the number of the first unit that the block touches
abbrev pub first_unit : (size base : ℕ) → Block → ℕ
first_unit size base b = (b.place - base) / size

-- how many units it touches
abbrev pub unit_count : (size base : ℕ) → Block → ℕ
unit_count size base b = ceil_div (end_of b - base) size - first_unit size base b

-- the whole units around a block, as one block
abbrev pub touched_block : (size base : ℕ) → Block → Block
touched_block size base b = block (base + size * first_unit size base b) (size * unit_count size base b)
