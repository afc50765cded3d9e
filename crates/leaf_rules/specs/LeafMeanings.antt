-- What a block that is out of a leaf is, and the laws of leaves.
use Rattle.std.specs.Prelude.{ℕ, ◌+◌, ◌%◌, ◌≡◌, ◌≤◌, ◌<◌, ◌↔◌, true, get_or}
use Rattle.space_core.specs.Cells.{Cells, cell_size, cell_at, cells_touched}
use Rattle.layer_rules.specs.declared.Block.{Block}
use Rattle.layer_rules.specs.State.{State, is_open}
use Rattle.leaf_rules.specs.MemRules.{mem_rules}
use Rattle.layer_laws.specs.Lawful.{IsRegular, IsLawful}

-- whole cells with its tag
pub record IsOutCells (tag : ℕ) (b : Block) (s : State) (cells : Cells) : Type 0 where
  pub is_set : is_open s ≡ true
  pub some : 1 ≤ b.len
  pub aligned : b.place % cell_size ≡ 0
  pub tagged : (c : ℕ) → cell_at b.place ≤ c → c < cell_at b.place + cells_touched b.place b.len → get_or cells.tags c 0 ≡ tag

-- A block is out of a leaf that a Space has made exactly where these facts hold of it.
abbrev pub OutOfLeaf : Type 0
OutOfLeaf = (tag : ℕ) (b : Block) (s : State) (cells : Cells) → 1 ≤ tag → ((mem_rules tag).is_out b s cells ≡ true) ↔ IsOutCells tag b s cells

-- each leaf is regular, and lawful where its tag is not that of free cells
abbrev pub MemIsRegular : Type 0
MemIsRegular = (tag : ℕ) → IsRegular (mem_rules tag)

abbrev pub MemIsLawful : Type 0
MemIsLawful = (tag : ℕ) → 1 ≤ tag → IsLawful (mem_rules tag)
