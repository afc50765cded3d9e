-- Memory: what contracts see of a Space: its bytes, its table of cells, and how many leaves it has made.
use Rattle.std.specs.Prelude.{ℕ, ◌≡◌, ◌*◌, ◌≤◌, List, [], length, replicate}
use Rattle.space_core.specs.Cells.{Cells, cell_size}

pub record Memory : Type 0 where
  pub bytes : List ℕ
  pub cells : Cells
  pub leaves : ℕ

-- the bounds of every Space
abbrev pub most_cells : ℕ
most_cells = 262144

abbrev pub most_leaves : ℕ
most_leaves = 4096

-- a memory that a Space can have: 64 bytes a cell, at most 262,144 cells, at most 4,096 leaves
pub record IsMemory (m : Memory) : Type 0 where
  pub sizes : length m.bytes ≡ cell_size * length m.cells.tags
  pub cells : length m.cells.tags ≤ most_cells
  pub leaves : m.leaves ≤ most_leaves

-- a Space without cells
abbrev pub no_memory : (leaves : ℕ) → Memory
no_memory leaves = record { bytes = []; cells = record { tags = [] }; leaves = leaves }

-- so many cells, all free, all bytes 0
abbrev pub fresh_memory : (cells leaves : ℕ) → Memory
fresh_memory cells leaves = record {
  bytes = replicate (cell_size * cells) 0;
  cells = record { tags = replicate cells 0 };
  leaves = leaves;
}
