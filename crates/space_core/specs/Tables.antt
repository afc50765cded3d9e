-- Tables: the table of tags with the tree of its free cells.
use Rattle.std.specs.Prelude.{ℕ, ◌≡◌, ◌≤◌, Bool, List, length}
use Rattle.space_core.specs.Cells.{taken_cells}
use Rattle.space_core.specs.Memory.{most_cells}

-- a row that says which cells of a table are taken
pub record IsTable (tags : List ℕ) (row : List Bool) : Type 0 where
  pub most : length tags ≤ most_cells
  pub taken : row ≡ taken_cells (record { tags = tags })
