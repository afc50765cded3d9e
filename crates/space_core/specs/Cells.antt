-- Cells: the table of a Space's cells of 64 bytes, with one tag each, where 0 is free.
use Rattle.std.specs.Prelude.{ℕ, ◌+◌, ◌-◌, ◌*◌, ◌/◌, ◌%◌, Bool, not, List, Option, Some, None, map, max, nat_eq, count_by, cond}
use Rattle.size_round.specs.Sizes.{ceil_div}
use Rattle.space_core.specs.Runs.{is_free_run, is_taken_run, first_run, put_run}

pub record Cells : Type 0 where
  pub tags : List ℕ

-- the bytes of a cell
abbrev pub cell_size : ℕ
cell_size = 64

-- the cells that have some tag, and those that have this one
abbrev pub taken_cells : Cells → List Bool
taken_cells cells = map (λ tag. not (nat_eq tag 0)) cells.tags

abbrev pub cells_with : ℕ → Cells → List Bool
cells_with tag cells = map (λ t. nat_eq t tag) cells.tags

-- how many cells have the tag
abbrev pub used_by : ℕ → Cells → ℕ
used_by tag cells = count_by (λ t. nat_eq t tag) cells.tags

-- the table in which n cells from number i on have the tag
abbrev pub tag_cells : (tag i n : ℕ) → Cells → Cells
tag_cells tag i n cells = record cells { tags = put_run tag i n cells.tags }

-- the table in which no cell has the tag
abbrev pub free_tag : ℕ → Cells → Cells
free_tag tag cells = record cells { tags = map (λ t. cond (nat_eq t tag) 0 t) cells.tags }

-- the cell i begins at a multiple of a, or of 64 where that is more
abbrev pub is_aligned_cell : (a i : ℕ) → Bool
is_aligned_cell a i = nat_eq ((cell_size * i) % max a cell_size) 0

-- the number of the first of the least run of free cells for n bytes, at a multiple of a, or of 64 where that is more
abbrev pub least_cells : (n a : ℕ) → Cells → Option ℕ
least_cells n a cells = first_run (λ i. is_aligned_cell a i) (ceil_div n cell_size) 0 (taken_cells cells)

-- the table after the least run was looked for: tagged where there is one
abbrev pub cells_granted : (tag n : ℕ) → Option ℕ → Cells → Cells
cells_granted tag n None cells = cells
cells_granted tag n (Some i) cells = tag_cells tag i (ceil_div n cell_size) cells

-- the cell of a place, and how many cells the n bytes from the place on touch
abbrev pub cell_at : (place : ℕ) → ℕ
cell_at place = place / cell_size

abbrev pub cells_touched : (place n : ℕ) → ℕ
cells_touched place n = ceil_div (place + n) cell_size - cell_at place

-- each cell that these bytes touch is there and has the tag
abbrev pub has_tag : (tag place n : ℕ) → Cells → Bool
has_tag tag place n cells = is_taken_run (cells_with tag cells) (cell_at place) (cells_touched place n)

-- the table in which these cells are free
abbrev pub cells_given : (place n : ℕ) → Cells → Cells
cells_given place n cells = tag_cells 0 (cell_at place) (cells_touched place n) cells

-- the first cell behind those that n bytes touch, and how many more cells are touched by m more bytes
abbrev pub cell_behind : (place n : ℕ) → ℕ
cell_behind place n = cell_at place + cells_touched place n

abbrev pub more_cells : (place n m : ℕ) → ℕ
more_cells place n m = cells_touched place (n + m) - cells_touched place n

-- these further cells are there and free
abbrev pub has_room_behind : (place n m : ℕ) → Cells → Bool
has_room_behind place n m cells = is_free_run (taken_cells cells) (cell_behind place n) (more_cells place n m)

-- the table after they were asked for: tagged where they are there and free
abbrev pub cells_grown : (tag place n m : ℕ) → Cells → Cells
cells_grown tag place n m cells =
    cond (has_room_behind place n m cells) (tag_cells tag (cell_behind place n) (more_cells place n m) cells) cells
