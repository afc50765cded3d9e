-- Deallocating: what the forms share of how all blocks are taken back.
use Rattle.layer_rules.specs.After.{Opened, opened}
use Rattle.layer_rules.specs.State.{State, child, with_child}
use Rattle.space_core.specs.Cells.{Cells}
use Rattle.std.specs.Prelude.{ℕ}

abbrev pub emptied_child : State → ℕ → (State → Cells → Opened) → Cells → Opened
emptied_child s i deallocate_all cells = let r = deallocate_all (child s i) cells in opened (with_child s i r.state) r.cells

abbrev pub own_instead : (State → State) → Opened → Opened
own_instead f r = opened (f r.state) r.cells
