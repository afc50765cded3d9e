-- Short rows: no longer than they may be.
use Rattle.std.specs.Prelude.{ℕ, ◌≤◌, List, length}

pub record IsShort {T : Type 0} (most : ℕ) (items : List T) : Type 0 where
  pub short : length items ≤ most
