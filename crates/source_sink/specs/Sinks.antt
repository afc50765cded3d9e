-- Sinks: what a call of one does to what it holds.
use Rattle.std.specs.Prelude.{◌≡◌, ℕ, List, ◌++◌, Option, Some, None}

-- These bytes were appended to what it held. A sink that doesn't tell goes on not telling.
abbrev pub Appends : (before now : Option (List ℕ)) (bytes : List ℕ) → Type 0
Appends (Some before) (Some now) bytes = now ≡ before ++ bytes
Appends None None bytes = Unit {0}
Appends (Some before) None bytes = ⊥
Appends None (Some now) bytes = ⊥

-- a sink in memory: its bytes, for how many more there is room, and how often it has failed
pub record Holding : Type 0 where
  pub bytes : List ℕ
  pub free : ℕ
  pub faults : ℕ

-- a sink in memory that fails in named calls: its bytes, for how many more there is room, how often it was
-- called, the numbers of the calls that fail, and how often it has failed
pub record Keeping : Type 0 where
  pub bytes : List ℕ
  pub free : ℕ
  pub calls : ℕ
  pub failing : List ℕ
  pub faults : ℕ
