-- The units whose bits stand in words of the Space, and what the calls on them do.
use Rattle.std.specs.Prelude.{ℕ, Bool, false, not, List, length, replicate, Some, get_or, slice_get, ◌≡◌, ◌+◌, ◌-◌, ◌*◌, ◌≤◌, ◌<◌}
use Rattle.size_round.specs.Sizes.{ceil_div}
use Rattle.space_core.specs.Memory.{Memory, IsMemory}
use Rattle.space_core.specs.Runs.{put_run}
use Rattle.layer_laws.specs.UnitMeanings.{AreAll}
use Rattle.bitmap_rules.specs.BitmapRules.{read_bits}
use Rattle.bitmap_rules.specs.BitmapMeanings.{IsBitmap}
use Rattle.bitmapped_block.specs.declared.bits.BitRow.{BitRow}

-- the units of the row
abbrev pub units_at : List ℕ → BitRow → List Bool
units_at bytes row = read_bits bytes row.place 0 row.count

-- the first place behind the words
abbrev pub words_end : BitRow → ℕ
words_end row = row.place + 8 * ceil_div row.count 64

-- all words stand in the Space
pub record HasWords (m : Memory) (row : BitRow) : Type 0 where
  pub memory : IsMemory m
  pub inside : words_end row ≤ length m.bytes

-- the words stand there, and the bits past the last unit are 0
pub record AreWhole (m : Memory) (row : BitRow) : Type 0 where
  pub there : HasWords m row
  pub bits : IsBitmap m.bytes row.place (units_at m.bytes row)

-- No unit from one number up to k is x. Unit k is, where it stands before the end of those that were asked for.
pub record IsNext (x : Bool) (units : List Bool) (from upto k : ℕ) : Type 0 where
  pub start : from ≤ k
  pub most : k ≤ upto
  pub before : AreAll (not x) units from (k - from)
  pub here : k < upto → slice_get units k ≡ Some x

-- no byte changes but those of the words
pub record KeepsOthers (row : BitRow) (old new : List ℕ) : Type 0 where
  pub size : length new ≡ length old
  pub below : (i : ℕ) → i < row.place → get_or new i 0 ≡ get_or old i 0
  pub above : (i : ℕ) → words_end row ≤ i → get_or new i 0 ≡ get_or old i 0

-- so many units from the first on are x, and the other units and bytes are as before
pub record IsPutRow (x : Bool) (row : BitRow) (first n : ℕ) (old new : Memory) : Type 0 where
  pub units : units_at new.bytes row ≡ put_run x first n (units_at old.bytes row)
  pub whole : AreWhole new row
  pub others : KeepsOthers row old.bytes new.bytes
  pub after : new ≡ record old { bytes = new.bytes }

-- all units are free, and the other bytes are as before
pub record IsClearedRow (row : BitRow) (old new : Memory) : Type 0 where
  pub units : units_at new.bytes row ≡ replicate row.count false
  pub whole : AreWhole new row
  pub others : KeepsOthers row old.bytes new.bytes
  pub after : new ≡ record old { bytes = new.bytes }
