-- BitmapMeanings: what is asked of a bitmap's numbers, what its laws say, and what its places are, in words.
use Rattle.std.specs.Prelude.{◌≡◌, ℕ, ◌%◌, ◌*◌, ◌+◌, ◌-◌, ◌/◌, ◌<◌, ◌^◌, ◌≤◌, ◌↔◌, Bool, true, false, List, Some, None, drop, length, slice_get, take}
use Rattle.size_round.specs.SizeMeanings.{IsMultiple}
use Rattle.space_core.specs.Cells.{Cells}
use Rattle.space_core.specs.Runs.{is_taken_run}
use Rattle.space_core.specs.Words.{IsWordAt}
use Rattle.layer_rules.specs.declared.Block.{Block}
use Rattle.layer_rules.specs.Blocks.{block, has_place, lies_in}
use Rattle.layer_rules.specs.Fields.{Fields, child_fields}
use Rattle.layer_rules.specs.Rules.{Rules, IsSettled, HasSomeTags}
use Rattle.layer_rules.specs.State.{State, base_of, bitmap_own, child, chunk_of, is_open, one_child, open_with, units_of}
use Rattle.layer_rules.specs.Units.{first_unit, unit_count}
use Rattle.layer_laws.specs.ChunkLaws.{HasChunk}
use Rattle.layer_laws.specs.Lawful.{IsRegular, IsLawful}
use Rattle.bitmap_rules.specs.BitmapRules.{bitmap_chunk, bitmap_front, bits_number, bitmap_place_at, bitmap_rules, free_place, units_block, units_free}
use Rattle.std.proofs.Common.{ℕ}

-- what a bitmap asks of its numbers and of its parent
pub record IsBitmapSize (unit count : ℕ) (e : Rules) : Type 0 where
  pub unit_least : 16 ≤ unit
  pub unit_most : unit ≤ 2 ^ 20
  pub whole : unit % 16 ≡ 0
  pub count_least : 1 ≤ count
  pub count_most : count ≤ 2 ^ 20
  pub aligned : 16 ≤ e.alignment

-- over a regular parent it is regular
abbrev pub BitmapIsRegular : Type 0
BitmapIsRegular = (unit count : ℕ) (e : Rules) → IsBitmapSize unit count e → IsRegular e → IsRegular (bitmap_rules unit count e)

-- over a parent that is regular and lawful, whose leaves have tags
abbrev pub BitmapIsLawful : Type 0
BitmapIsLawful = (unit count : ℕ) (e : Rules) → IsBitmapSize unit count e → HasSomeTags e → IsRegular e → IsLawful e → IsLawful (bitmap_rules unit count e)

-- ---- between calls

-- as many units as the length gives room for, and at least as many as the layer was made for
pub record IsBitmapOf (unit count : ℕ) (chunk : Block) (base : ℕ) (units : List Bool) : Type 0 where
  pub least : count ≤ length units
  pub len : chunk.len ≡ bitmap_chunk unit (length units)
  pub start : base ≡ chunk.place + bitmap_front (length units)

-- what an open bitmap is between calls
pub record BitmapParts (unit count : ℕ) (e : Rules) (s : State) (cells : Cells) : Type 0 where
  pub form : s ≡ open_with (bitmap_own (chunk_of s) (base_of s) (units_of s)) (one_child (child s 0))
  pub parent : is_open (child s 0) ≡ true
  pub bitmap : IsBitmapOf unit count (chunk_of s) (base_of s) (units_of s)
  pub chunk : HasChunk e (chunk_of s) (child s 0) cells
  pub below : IsSettled e (child s 0) cells

-- an open bitmap is sound exactly where these facts hold of it
abbrev pub OpenBitmapIsSound : Type 0
OpenBitmapIsSound = (unit count : ℕ) (e : Rules) (s : State) (cells : Cells) → is_open s ≡ true → IsSettled (bitmap_rules unit count e) s cells ↔ BitmapParts unit count e s cells

-- the words at the place have these bits, 64 in each, and zeros behind the last
abbrev pub IsBitmap : List ℕ → (place : ℕ) → List Bool → Type 0
IsBitmap bytes place units =
    (k : ℕ) → 64 * k < length units → IsWordAt bytes (place + 8 * k) (bits_number (take 64 (drop (64 * k) units)))

-- what stands in the Space of an open bitmap
pub record BitmapImage (e : Rules) (fs : Fields) (s : State) (bytes : List ℕ) : Type 0 where
  pub words : IsBitmap bytes (chunk_of s).place (units_of s)
  pub clean : e.is_clean (chunk_of s) (child s 0) bytes ≡ true
  pub below : e.is_image (child_fields fs 0) (child s 0) bytes ≡ true

-- the image of an open bitmap stands exactly where these facts hold
abbrev pub OpenBitmapHasImage : Type 0
OpenBitmapHasImage =
    (unit count : ℕ) (e : Rules) (fs : Fields) (s : State) (bytes : List ℕ) → is_open s ≡ true → ((bitmap_rules unit count e).is_image fs s bytes ≡ true) ↔ BitmapImage e fs s bytes

-- ---- a block that is out

-- within the units, and each unit that it touches is taken
pub record IsOutBitmap (unit : ℕ) (b : Block) (s : State) : Type 0 where
  pub is_set : is_open s ≡ true
  pub some : 1 ≤ b.len
  pub aligned : b.place % 16 ≡ 0
  pub inside : lies_in b (units_block unit s) ≡ true
  pub taken : is_taken_run (units_of s) (first_unit unit (base_of s) b) (unit_count unit (base_of s) b) ≡ true

-- a block is out exactly where these facts hold of it
abbrev pub OutOfBitmap : Type 0
OutOfBitmap = (unit count : ℕ) (e : Rules) (b : Block) (s : State) (cells : Cells) → ((bitmap_rules unit count e).is_out b s cells ≡ true) ↔ IsOutBitmap unit b s

-- ---- places

-- the units that a block touches are free exactly where each of its bytes lies in a unit that is there and free
abbrev pub UnitsFreeByBytes : Type 0
UnitsFreeByBytes = (unit base : ℕ) (us : List Bool) (b : Block) → 1 ≤ unit → 1 ≤ b.len → base ≤ b.place → (units_free unit base us b ≡ true) ↔ ((k : ℕ) → has_place b k ≡ true → slice_get us ((k - base) / unit) ≡ Some false)

-- The place p is a multiple of a, at or above the base, and the units that n bytes touch there are there and free; no less such multiple is.
pub record IsLeastPlace (unit n a base : ℕ) (us : List Bool) (p : ℕ) : Type 0 where
  pub aligned : IsMultiple p a
  pub above : base ≤ p
  pub free : units_free unit base us (block p n) ≡ true
  pub least : (q : ℕ) → IsMultiple q a → base ≤ q → q < p → units_free unit base us (block q n) ≡ false

-- no multiple of a at or above the base has free units for n bytes
abbrev pub HasNoPlace : (unit n a base : ℕ) → List Bool → Type 0
HasNoPlace unit n a base us = (q : ℕ) → IsMultiple q a → base ≤ q → units_free unit base us (block q n) ≡ false

-- what free_place finds is the least such place, and where it finds none there is none; so for a bitmap
abbrev pub FreePlaceIsLeast : Type 0
FreePlaceIsLeast = (unit n a base : ℕ) (us : List Bool) (p : ℕ) → 1 ≤ a → free_place unit n a base us ≡ Some p → IsLeastPlace unit n a base us p

abbrev pub NoFreePlace : Type 0
NoFreePlace = (unit n a base : ℕ) (us : List Bool) → 1 ≤ unit → 1 ≤ n → 1 ≤ a → free_place unit n a base us ≡ None → HasNoPlace unit n a base us

abbrev pub BitmapPlaceIsLeast : Type 0
BitmapPlaceIsLeast = (unit n a : ℕ) (s : State) (p : ℕ) → 1 ≤ a → bitmap_place_at unit n a s ≡ Some p → IsLeastPlace unit n a (base_of s) (units_of s) p

abbrev pub NoBitmapPlace : Type 0
NoBitmapPlace = (unit n a : ℕ) (s : State) → 1 ≤ unit → 1 ≤ n → 1 ≤ a → bitmap_place_at unit n a s ≡ None → HasNoPlace unit n a (base_of s) (units_of s)
