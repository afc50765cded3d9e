-- KrMeanings: what is asked of a kr's numbers, what holds of one between calls, and what its laws say, in words.
use Rattle.std.specs.Prelude.{◌≡◌, ℕ, ◌%◌, ◌&&◌, ◌+◌, ◌-◌, ◌/◌, ◌≤◌, ◌↔◌, Bool, true, List, [], ◌∷◌, length, not}
use Rattle.size_round.specs.Sizes.{size_bound, up}
use Rattle.space_core.specs.Cells.{Cells}
use Rattle.space_core.specs.Runs.{is_free_run, is_taken_run}
use Rattle.space_core.specs.Words.{IsWordAt}
use Rattle.layer_rules.specs.declared.Block.{Block}
use Rattle.layer_rules.specs.Allocating.{over_limit_or}
use Rattle.layer_rules.specs.Blocks.{end_of}
use Rattle.layer_rules.specs.Fields.{Fields, child_fields, kept_first, kept_of}
use Rattle.layer_rules.specs.Rules.{Rules, IsSettled, HasSomeTags}
use Rattle.layer_rules.specs.State.{Mode, State, child, chunk_of, is_open, kr_own, mode_of, one_child, open_with, position_of, units_of}
use Rattle.layer_rules.specs.UnitRows.{has_no_run}
use Rattle.layer_laws.specs.ChunkLaws.{HasChunk}
use Rattle.layer_laws.specs.Lawful.{IsRegular, IsLawful}
use Rattle.kr_rules.specs.KrRules.{first_hole, holes_of, kr_chunk, kr_rules, kr_tail_fits, serves_tail}
use Rattle.std.proofs.Common.{ℕ}

-- what a kr asks of its size and of its parent
pub record IsKrSize (size : ℕ) (e : Rules) : Type 0 where
  pub least : 16 ≤ size
  pub most : size ≤ size_bound
  pub aligned : 16 ≤ e.alignment

-- over a regular parent it is regular, whatever its size
abbrev pub KrIsRegular : Type 0
KrIsRegular = (size : ℕ) (e : Rules) → IsRegular e → IsRegular (kr_rules size e)

-- over a parent that is regular and lawful, whose leaves have tags
abbrev pub KrIsLawful : Type 0
KrIsLawful = (size : ℕ) (e : Rules) → IsKrSize size e → HasSomeTags e → IsRegular e → IsLawful e → IsLawful (kr_rules size e)

-- ---- what holds between calls

-- the position lies in the chunk, and no unit past it is taken
pub record HasFreeTail (chunk : Block) (position : ℕ) (units : List Bool) : Type 0 where
  pub start : chunk.place ≤ position
  pub stop : position ≤ end_of chunk
  pub aligned : (position - chunk.place) % 16 ≡ 0
  pub free : is_free_run units ((position - chunk.place) / 16) ((end_of chunk - position) / 16) ≡ true

-- its length is one that opening gives for some need, it has as many units as the length has room for, and a tail that is served from is free
pub record IsKr (size : ℕ) (chunk : Block) (mode : Mode) (position : ℕ) (units : List Bool) : Type 0 where
  pub len : chunk.len ≡ kr_chunk size chunk.len
  pub count : length units ≡ chunk.len / 16
  pub tail : serves_tail mode ≡ true → HasFreeTail chunk position units

-- what an open kr is between calls
pub record KrParts (size : ℕ) (e : Rules) (s : State) (cells : Cells) : Type 0 where
  pub form : s ≡ open_with (kr_own (chunk_of s) (mode_of s) (position_of s) (units_of s)) (one_child (child s 0))
  pub parent : is_open (child s 0) ≡ true
  pub kr : IsKr size (chunk_of s) (mode_of s) (position_of s) (units_of s)
  pub chunk : HasChunk e (chunk_of s) (child s 0) cells
  pub below : IsSettled e (child s 0) cells

-- an open kr is sound exactly where these facts hold of it
abbrev pub OpenKrIsSound : Type 0
OpenKrIsSound = (size : ℕ) (e : Rules) (s : State) (cells : Cells) → is_open s ≡ true → IsSettled (kr_rules size e) s cells ↔ KrParts size e s cells

-- each hole has its length and the place of the next one at its front
abbrev pub IsHoleChain : List ℕ → List Block → Type 0
IsHoleChain bytes [] = Unit {0}
IsHoleChain bytes (h ∷ hs) = IsWordAt bytes h.place h.len × IsWordAt bytes (h.place + 8) (first_hole hs) × IsHoleChain bytes hs

-- its number and its holes
pub record IsKrImage (fs : Fields) (s : State) (bytes : List ℕ) : Type 0 where
  pub first : kept_first (kept_of fs) ≡ first_hole (holes_of s)
  pub chain : IsHoleChain bytes (holes_of s)

-- what stands in the Space of an open kr
pub record KrImage (e : Rules) (fs : Fields) (s : State) (bytes : List ℕ) : Type 0 where
  pub holes : IsKrImage fs s bytes
  pub clean : e.is_clean (chunk_of s) (child s 0) bytes ≡ true
  pub below : e.is_image (child_fields fs 0) (child s 0) bytes ≡ true

-- the image of an open kr stands exactly where these facts hold
abbrev pub OpenKrHasImage : Type 0
OpenKrHasImage =
    (size : ℕ) (e : Rules) (fs : Fields) (s : State) (bytes : List ℕ) → is_open s ≡ true → ((kr_rules size e).is_image fs s bytes ≡ true) ↔ KrImage e fs s bytes

-- ---- its tail

-- A kr serves from its tail, and where that has no room from a run of free units; it refuses exactly where both fail.
abbrev pub KrTailFirst : Type 0
KrTailFirst =
    (size : ℕ) (e : Rules) (n : ℕ) (s : State) (cells : Cells) → IsKr size (chunk_of s) (mode_of s) (position_of s) (units_of s) → 1 ≤ n
    → (kr_rules size e).refuses n s cells ≡ over_limit_or n (not (kr_tail_fits (up n 16) s) && has_no_run (up n 16 / 16) (units_of s))

-- ---- a block that is out

-- whole units of 16 bytes, all taken
pub record IsOutKr (b : Block) (s : State) : Type 0 where
  pub is_set : is_open s ≡ true
  pub some : 1 ≤ b.len
  pub from : (chunk_of s).place ≤ b.place
  pub aligned : (b.place - (chunk_of s).place) % 16 ≡ 0
  pub taken : is_taken_run (units_of s) ((b.place - (chunk_of s).place) / 16) (up b.len 16 / 16) ≡ true

-- a block is out exactly where these facts hold of it
abbrev pub OutOfKr : Type 0
OutOfKr = (size : ℕ) (e : Rules) (b : Block) (s : State) (cells : Cells) → ((kr_rules size e).is_out b s cells ≡ true) ↔ IsOutKr b s
