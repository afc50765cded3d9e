-- What a region's numbers must be, what a block that is out of a region is, and the laws of regions.
use Rattle.std.specs.Prelude.{ℕ, ◌+◌, ◌-◌, ◌%◌, ◌≡◌, ◌≤◌, ◌↔◌, true}
use Rattle.size_round.specs.Sizes.{limit, size_bound, up}
use Rattle.size_round.specs.SizeMeanings.{IsPower}
use Rattle.space_core.specs.Cells.{Cells}
use Rattle.layer_rules.specs.declared.Block.{Block}
use Rattle.layer_rules.specs.Blocks.{end_of}
use Rattle.layer_rules.specs.Rules.{Rules, IsSettled, HasSomeTags}
use Rattle.layer_rules.specs.State.{State, open_with, region_own, one_child, is_open, child, chunk_of, position_of}
use Rattle.region_rules.specs.RegionRules.{region_chunk, region_rules}
use Rattle.layer_laws.specs.Lawful.{IsRegular, IsLawful}

-- the greatest alignment of a region
abbrev pub most_align : ℕ
most_align = 4096

-- The size is one that a layer is made with, and the alignment is a power of two up to 4096, and at most the parent's.
pub record IsRegionSize (size align : ℕ) (e : Rules) : Type 0 where
  pub some : 1 ≤ size
  pub most : size ≤ size_bound
  pub power : IsPower align
  pub align_most : align ≤ most_align
  pub align_below : align ≤ e.alignment

-- a chunk has a length that opening gives for some need, and the position lies in it, at a multiple of the alignment from its start
pub record IsRegion (size align : ℕ) (chunk : Block) (position : ℕ) : Type 0 where
  pub len : chunk.len ≡ region_chunk size align chunk.len
  pub start : chunk.place ≤ position
  pub stop : position ≤ end_of chunk
  pub aligned : (position - chunk.place) % align ≡ 0

-- an open region that is sound
pub record RegionParts (size align : ℕ) (e : Rules) (s : State) (cells : Cells) : Type 0 where
  pub form : s ≡ open_with (region_own (chunk_of s) (position_of s)) (one_child (child s 0))
  pub parent : is_open (child s 0) ≡ true
  pub region : IsRegion size align (chunk_of s) (position_of s)
  pub out : e.is_out (chunk_of s) (child s 0) cells ≡ true
  pub bound : (chunk_of s).len ≤ limit
  pub below : IsSettled e (child s 0) cells

-- a block of it: from a multiple of the alignment, and not past the position
pub record IsOutRegion (align : ℕ) (b : Block) (s : State) : Type 0 where
  pub is_set : is_open s ≡ true
  pub some : 1 ≤ b.len
  pub from : (chunk_of s).place ≤ b.place
  pub aligned : (b.place - (chunk_of s).place) % align ≡ 0
  pub upto : b.place + up b.len align ≤ position_of s

-- A block is out of a region exactly where these facts hold of it.
abbrev pub OutOfRegion : Type 0
OutOfRegion = (size align : ℕ) (e : Rules) (b : Block) (s : State) (cells : Cells) → ((region_rules size align e).is_out b s cells ≡ true) ↔ IsOutRegion align b s

-- An open region is sound exactly where these facts hold of it.
abbrev pub OpenRegionIsSound : Type 0
OpenRegionIsSound = (size align : ℕ) (e : Rules) (s : State) (cells : Cells) → is_open s ≡ true → IsSettled (region_rules size align e) s cells ↔ RegionParts size align e s cells

-- a region is regular over a parent that is, and lawful over one that is lawful and regular
abbrev pub RegionIsRegular : Type 0
RegionIsRegular = (size align : ℕ) (e : Rules) → IsRegionSize size align e → IsRegular e → IsRegular (region_rules size align e)

abbrev pub RegionIsLawful : Type 0
RegionIsLawful = (size align : ℕ) (e : Rules) → IsRegionSize size align e → HasSomeTags e → IsRegular e → IsLawful e → IsLawful (region_rules size align e)
