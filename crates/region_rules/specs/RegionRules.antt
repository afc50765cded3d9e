-- A region: one chunk of its parent, handed out from front to back.
use Rattle.std.specs.Prelude.{ℕ, ◌+◌, ◌-◌, ◌%◌, Bool, true, false, ◌&&◌, not, [], Some, max, nat_le, nat_lt, nat_eq}
use Rattle.size_round.specs.Sizes.{up}
use Rattle.layer_rules.specs.declared.Block.{Block}
use Rattle.layer_rules.specs.declared.Fact.TheVariants as Said
use Rattle.layer_rules.specs.After.{Serve, Change, after, placed, refuse}
use Rattle.layer_rules.specs.Blocks.{block, end_of}
use Rattle.layer_rules.specs.Fields.{kept_chunk, kept_position}
use Rattle.layer_rules.specs.Offering.{all_offers}
use Rattle.layer_rules.specs.Rules.{Rules}
use Rattle.layer_rules.specs.State.{State, Own, region_own, with_own, chunk_in, position_in, chunk_of, position_of}
use Rattle.layer_laws.specs.Carving.{Carving, carving_rules}

-- ---- opening

-- the length of the chunk for a need
abbrev pub region_chunk : (size align need : ℕ) → ℕ
region_chunk size align need = up (max size need) align

abbrev pub region_opened : Block → Own
region_opened chunk = region_own chunk chunk.place

-- ---- what calls do

-- the place p, where the size behind it lies in the chunk; the position moves behind it
abbrev pub region_allocate : (p size n : ℕ) → Serve
region_allocate p size n s cells =
    elim (nat_le (p + size) (end_of (chunk_of s))) [
      | true ↦ after (Some (placed (block p n) [])) (with_own s (region_own (chunk_of s) (p + size))) cells
      | false ↦ refuse s cells
    ]

-- a request of n bytes from the position on
abbrev pub region_next : (align n : ℕ) → Serve
region_next align n s = region_allocate (position_of s) (up n align) n s

-- the same from the next multiple of a and of the alignment, powers of two
abbrev pub region_aligned : (align n a : ℕ) → Serve
region_aligned align n a s = region_allocate (up (position_of s) (max a align)) (up n align) n s

-- the block is the last one
abbrev pub is_last : (align : ℕ) → Block → State → Bool
is_last align b s = nat_eq (b.place + up b.len align) (position_of s)

-- only the last block, as far as the chunk has room
abbrev pub region_expand : (align delta : ℕ) → Change
region_expand align delta b s cells =
    let last = b.place + up (b.len + delta) align in
    elim (is_last align b s && nat_le last (end_of (chunk_of s))) [
      | true ↦ after true (with_own s (region_own (chunk_of s) last)) cells
      | false ↦ after false s cells
    ]

-- only the last block
abbrev pub region_deallocate : (align : ℕ) → Change
region_deallocate align b s cells =
    elim (is_last align b s) [ true ↦ after true (with_own s (region_own (chunk_of s) b.place)) cells | false ↦ after false s cells ]

-- a block of this size from the place on does not lie in the chunk
abbrev pub region_is_full : (place size : ℕ) → Own → Bool
region_is_full place size own = not (nat_le (place + size) (end_of (chunk_in own)))

-- ---- blocks

-- from a multiple of the alignment, and not past the position
abbrev pub is_out_of_region : (align : ℕ) → Block → Own → Bool
is_out_of_region align b own =
    nat_le (chunk_in own).place b.place
    && (nat_eq ((b.place - (chunk_in own).place) % align) 0 && nat_le (b.place + up b.len align) (position_in own))

-- ---- what stands between calls

abbrev pub is_region_own : Own → Bool
is_region_own (region_own chunk position) = true
is_region_own own = false

-- The length is one that opening gives for some need: for its own length as the need, and that is so exactly where it is for any.
-- The position lies in the chunk, at a multiple of the alignment from its start.
abbrev pub is_region : (size align : ℕ) → (chunk : Block) → (position : ℕ) → Bool
is_region size align chunk position =
    nat_eq chunk.len (region_chunk size align chunk.len)
    && (nat_le chunk.place position && (nat_le position (end_of chunk) && nat_eq ((position - chunk.place) % align) 0))

-- ---- the rules

-- how it carves its chunk; it keeps nothing in the Space
abbrev pub region_carving : (size align : ℕ) → Carving
region_carving size align = record {
  chunk_len = region_chunk size align;
  first = λ need. region_opened;
  chunk = chunk_in;
  allocate = region_next align;
  aligned_allocate = region_aligned align;
  expand = region_expand align;
  deallocate = region_deallocate align;
  all_deallocated = λ own. region_own (chunk_in own) (chunk_in own).place;
  refuses = λ n own. region_is_full (position_in own) (up n align) own;
  refuses_aligned = λ n a own. region_is_full (up (position_in own) (max a align)) (up n align) own;
  has_free_tail = λ s. true;
  is_out = is_out_of_region align;
  extent = λ b own. block b.place (up b.len align);
  room = chunk_in;
  read = λ k bytes. region_own (kept_chunk k) (kept_position k);
  is_own = is_region_own;
  passes = λ own. is_region size align (chunk_in own) (position_in own);
  is_image = λ k own bytes. true;
  is_taken = λ own k. nat_le (chunk_in own).place k && nat_lt k (position_in own);
  is_meta = λ own k. false;
  offers = all_offers;
  alignment = align;
  rounded = λ n. up n align;
  fact = λ own. Said.Region (end_of (chunk_in own) - position_in own);
}

unfoldable pub region_rules : (size align : ℕ) → Rules → Rules
region_rules size align e = carving_rules (region_carving size align) e
