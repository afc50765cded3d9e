-- A kr: units of 16 bytes in one chunk of its parent. It serves from its tail first, later from runs of free units,
-- which it keeps as holes: each has its length and the place of the next one at its front.
use Rattle.layer_laws.specs.Carving.{Carving, alone, carving_rules}
use Rattle.layer_rules.specs.After.{Change, Serve, after, placed, refuse, say}
use Rattle.layer_rules.specs.Blocks.{block, end_of, has_place, lies_in}
use Rattle.layer_rules.specs.Fields.{Kept, chain_end, kept_chunk, kept_first, kept_mode, kept_position}
use Rattle.layer_rules.specs.Offering.{offers_of}
use Rattle.layer_rules.specs.Rules.{Rules}
use Rattle.layer_rules.specs.State.{Mode, Own, State, chunk_in, chunk_of, kr_own, list_mode, mode_in, mode_of, position_in, position_of, region_mode, units_in, units_of, with_own}
use Rattle.layer_rules.specs.Testing.{is_word, on_open}
use Rattle.layer_rules.specs.UnitRows.{free_bytes, has_no_run, is_taken_at, longest_bytes, longest_run}
use Rattle.layer_rules.specs.declared.Block.{Block}
use Rattle.layer_rules.specs.declared.Fact.TheVariants as Said
use Rattle.layer_rules.specs.declared.Offers.{Offers}
use Rattle.size_round.specs.Sizes.{up}
use Rattle.space_core.specs.Runs.{first_run, free_count, is_free_run, is_taken_run, put_run, starts_free, starts_taken}
use Rattle.space_core.specs.Words.{has_bytes, word_at}
use Rattle.std.specs.List.{list_any}
use Rattle.std.specs.Prelude.{Bool, List, None, Some, [], cond, false, length, max, nat_eq, nat_le, not, replicate, suc, take, true, zero, ℕ, ◌%◌, ◌&&◌, ◌*◌, ◌+◌, ◌-◌, ◌/◌, ◌||◌, ◌∷◌}

-- ---- its chunk, and how it serves

abbrev pub kr_chunk : (size need : ℕ) → ℕ
kr_chunk size need = up (max size need) 16

abbrev pub kr_opened : Block → Own
kr_opened chunk = kr_own chunk region_mode chunk.place (replicate (chunk.len / 16) false)

abbrev pub kr_offers : Offers
kr_offers = offers_of true false false true

-- whether the tail is still served from
abbrev pub serves_tail : Mode → Bool
serves_tail region_mode = true
serves_tail list_mode = false

-- the units from a place on, taken or free
abbrev pub kr_put : (taken : Bool) (place size : ℕ) → State → List Bool
kr_put taken place size s = put_run taken ((place - (chunk_of s).place) / 16) (size / 16) (units_of s)

-- whether the size fits between the position and the chunk's end, and the tail is still served from
abbrev pub kr_tail_fits : (size : ℕ) → State → Bool
kr_tail_fits size s = serves_tail (mode_of s) && nat_le (position_of s + size) (end_of (chunk_of s))

-- from the tail where that is still done and the size fits there, else the front of the least run of free units
abbrev pub kr_allocate : (size n : ℕ) → Serve
kr_allocate size n s cells =
    elim (kr_tail_fits size s) [
      | true ↦ after (Some (placed (block (position_of s) n) []))
          (with_own s (kr_own (chunk_of s) region_mode (position_of s + size) (kr_put true (position_of s) size s))) cells
      | false ↦ elim (first_run (λ i. true) (size / 16) 0 (units_of s)) [
        | None ↦ refuse s cells
        | Some i ↦ after (Some (placed (block ((chunk_of s).place + 16 * i) n) []))
            (with_own s (kr_own (chunk_of s) list_mode (position_of s) (put_run true i (size / 16) (units_of s)))) cells
      ]
    ]

-- the position stays
abbrev pub kr_deallocate : Change
kr_deallocate b s cells =
    after true (with_own s (kr_own (chunk_of s) (mode_of s) (position_of s) (kr_put false b.place (up b.len 16) s))) cells

-- whole units, all taken
abbrev pub is_out_of_kr : Block → State → Bool
is_out_of_kr b s =
    nat_le (chunk_of s).place b.place
    && (nat_eq ((b.place - (chunk_of s).place) % 16) 0
    && is_taken_run (units_of s) ((b.place - (chunk_of s).place) / 16) (up b.len 16 / 16))

-- ---- its holes in the Space

abbrev pub first_hole : List Block → ℕ
first_hole [] = chain_end
first_hole (h ∷ hs) = h.place

-- each hole has its length and the place of the next one at its front
abbrev pub is_hole_chain : List ℕ → List Block → Bool
is_hole_chain bytes [] = true
is_hole_chain bytes (h ∷ hs) = is_word bytes h.place h.len && (is_word bytes (h.place + 8) (first_hole hs) && is_hole_chain bytes hs)

-- the unit at the place, joined with a run that begins right behind it
abbrev pub joined : (place : ℕ) → List Block → List Block
joined p [] = block p 16 ∷ []
joined p (h ∷ hs) = cond (nat_eq h.place (p + 16)) (block p (h.len + 16) ∷ hs) (block p 16 ∷ h ∷ hs)

-- the longest runs of free units, where the first unit stands at the place
unfoldable pub free_runs : (place : ℕ) → List Bool → List Block
free_runs p [] = []
free_runs p (true ∷ us) = free_runs (p + 16) us
free_runs p (false ∷ us) = joined p (free_runs (p + 16) us)

-- the holes from a place on, up to the chain's end
unfoldable pub read_holes : (steps place : ℕ) → List ℕ → List Block
read_holes zero p bytes = []
read_holes (suc n) p bytes =
    elim (has_bytes bytes p 16 && not (nat_eq p chain_end)) [ true ↦ block p (word_at bytes p) ∷ read_holes n (word_at bytes (p + 8)) bytes | false ↦ [] ]

-- A unit is free where it lies in a hole, and where it stands in the tail as long as that is served from.
abbrev pub is_free_unit : List Block → (free_tail : Bool) (position place : ℕ) → Bool
is_free_unit holes free_tail position p =
    list_any (λ hole. lies_in (block p 16) hole) holes || (free_tail && nat_le position p)

unfoldable pub units_around : List Block → (free_tail : Bool) (position place n : ℕ) → List Bool
units_around holes free_tail position p zero = []
units_around holes free_tail position p (suc n) =
    not (is_free_unit holes free_tail position p) ∷ units_around holes free_tail position (p + 16) n

-- the holes are followed for at most one step per unit
abbrev pub read_kr : (chunk : Block) (mode : Mode) (position first : ℕ) → List ℕ → Own
read_kr chunk mode position first bytes =
    kr_own chunk mode position
    (units_around (read_holes (chunk.len / 16) first bytes) (serves_tail mode) position chunk.place (chunk.len / 16))

-- the units of which holes speak: those below the position as long as the tail is served from, and else all
abbrev pub hole_units : State → List Bool
hole_units s =
    cond (serves_tail (mode_of s)) (take ((position_of s - (chunk_of s).place) / 16) (units_of s)) (units_of s)

abbrev pub holes_of : State → List Block
holes_of s = free_runs (chunk_of s).place (hole_units s)

-- its number and its holes
abbrev pub is_kr_image : Kept → State → List ℕ → Bool
is_kr_image k s bytes = nat_eq (kept_first k) (first_hole (holes_of s)) && is_hole_chain bytes (holes_of s)

abbrev pub is_hole_byte : State → ℕ → Bool
is_hole_byte s k = list_any (λ hole. has_place (block hole.place 16) k) (holes_of s)

-- ---- what stands between calls

abbrev pub is_kr_own : Own → Bool
is_kr_own (kr_own chunk mode position units) = true
is_kr_own own = false

-- the position lies in the chunk, and no unit past it is taken
abbrev pub has_free_tail : (chunk : Block) (position : ℕ) (units : List Bool) → Bool
has_free_tail chunk position units =
    nat_le chunk.place position
    && (nat_le position (end_of chunk)
    && (nat_eq ((position - chunk.place) % 16) 0
    && is_free_run units ((position - chunk.place) / 16) ((end_of chunk - position) / 16)))

-- so as long as the tail is served from
abbrev pub has_free_tail_if : Mode → (chunk : Block) (position : ℕ) (units : List Bool) → Bool
has_free_tail_if region_mode chunk position units = has_free_tail chunk position units
has_free_tail_if list_mode chunk position units = true

abbrev pub tail_is_free : State → Bool
tail_is_free s = has_free_tail_if (mode_of s) (chunk_of s) (position_of s) (units_of s)

-- The length is one that opening gives for some need: for its own length as the need, and that is so exactly where it is for any.
abbrev pub is_kr : (size : ℕ) (chunk : Block) (mode : Mode) (position : ℕ) (units : List Bool) → Bool
is_kr size chunk mode position units =
    nat_eq chunk.len (kr_chunk size chunk.len)
    && (nat_eq (length units) (chunk.len / 16) && has_free_tail_if mode chunk position units)

-- ---- the rules

-- how it carves its chunk; it offers no aligned request, and no block grows where it stands
abbrev pub kr_carving : (size : ℕ) → Carving
kr_carving size = record {
  chunk_len = kr_chunk size;
  first = λ need. kr_opened;
  chunk = chunk_in;
  allocate = λ n. kr_allocate (up n 16) n;
  aligned_allocate = λ n a. refuse;
  expand = λ delta. say false;
  deallocate = kr_deallocate;
  all_deallocated = λ own. kr_own (chunk_in own) region_mode (chunk_in own).place (replicate (length (units_in own)) false);
  -- the tail counts as free: its units are
  refuses = λ n own. has_no_run (up n 16 / 16) (units_in own);
  refuses_aligned = λ n a own. true;
  has_free_tail = λ s. on_open s (tail_is_free s);
  is_out = λ b own. is_out_of_kr b (alone own);
  extent = λ b own. block b.place (up b.len 16);
  room = chunk_in;
  read = λ k bytes. read_kr (kept_chunk k) (kept_mode k) (kept_position k) (kept_first k) bytes;
  is_own = is_kr_own;
  passes = λ own. is_kr size (chunk_in own) (mode_in own) (position_in own) (units_in own);
  is_image = λ k own bytes. is_kr_image k (alone own) bytes;
  is_taken = λ own k. is_taken_at 16 (chunk_in own).place (units_in own) k;
  is_meta = λ own k. is_hole_byte (alone own) k;
  offers = kr_offers;
  alignment = 16;
  rounded = λ n. up n 16;
  fact = λ own. Said.Kr (free_bytes 16 (alone own)) (longest_bytes 16 (alone own));
}

unfoldable pub kr_rules : (size : ℕ) → Rules → Rules
unfolding first_run starts_free starts_taken put_run free_count longest_run free_runs read_holes units_around
kr_rules size e = carving_rules (kr_carving size) e
