-- A bitmap: units of one size in one chunk of its parent, behind words with a bit for each; a block takes all units that it touches.
use Rattle.layer_laws.specs.Carving.{Carving, alone, carving_rules}
use Rattle.layer_rules.specs.After.{Change, Serve, after, placed, refuse}
use Rattle.layer_rules.specs.Blocks.{block, end_of, has_place, lies_in, with_len}
use Rattle.layer_rules.specs.Fields.{kept_chunk}
use Rattle.layer_rules.specs.Offering.{all_offers}
use Rattle.layer_rules.specs.Rules.{Rules}
use Rattle.layer_rules.specs.State.{Own, State, base_in, base_of, bitmap_own, chunk_in, chunk_of, units_in, units_of, with_own}
use Rattle.layer_rules.specs.Testing.{is_word}
use Rattle.layer_rules.specs.UnitRows.{free_bytes, has_no_run, is_taken_at, longest_bytes, longest_run}
use Rattle.layer_rules.specs.Units.{first_unit, touched_block, unit_count}
use Rattle.layer_rules.specs.declared.Block.{Block}
use Rattle.layer_rules.specs.declared.Fact.TheVariants as Said
use Rattle.size_round.specs.Sizes.{ceil_div, up}
use Rattle.space_core.specs.Runs.{first_place, first_run, free_count, is_free_run, is_taken_run, put_run, starts_free, starts_taken}
use Rattle.space_core.specs.Words.{has_bytes, word_at}
use Rattle.std.specs.Prelude.{Bool, List, None, Option, Some, [], cond, drop, false, is_none, length, max, nat_eq, nat_le, replicate, suc, take, true, zero, ℕ, ◌%◌, ◌&&◌, ◌*◌, ◌+◌, ◌-◌, ◌/◌, ◌^◌, ◌∷◌}

-- ---- its chunk

-- the bytes of a bitmap's words in front of its units, and its whole chunk
abbrev pub bitmap_front : (count : ℕ) → ℕ
bitmap_front count = up (8 * ceil_div count 64) 16

abbrev pub bitmap_count : (unit count need : ℕ) → ℕ
bitmap_count unit count need = max count (ceil_div need unit)

abbrev pub bitmap_chunk : (unit count : ℕ) → ℕ
bitmap_chunk unit count = bitmap_front count + count * unit

abbrev pub bitmap_opened : (count : ℕ) → Block → Own
bitmap_opened count chunk = bitmap_own chunk (chunk.place + bitmap_front count) (replicate count false)

-- the units as one block: whole units from the base on, up to the chunk's end; it reads no bit
abbrev pub units_block : (unit : ℕ) → State → Block
units_block unit s = block (base_of s) (unit * ((end_of (chunk_of s) - base_of s) / unit))

-- ---- what its calls do

-- the bitmap with the units of a block taken or free
abbrev pub bitmap_with : (taken : Bool) (unit : ℕ) → Block → State → State
bitmap_with taken unit b s =
    with_own s (bitmap_own (chunk_of s) (base_of s) (put_run taken (first_unit unit (base_of s) b) (unit_count unit (base_of s) b) (units_of s)))

abbrev pub bitmap_take : (unit n : ℕ) → Option ℕ → Serve
bitmap_take unit n None s cells = refuse s cells
bitmap_take unit n (Some p) s cells = after (Some (placed (block p n) [])) (bitmap_with true unit (block p n) s) cells

-- the least run of free units
abbrev pub bitmap_allocate : (unit n : ℕ) → Serve
bitmap_allocate unit n s cells =
    elim (first_run (λ i. true) (ceil_div n unit) 0 (units_of s)) [
      | None ↦ refuse s cells
      | Some i ↦ bitmap_take unit n (Some (base_of s + unit * i)) s cells
    ]

-- whether the units that a block touches are there and free
abbrev pub units_free : (unit base : ℕ) → List Bool → Block → Bool
units_free unit base units b = is_free_run units (first_unit unit base b) (unit_count unit base b)

-- the least place that is a multiple of a, such that the units which n bytes touch there are there and free
abbrev pub free_place : (unit n a base : ℕ) → List Bool → Option ℕ
free_place unit n a base units = first_place (λ p. units_free unit base units (block p n)) a (unit * length units / a) (up base a)

abbrev pub bitmap_place_at : (unit n a : ℕ) → State → Option ℕ
bitmap_place_at unit n a s = free_place unit n a (base_of s) (units_of s)

abbrev pub bitmap_aligned_allocate : (unit n a : ℕ) → Serve
bitmap_aligned_allocate unit n a s cells = bitmap_take unit n (bitmap_place_at unit n (max a 16) s) s cells

-- the units that the block touches once it has m bytes, beyond those that it touches now, are there and free
abbrev pub further_units_free : (unit m : ℕ) → Block → State → Bool
further_units_free unit m b s =
    let touched = unit_count unit (base_of s) b in
    is_free_run (units_of s) (first_unit unit (base_of s) b + touched) (unit_count unit (base_of s) (with_len b m) - touched)

abbrev pub bitmap_expand : (unit delta : ℕ) → Change
bitmap_expand unit delta b s cells =
    elim (further_units_free unit (b.len + delta) b s) [
      | true ↦ after true (bitmap_with true unit (with_len b (b.len + delta)) s) cells
      | false ↦ after false s cells
    ]

abbrev pub bitmap_deallocate : (unit : ℕ) → Change
bitmap_deallocate unit b s cells = after true (bitmap_with false unit b s) cells

-- within the units, and each unit that it touches is taken
abbrev pub is_out_of_bitmap : (unit : ℕ) → Block → State → Bool
is_out_of_bitmap unit b s =
    nat_eq (b.place % 16) 0
    && (lies_in b (units_block unit s) && is_taken_run (units_of s) (first_unit unit (base_of s) b) (unit_count unit (base_of s) b))

-- ---- its bits in the Space

-- the number with these bits, lowest first
unfoldable pub bits_number : List Bool → ℕ
bits_number [] = 0
bits_number (u ∷ us) = cond u 1 0 + 2 * bits_number us

-- so many words from the place on have these bits, 64 in each, and zeros behind the last
unfoldable pub are_bits : List ℕ → (place words : ℕ) → List Bool → Bool
unfolding bits_number
are_bits bytes p zero units = true
are_bits bytes p (suc n) units = is_word bytes p (bits_number (take 64 units)) && are_bits bytes (p + 8) n (drop 64 units)

-- the words at the place have these bits
abbrev pub is_bitmap : List ℕ → (place : ℕ) → List Bool → Bool
is_bitmap bytes p units = are_bits bytes p (ceil_div (length units) 64) units

abbrev pub bit_at : List ℕ → (place i : ℕ) → Bool
bit_at bytes place i = nat_eq ((word_at bytes (place + 8 * (i / 64)) / 2 ^ (i % 64)) % 2) 1

-- n bits from number i on
unfoldable pub read_bits : List ℕ → (place i n : ℕ) → List Bool
read_bits bytes place i zero = []
read_bits bytes place i (suc n) =
    elim (has_bytes bytes (place + 8 * (i / 64)) 8) [ true ↦ bit_at bytes place i ∷ read_bits bytes place (suc i) n | false ↦ [] ]

-- the greatest number of units, up to so many, whose bitmap has room in so many bytes
unfoldable pub most_units : (unit len most : ℕ) → ℕ
most_units unit len zero = 0
most_units unit len (suc n) = elim (nat_le (bitmap_chunk unit (suc n)) len) [ true ↦ suc n | false ↦ most_units unit len n ]

abbrev pub units_in_chunk : (unit : ℕ) → Block → ℕ
units_in_chunk unit chunk = most_units unit chunk.len (chunk.len / unit)

abbrev pub read_bitmap : (unit : ℕ) → Block → List ℕ → Own
read_bitmap unit chunk bytes =
    bitmap_own chunk (chunk.place + bitmap_front (units_in_chunk unit chunk)) (read_bits bytes chunk.place 0 (units_in_chunk unit chunk))

abbrev pub is_bitmap_byte : State → ℕ → Bool
is_bitmap_byte s k = has_place (block (chunk_of s).place (8 * ceil_div (length (units_of s)) 64)) k

-- ---- what stands between calls

abbrev pub is_bitmap_own : Own → Bool
is_bitmap_own (bitmap_own chunk base units) = true
is_bitmap_own own = false

-- as many units as the length gives room for, and at least as many as the layer was made for
abbrev pub is_bitmap_of : (unit count : ℕ) (chunk : Block) (base : ℕ) (units : List Bool) → Bool
is_bitmap_of unit count chunk base units =
    nat_le count (length units)
    && (nat_eq chunk.len (bitmap_chunk unit (length units)) && nat_eq base (chunk.place + bitmap_front (length units)))

-- ---- the rules

-- how it carves its chunk
abbrev pub bitmap_carving : (unit count : ℕ) → Carving
bitmap_carving unit count = record {
  chunk_len = λ need. bitmap_chunk unit (bitmap_count unit count need);
  first = λ need. bitmap_opened (bitmap_count unit count need);
  chunk = chunk_in;
  allocate = bitmap_allocate unit;
  aligned_allocate = bitmap_aligned_allocate unit;
  expand = bitmap_expand unit;
  deallocate = bitmap_deallocate unit;
  all_deallocated = λ own. bitmap_own (chunk_in own) (base_in own) (replicate (length (units_in own)) false);
  refuses = λ n own. has_no_run (ceil_div n unit) (units_in own);
  refuses_aligned = λ n a own. is_none (free_place unit n (max a 16) (base_in own) (units_in own));
  has_free_tail = λ s. true;
  is_out = λ b own. is_out_of_bitmap unit b (alone own);
  extent = λ b own. touched_block unit (base_in own) b;
  room = λ own. units_block unit (alone own);
  read = λ k bytes. read_bitmap unit (kept_chunk k) bytes;
  is_own = is_bitmap_own;
  passes = λ own. is_bitmap_of unit count (chunk_in own) (base_in own) (units_in own);
  is_image = λ k own bytes. is_bitmap bytes (chunk_in own).place (units_in own);
  is_taken = λ own k. is_taken_at unit (base_in own) (units_in own) k;
  is_meta = λ own k. is_bitmap_byte (alone own) k;
  offers = all_offers;
  alignment = 16;
  rounded = λ n. up n unit;
  fact = λ own. Said.Bitmap (free_bytes unit (alone own)) (longest_bytes unit (alone own));
}

unfoldable pub bitmap_rules : (unit count : ℕ) → Rules → Rules
unfolding first_run first_place starts_free starts_taken put_run free_count longest_run are_bits read_bits most_units
bitmap_rules unit count e = carving_rules (bitmap_carving unit count) e
