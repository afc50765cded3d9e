-- Fields: the numbers that the layers of a composition keep outside the Space, in their structs.
use Rattle.layer_rules.specs.Blocks.{no_block}
use Rattle.layer_rules.specs.State.{Mode, children, list_mode, region_mode, zero_stats}
use Rattle.layer_rules.specs.declared.Block.{Block}
use Rattle.layer_rules.specs.declared.Stats.{Stats}
use Rattle.std.specs.Prelude.{Bool, List, [], false, suc, true, zero, ℕ, ◌-◌, ◌^◌, ◌∷◌}

-- the end of a chain
abbrev pub chain_end : ℕ
chain_end = 2 ^ 64 - 1

-- what one open layer keeps
pub data Kept : Type 0 where
  kept_nothing : Kept
  kept_region : (chunk : Block) (position : ℕ) → Kept
  kept_bitmap : (chunk : Block) → Kept
  -- with the place of the first hole, or the chain's end
  kept_kr : (chunk : Block) (mode : Mode) (position first : ℕ) → Kept
  -- how many blocks are cached, and the place of the front, or the chain's end
  kept_cache : (count front : ℕ) → Kept
  kept_stats : Stats → Kept
  kept_order : List ℕ → Kept
  -- the numbers of a form that no other knows
  kept_row : List ℕ → Kept

mutual
  pub data Fields : Type 0 where
    closed_fields : Fields
    open_fields : Kept → FieldsOf → Fields

  pub data FieldsOf : Type 0 where
    no_fields : FieldsOf
    fields_and : Fields → FieldsOf → FieldsOf

abbrev pub one_field : Fields → FieldsOf
one_field fs = fields_and fs no_fields

abbrev pub are_open : Fields → Bool
are_open closed_fields = false
are_open (open_fields kept children) = true

abbrev pub kept_of : Fields → Kept
kept_of closed_fields = kept_nothing
kept_of (open_fields kept children) = kept

abbrev pub field_children : Fields → FieldsOf
field_children closed_fields = no_fields
field_children (open_fields kept children) = children

abbrev pub nth_fields : FieldsOf → ℕ → Fields
nth_fields no_fields i = closed_fields
nth_fields (fields_and fs fss) zero = fs
nth_fields (fields_and fs fss) (suc i) = nth_fields fss i

abbrev pub child_fields : Fields → ℕ → Fields
child_fields fs i = nth_fields (field_children fs) i

abbrev pub kept_chunk : Kept → Block
kept_chunk (kept_region chunk position) = chunk
kept_chunk (kept_bitmap chunk) = chunk
kept_chunk (kept_kr chunk mode position first) = chunk
kept_chunk _ = no_block

abbrev pub kept_position : Kept → ℕ
kept_position (kept_region chunk position) = position
kept_position (kept_kr chunk mode position first) = position
kept_position _ = 0

abbrev pub kept_mode : Kept → Mode
kept_mode (kept_kr chunk mode position first) = mode
kept_mode _ = region_mode

-- the first hole of a kr
abbrev pub kept_first : Kept → ℕ
kept_first (kept_kr chunk mode position first) = first
kept_first _ = chain_end

abbrev pub kept_count : Kept → ℕ
kept_count (kept_cache count front) = count
kept_count _ = 0

abbrev pub kept_front : Kept → ℕ
kept_front (kept_cache count front) = front
kept_front _ = chain_end

abbrev pub kept_counters : Kept → Stats
kept_counters (kept_stats counts) = counts
kept_counters _ = zero_stats

abbrev pub kept_members : Kept → List ℕ
kept_members (kept_order order) = order
kept_members _ = []

abbrev pub kept_row_of : Kept → List ℕ
kept_row_of (kept_row numbers) = numbers
kept_row_of _ = []

abbrev pub mode_number : Mode → ℕ
mode_number region_mode = 0
mode_number list_mode = 1

abbrev pub stats_numbers : Stats → List ℕ
stats_numbers c =
    c.num_owns ∷ c.num_allocate ∷ c.num_allocate_ok ∷ c.num_expand ∷ c.num_expand_ok ∷ c.num_reallocate ∷ c.num_reallocate_ok
    ∷ c.num_reallocate_in_place ∷ c.num_deallocate ∷ c.num_deallocate_all ∷ c.bytes_used ∷ c.bytes_allocated ∷ c.bytes_moved
    ∷ c.bytes_slack ∷ c.bytes_high_tide ∷ []

-- what stands behind the first number, 1, of an open node
abbrev pub kept_numbers : Kept → List ℕ
kept_numbers kept_nothing = []
kept_numbers (kept_region chunk position) = chunk.place ∷ chunk.len ∷ position ∷ []
kept_numbers (kept_bitmap chunk) = chunk.place ∷ chunk.len ∷ []
kept_numbers (kept_kr chunk mode position first) = chunk.place ∷ chunk.len ∷ mode_number mode ∷ position ∷ first ∷ []
kept_numbers (kept_cache count front) = count ∷ front ∷ []
kept_numbers (kept_stats counts) = stats_numbers counts
kept_numbers (kept_order order) = order
kept_numbers (kept_row numbers) = numbers

-- a closed node has no number
abbrev pub node_numbers : Fields → List ℕ
node_numbers closed_fields = []
node_numbers (open_fields kept children) = 1 ∷ kept_numbers kept
