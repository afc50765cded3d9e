-- States: what an open layer holds beside its rules. The units of a row are true where they are taken.
use Rattle.layer_rules.specs.Blocks.{no_block}
use Rattle.layer_rules.specs.declared.Block.{Block}
use Rattle.layer_rules.specs.declared.Stats.{Stats}
use Rattle.std.specs.Prelude.{Bool, List, [], false, suc, true, zero, ℕ, ◌∷◌}

-- In region mode a kr serves from its tail first; in list mode from the least run of free units, the former tail among them.
pub data Mode : Type 0 where
  region_mode : Mode
  list_mode : Mode

-- what one open layer holds of its own
pub data Own : Type 0 where
  nothing : Own
  region_own : (chunk : Block) (position : ℕ) → Own
  bitmap_own : (chunk : Block) (base : ℕ) (units : List Bool) → Own
  kr_own : (chunk : Block) (mode : Mode) (position : ℕ) (units : List Bool) → Own
  -- the places of the cached blocks, front first
  cache_own : List ℕ → Own
  stats_own : Stats → Own
  -- the numbers of the open members, most recently used first
  order_own : List ℕ → Own
  -- the numbers of a form that no other knows
  row_own : List ℕ → Own

mutual
  pub data State : Type 0 where
    closed : State
    open_with : Own → States → State

  pub data States : Type 0 where
    no_children : States
    child_and : State → States → States

abbrev pub one_child : State → States
one_child s = child_and s no_children

abbrev pub two_children : State → State → States
two_children s t = child_and s (child_and t no_children)

-- these children in a row
abbrev pub children : List State → States
children [] = no_children
children (s ∷ ss) = child_and s (children ss)

abbrev pub is_open : State → Bool
is_open closed = false
is_open (open_with own ss) = true

abbrev pub own_of : State → Own
own_of closed = nothing
own_of (open_with own ss) = own

abbrev pub children_of : State → States
children_of closed = no_children
children_of (open_with own ss) = ss

-- the child with this number, which is closed where there is none
abbrev pub nth_child : States → ℕ → State
nth_child no_children i = closed
nth_child (child_and s ss) zero = s
nth_child (child_and s ss) (suc i) = nth_child ss i

abbrev pub set_child : States → ℕ → State → States
set_child no_children i t = no_children
set_child (child_and s ss) zero t = child_and t ss
set_child (child_and s ss) (suc i) t = child_and s (set_child ss i t)

abbrev pub child : State → ℕ → State
child s i = nth_child (children_of s) i

-- the state with another child, or with something else of its own; a closed one stays as it is
abbrev pub with_child : State → ℕ → State → State
with_child closed i t = closed
with_child (open_with own ss) i t = open_with own (set_child ss i t)

abbrev pub with_children : State → States → State
with_children closed ss = closed
with_children (open_with own old) ss = open_with own ss

abbrev pub with_own : State → Own → State
with_own closed own = closed
with_own (open_with old ss) own = open_with own ss

abbrev pub chunk_in : Own → Block
chunk_in (region_own chunk position) = chunk
chunk_in (bitmap_own chunk base units) = chunk
chunk_in (kr_own chunk mode position units) = chunk
chunk_in _ = no_block

abbrev pub position_in : Own → ℕ
position_in (region_own chunk position) = position
position_in (kr_own chunk mode position units) = position
position_in _ = 0

abbrev pub base_in : Own → ℕ
base_in (bitmap_own chunk base units) = base
base_in _ = 0

abbrev pub mode_in : Own → Mode
mode_in (kr_own chunk mode position units) = mode
mode_in _ = region_mode

abbrev pub units_in : Own → List Bool
units_in (bitmap_own chunk base units) = units
units_in (kr_own chunk mode position units) = units
units_in _ = []

abbrev pub cached_in : Own → List ℕ
cached_in (cache_own places) = places
cached_in _ = []

abbrev pub zero_stats : Stats
zero_stats = record {
  num_owns = 0;
  num_allocate = 0;
  num_allocate_ok = 0;
  num_expand = 0;
  num_expand_ok = 0;
  num_reallocate = 0;
  num_reallocate_ok = 0;
  num_reallocate_in_place = 0;
  num_deallocate = 0;
  num_deallocate_all = 0;
  bytes_used = 0;
  bytes_allocated = 0;
  bytes_moved = 0;
  bytes_slack = 0;
  bytes_high_tide = 0;
}

abbrev pub stats_in : Own → Stats
stats_in (stats_own counts) = counts
stats_in _ = zero_stats

abbrev pub order_in : Own → List ℕ
order_in (order_own order) = order
order_in _ = []

abbrev pub row_in : Own → List ℕ
row_in (row_own numbers) = numbers
row_in _ = []

-- what a layer's state holds, by what it is
abbrev pub chunk_of : State → Block
chunk_of s = chunk_in (own_of s)

abbrev pub position_of : State → ℕ
position_of s = position_in (own_of s)

abbrev pub base_of : State → ℕ
base_of s = base_in (own_of s)

abbrev pub mode_of : State → Mode
mode_of s = mode_in (own_of s)

abbrev pub units_of : State → List Bool
units_of s = units_in (own_of s)

abbrev pub cached_of : State → List ℕ
cached_of s = cached_in (own_of s)

abbrev pub stats_of : State → Stats
stats_of s = stats_in (own_of s)

abbrev pub order_of : State → List ℕ
order_of s = order_in (own_of s)

abbrev pub row_of : State → List ℕ
row_of s = row_in (own_of s)

-- the same with each number of each statistics layer replaced by 0
abbrev pub without_counts : Own → Own
without_counts (stats_own counts) = stats_own zero_stats
without_counts own = own

unfoldable mutual
  pub uncounted : State → State
  uncounted closed = closed
  uncounted (open_with own ss) = open_with (without_counts own) (uncounted_each ss)

  pub uncounted_each : States → States
  uncounted_each no_children = no_children
  uncounted_each (child_and s ss) = child_and (uncounted s) (uncounted_each ss)
