-- Layering: what contracts see of a layer in a Space, the condition of a layer's calls, and what each call does.
use Rattle.std.specs.Prelude.{ℕ, ◌≡◌, ◌≢◌, ◌+◌, ◌/◌, ◌≤◌, ◌<◌, Bool, true, false, List, [], length, get_or, min, Option, Some, option_map, Result, Ok, Err, is_ok, slice_get}
use Rattle.space_core.specs.Cells.{cell_size}
use Rattle.space_core.specs.Memory.{Memory, IsMemory}
use Rattle.layer_rules.specs.declared.Block.{Block}
use Rattle.layer_rules.specs.declared.Fact.{Fact}
use Rattle.layer_rules.specs.declared.Refused.{Refused}
use Rattle.layer_rules.specs.Blocks.{no_block, end_of}
use Rattle.layer_rules.specs.State.{State}
use Rattle.layer_rules.specs.Fields.{Fields, are_open}
use Rattle.layer_rules.specs.After.{After, Placed, Opened, Opening, Reallocated, moved_to, emptied, unmoved}
use Rattle.layer_rules.specs.Reallocating.{move_to, asked_to_reallocate, general_reallocate}
use Rattle.layer_rules.specs.Rules.{Rules, IsLeaf, AreApart, IsSound, without_leaves, longer_if}

-- The model of a layer, which is what contracts see of it: its rules, which its constructor fixes and no call changes, and the numbers that it keeps
pub record LayerModel : Type 0 where
  pub rules : Rules
  pub fields : Fields

-- the layer's state in a Space
abbrev pub state_of : LayerModel → Memory → State
state_of t m = t.rules.read t.fields m.bytes

-- the state as far as no byte is read: enough for who holds a block, its route and its extent
abbrev pub kept_state : LayerModel → State
kept_state t = t.rules.read t.fields []

abbrev pub IsSetUp : LayerModel → Type 0
IsSetUp t = are_open t.fields ≡ true

abbrev pub IsShut : LayerModel → Type 0
IsShut t = are_open t.fields ≡ false

-- A layer, open or closed, stands in a Space: it is sound in the table of cells, and its bytes are in place.
pub record Stands (t : LayerModel) (m : Memory) : Type 0 where
  pub memory : IsMemory m
  pub sound : IsSound t.rules (state_of t m) m.cells m.leaves
  pub image : t.rules.is_image t.fields (state_of t m) m.bytes ≡ true

-- the block is out of the layer
abbrev pub IsOutOf : LayerModel → Memory → Block → Type 0
IsOutOf t m b = t.rules.is_out b (state_of t m) m.cells ≡ true

-- the bytes round the block are as the affixes wrote them; of the outermost the length alone
abbrev pub IsCleanOf : LayerModel → Memory → Block → Type 0
IsCleanOf t m b = t.rules.is_clean b (state_of t m) m.bytes ≡ true

abbrev pub IsMarkedOf : LayerModel → Memory → Block → Type 0
IsMarkedOf t m b = t.rules.is_marked b (state_of t m) m.bytes ≡ true

-- the route of the block leads to a layer that can name it
abbrev pub IsRoutedIn : LayerModel → Block → Type 0
IsRoutedIn t b = t.rules.is_routed b (kept_state t) ≡ true

-- the extents of two blocks have no byte in common
abbrev pub AreApartIn : LayerModel → Memory → (b c : Block) → Type 0
AreApartIn t m = AreApart t.rules (state_of t m)

-- ---- what a call leaves as it was

-- no byte from one place up to another changes
pub record KeepsBytes (old new : List ℕ) (from upto : ℕ) : Type 0 where
  pub at : (i : ℕ) → from ≤ i → i < upto → get_or new i 0 ≡ get_or old i 0

-- a cell that is taken, and with no tag of this layer's leaves, keeps its bytes
pub record ForeignKept (e : Rules) (old new : Memory) : Type 0 where
  pub at : (i : ℕ) → get_or old.cells.tags (i / cell_size) 0 ≢ 0 → (IsLeaf e (get_or old.cells.tags (i / cell_size) 0) → ⊥)
      → get_or new.bytes i 0 ≡ get_or old.bytes i 0

-- What every call leaves: the rules, the size of the Space and its count of leaves, the bytes of other layers; the image stands again.
pub record Frames (t t' : LayerModel) (m m' : Memory) : Type 0 where
  pub rules : t'.rules ≡ t.rules
  pub image : t'.rules.is_image t'.fields (state_of t' m') m'.bytes ≡ true
  pub memory : IsMemory m'
  pub size : length m'.bytes ≡ length m.bytes
  pub leaves : m'.leaves ≡ m.leaves
  pub foreign : ForeignKept t.rules m m'

-- a block keeps its bytes, and what is round it stays as its affixes wrote it
pub record Stays (t t' : LayerModel) (m m' : Memory) (b : Block) : Type 0 where
  pub bytes : KeepsBytes m.bytes m'.bytes b.place (end_of b)
  pub clean : IsCleanOf t m b → IsCleanOf t' m' b
  pub marked : IsMarkedOf t m b → IsMarkedOf t' m' b

-- ---- what each call does

-- the answer to setting up, by what opening gives
abbrev pub OpensAs : Opening → LayerModel → Memory → Memory → Result (Unit {0}) Refused → Type 0
OpensAs (Ok o) t' m m' (Ok done) = (state_of t' m' ≡ o.state) × (m'.cells ≡ o.cells)
OpensAs (Err node) t' m m' (Err refused) = (refused.node ≡ node) × (m'.cells ≡ m.cells)
OpensAs (Ok o) t' m m' (Err refused) = ⊥
OpensAs (Err node) t' m m' (Ok done) = ⊥

-- `set_up` with a need
pub record SetsUp (t t' : LayerModel) (m m' : Memory) (need : ℕ) (r : Result (Unit {0}) Refused) : Type 0 where
  pub frame : Frames t t' m m'
  pub opened : are_open t'.fields ≡ is_ok r
  pub answer : OpensAs (t.rules.set_up need m.cells) t' m m' r

-- `tear_down`
pub record TearsDown (t t' : LayerModel) (m m' : Memory) : Type 0 where
  pub frame : Frames t t' m m'
  pub shut : IsShut t'
  pub cells : m'.cells ≡ without_leaves t.rules m.cells

abbrev pub block_in : Option Placed → Option Block
block_in o = option_map (λ p. p.block) o

-- what the rule does with a request
abbrev pub allocated : LayerModel → Memory → ℕ → After (Option Placed)
allocated t m n = t.rules.allocate n (state_of t m) m.cells

-- `allocate` of n bytes
pub record Allocates (t t' : LayerModel) (m m' : Memory) (n : ℕ) (r : Option Block) : Type 0 where
  pub frame : Frames t t' m m'
  pub opened : are_open t'.fields ≡ are_open t.fields
  pub answer : r ≡ block_in (allocated t m n).answer
  pub state : state_of t' m' ≡ (allocated t m n).state
  pub cells : m'.cells ≡ (allocated t m n).cells
  pub others : (b : Block) → IsOutOf t m b → Stays t t' m m' b
  pub made : (b : Block) → r ≡ Some b → IsCleanOf t' m' b

-- what the rule does with a request at a multiple of a
abbrev pub aligned_allocated : LayerModel → Memory → (n a : ℕ) → After (Option Placed)
aligned_allocated t m n a = t.rules.aligned_allocate n a (state_of t m) m.cells

-- `aligned_allocate` of n bytes at a multiple of a
pub record AlignedAllocates (t t' : LayerModel) (m m' : Memory) (n a : ℕ) (r : Option Block) : Type 0 where
  pub frame : Frames t t' m m'
  pub opened : are_open t'.fields ≡ are_open t.fields
  pub answer : r ≡ block_in (aligned_allocated t m n a).answer
  pub state : state_of t' m' ≡ (aligned_allocated t m n a).state
  pub cells : m'.cells ≡ (aligned_allocated t m n a).cells
  pub others : (b : Block) → IsOutOf t m b → Stays t t' m m' b
  pub made : (b : Block) → r ≡ Some b → IsCleanOf t' m' b

-- what the rule does with a block that is given back
abbrev pub deallocated : LayerModel → Memory → Block → After Bool
deallocated t m b = t.rules.deallocate b (state_of t m) m.cells

-- `deallocate` of the block
pub record Deallocates (t t' : LayerModel) (m m' : Memory) (b : Block) (r : Bool) : Type 0 where
  pub frame : Frames t t' m m'
  pub opened : are_open t'.fields ≡ are_open t.fields
  pub answer : r ≡ (deallocated t m b).answer
  pub state : state_of t' m' ≡ (deallocated t m b).state
  pub cells : m'.cells ≡ (deallocated t m b).cells
  pub others : (c : Block) → IsOutOf t m c → AreApartIn t m b c → Stays t t' m m' c

-- The first n bytes of a block stand at another one, and what is round this is as its affixes wrote it where that was so.
pub record Carries (t t' : LayerModel) (m m' : Memory) (b b' : Block) (n : ℕ) : Type 0 where
  pub bytes : (i : ℕ) → i < n → get_or m'.bytes (b'.place + i) 0 ≡ get_or m.bytes (b.place + i) 0
  pub clean : IsCleanOf t m b → IsCleanOf t' m' b'
  pub marked : IsMarkedOf t m b → IsMarkedOf t' m' b'

-- what the rule does with a block that is to grow
abbrev pub expanded : LayerModel → Memory → Block → (delta : ℕ) → After Bool
expanded t m b delta = t.rules.expand delta b (state_of t m) m.cells

-- `expand` of the block b by delta bytes; b' is what it is then
pub record Expands (t t' : LayerModel) (m m' : Memory) (b b' : Block) (delta : ℕ) (r : Bool) : Type 0 where
  pub frame : Frames t t' m m'
  pub opened : are_open t'.fields ≡ are_open t.fields
  pub answer : r ≡ (expanded t m b delta).answer
  pub block : b' ≡ longer_if r delta b
  pub state : state_of t' m' ≡ (expanded t m b delta).state
  pub cells : m'.cells ≡ (expanded t m b delta).cells
  pub carried : Carries t t' m m' b b' b.len
  pub others : (c : Block) → IsOutOf t m c → (r ≡ true → AreApartIn t m b c) → Stays t t' m m' c

-- what a rule does with a block that is to have n bytes: the layer's own, the general form, and a move alone
abbrev pub reallocated : LayerModel → Memory → Block → (n : ℕ) → After Reallocated
reallocated t m b n = t.rules.reallocate n b (state_of t m) m.cells

abbrev pub reallocated_generally : LayerModel → Memory → Block → (n : ℕ) → After Reallocated
reallocated_generally t m b n =
    asked_to_reallocate n t.rules.deallocate (general_reallocate n t.rules.offers t.rules.expand (t.rules.allocate n) t.rules.deallocate) b (state_of t m) m.cells

abbrev pub moved : LayerModel → Memory → Block → (n : ℕ) → After Reallocated
moved t m b n = move_to (t.rules.allocate n) t.rules.deallocate b (state_of t m) m.cells

-- whether it was done, and the block then: where it is now, no block, or as it was
abbrev pub is_done : Reallocated → Bool
is_done (moved_to c) = true
is_done emptied = true
is_done unmoved = false

abbrev pub block_after : Block → Reallocated → Block
block_after b (moved_to c) = c
block_after b emptied = no_block
block_after b unmoved = b

-- A reallocation of the block b, by what a rule does; b' is what it is then. As many bytes are kept as both lengths have.
pub record ReallocatesBy (rule : After Reallocated) (t t' : LayerModel) (m m' : Memory) (b b' : Block) (r : Bool) : Type 0 where
  pub frame : Frames t t' m m'
  pub opened : are_open t'.fields ≡ are_open t.fields
  pub answer : r ≡ is_done rule.answer
  pub block : b' ≡ block_after b rule.answer
  pub state : state_of t' m' ≡ rule.state
  pub cells : m'.cells ≡ rule.cells
  pub carried : 1 ≤ b'.len → Carries t t' m m' b b' (min b.len b'.len)
  pub others : (c : Block) → IsOutOf t m c → (r ≡ true → AreApartIn t m b c) → Stays t t' m m' c

-- `reallocate` to n bytes
abbrev pub Reallocates : (t t' : LayerModel) (m m' : Memory) (b b' : Block) (n : ℕ) (r : Bool) → Type 0
Reallocates t t' m m' b b' n r = ReallocatesBy (reallocated t m b n) t t' m m' b b' r

-- the same by the general form, and by a move
abbrev pub ReallocatesGenerally : (t t' : LayerModel) (m m' : Memory) (b b' : Block) (n : ℕ) (r : Bool) → Type 0
ReallocatesGenerally t t' m m' b b' n r = ReallocatesBy (reallocated_generally t m b n) t t' m m' b b' r

abbrev pub MovesBlock : (t t' : LayerModel) (m m' : Memory) (b b' : Block) (n : ℕ) (r : Bool) → Type 0
MovesBlock t t' m m' b b' n r = ReallocatesBy (moved t m b n) t t' m m' b b' r

-- what the rule leaves of all blocks
abbrev pub all_deallocated : LayerModel → Memory → Opened
all_deallocated t m = t.rules.deallocate_all (state_of t m) m.cells

-- `deallocate_all`
pub record DeallocatesAll (t t' : LayerModel) (m m' : Memory) : Type 0 where
  pub frame : Frames t t' m m'
  pub opened : are_open t'.fields ≡ are_open t.fields
  pub state : state_of t' m' ≡ (all_deallocated t m).state
  pub cells : m'.cells ≡ (all_deallocated t m).cells

-- `owns` of the block. It is given no Space, so this is said whatever the bytes are, and of the image wherever the layer stands.
pub record Owns (t t' : LayerModel) (b : Block) (r : Bool) : Type 0 where
  pub rules : t'.rules ≡ t.rules
  pub opened : are_open t'.fields ≡ are_open t.fields
  pub answer : r ≡ (t.rules.owns b (kept_state t)).owned
  pub state : (bytes : List ℕ) → t'.rules.read t'.fields bytes ≡ (t.rules.owns b (t.rules.read t.fields bytes)).state
  pub image : (m : Memory) → Stands t m → t'.rules.is_image t'.fields (state_of t' m) m.bytes ≡ true

-- the numbers that a node keeps, counted as in the report
abbrev pub numbers_at : LayerModel → (node : ℕ) → List ℕ
numbers_at t node = get_or (t.rules.state_numbers t.fields) node []

abbrev pub IsNumberOf : LayerModel → (node k number : ℕ) → Type 0
IsNumberOf t node k number = slice_get (numbers_at t node) k ≡ Some number

-- what the report says of a node
abbrev pub IsFactOf : LayerModel → Memory → (node : ℕ) → Fact → Type 0
IsFactOf t m node said = slice_get (t.rules.facts (state_of t m) m.cells) node ≡ Some said
