-- Standing: what callers may rest on, whatever the form of a layer. Each law is the clause of a function.
use Rattle.std.specs.Prelude.{ℕ, ◌≡◌, ◌≤◌, ◌<◌, ◌/◌, ◌%◌, ◌⊎◌, Bool, true, false, List, length, get_or, Option, Some, Result}
use Rattle.size_round.specs.Sizes.{is_power_of_two}
use Rattle.space_core.specs.Cells.{cell_size}
use Rattle.space_core.specs.Memory.{Memory, IsMemory}
use Rattle.layer_rules.specs.declared.Block.{Block}
use Rattle.layer_rules.specs.declared.Refused.{Refused}
use Rattle.layer_rules.specs.Blocks.{end_of, lies_in, is_apart}
use Rattle.layer_rules.specs.Rules.{Rules, IsLeaf, IsBeside, HasDistinctTags, HasMadeTags, HasNoCells, owns_along}
use Rattle.layer_rules.specs.State.{is_open}
use Rattle.layer_rules.specs.After.{Placed}
use Rattle.layer_rules.specs.Fields.{are_open}
use Rattle.layer_rules.specs.Steady.{steady}
use Rattle.layer_rules.specs.Layering.{LayerModel, Expands, DeallocatesAll, AlignedAllocates, Reallocates, Owns, state_of, Stands, IsSetUp, IsShut, IsOutOf, IsCleanOf, IsMarkedOf, AreApartIn, ForeignKept, IsRoutedIn, SetsUp, TearsDown, Allocates, Deallocates, allocated, aligned_allocated}
use Rattle.layer_laws.specs.Lawful.{IsMade, IsInOwnCells, AnswersRoute, ChangesInside, IsSameOrApart, IsFreeOrOwn, Same, most_layers}

-- the bytes that a block takes up in its Space
abbrev pub extent_of : LayerModel → Memory → Block → Block
extent_of t m b = t.rules.extent b (state_of t m)

-- the way to the layer that serves a block
abbrev pub route_of : LayerModel → Memory → Block → List ℕ
route_of t m b = t.rules.route b (state_of t m)

-- ---- a block is served

-- The new block has the length that was asked, is out, and has no byte in common with any block that was out.
pub record IsNewBlock (t t' : LayerModel) (m m' : Memory) (n : ℕ) (b : Block) : Type 0 where
  pub len : b.len ≡ n
  pub out : IsOutOf t' m' b
  pub fresh : (c : Block) → IsOutOf t m c → AreApartIn t' m' b c

abbrev pub AllocateStands : Type 0
AllocateStands = (t t' : LayerModel) (m m' : Memory) (n : ℕ) (r : Option Block) → IsMade t.rules → Stands t m → IsSetUp t → Allocates t t' m m' n r → Stands t' m'

abbrev pub AllocateGives : Type 0
AllocateGives =
    (t t' : LayerModel) (m m' : Memory) (n : ℕ) (b : Block) → IsMade t.rules → Stands t m → IsSetUp t → Allocates t t' m m' n (Some b) → IsNewBlock t t' m m' n b

abbrev pub AllocateKeepsOut : Type 0
AllocateKeepsOut =
    (t t' : LayerModel) (m m' : Memory) (n : ℕ) (r : Option Block) → IsMade t.rules → Stands t m → IsSetUp t → Allocates t t' m m' n r
    → (c : Block) → IsOutOf t m c → IsOutOf t' m' c

abbrev pub AllocateKeepsExtents : Type 0
AllocateKeepsExtents =
    (t t' : LayerModel) (m m' : Memory) (n : ℕ) (r : Option Block) → IsMade t.rules → Stands t m → IsSetUp t → Allocates t t' m m' n r
    → (c : Block) → IsOutOf t m c → extent_of t' m' c ≡ extent_of t m c

abbrev pub AllocateKeepsRoutes : Type 0
AllocateKeepsRoutes =
    (t t' : LayerModel) (m m' : Memory) (n : ℕ) (r : Option Block) → IsMade t.rules → Stands t m → IsSetUp t → Allocates t t' m m' n r
    → (c : Block) → IsOutOf t m c → route_of t' m' c ≡ route_of t m c

-- the route of a new block is the one that served it
abbrev pub AllocateFinds : Type 0
AllocateFinds =
    (t t' : LayerModel) (m m' : Memory) (n : ℕ) (r : Option Block) → IsMade t.rules → Stands t m → IsSetUp t → Allocates t t' m m' n r
    → (p : Placed) → (allocated t m n).answer ≡ Some p → route_of t' m' p.block ≡ p.route

-- ---- a block that is out is given back

abbrev pub DeallocateStands : Type 0
DeallocateStands =
    (t t' : LayerModel) (m m' : Memory) (b : Block) (r : Bool) → IsMade t.rules → Stands t m → IsOutOf t m b → Deallocates t t' m m' b r → Stands t' m'

-- a block that was out, and is apart from the one that was given back, is out still
abbrev pub DeallocateKeepsOut : Type 0
DeallocateKeepsOut =
    (t t' : LayerModel) (m m' : Memory) (b : Block) (r : Bool) → IsMade t.rules → Stands t m → IsOutOf t m b → Deallocates t t' m m' b r
    → (c : Block) → IsOutOf t m c → AreApartIn t m b c → IsOutOf t' m' c

abbrev pub DeallocateKeepsExtents : Type 0
DeallocateKeepsExtents =
    (t t' : LayerModel) (m m' : Memory) (b : Block) (r : Bool) → IsMade t.rules → Stands t m → IsOutOf t m b → Deallocates t t' m m' b r
    → (c : Block) → IsOutOf t m c → AreApartIn t m b c → extent_of t' m' c ≡ extent_of t m c

abbrev pub DeallocateKeepsRoutes : Type 0
DeallocateKeepsRoutes =
    (t t' : LayerModel) (m m' : Memory) (b : Block) (r : Bool) → IsMade t.rules → Stands t m → IsOutOf t m b → Deallocates t t' m m' b r
    → (c : Block) → IsOutOf t m c → AreApartIn t m b c → route_of t' m' c ≡ route_of t m c

-- ---- a holder writes into a block that is out

-- What a write changes: bytes of the block, and nothing else in the Space.
pub record Writes (b : Block) (m m' : Memory) : Type 0 where
  pub cells : m'.cells ≡ m.cells
  pub leaves : m'.leaves ≡ m.leaves
  pub bytes : ChangesInside b m.bytes m'.bytes

-- What a write leaves: the layer stands, its state is as before, who is out stays out, and what stands round the block itself, and
-- round each block that is apart from it, stays.
pub record WriteKeeps (t : LayerModel) (m m' : Memory) (b : Block) : Type 0 where
  pub stands : Stands t m'
  pub state : state_of t m' ≡ state_of t m
  pub out : (c : Block) → IsOutOf t m c → IsOutOf t m' c
  pub clean : (c : Block) → IsOutOf t m c → IsSameOrApart t.rules (state_of t m) b c → IsCleanOf t m c → IsCleanOf t m' c
  pub marked : (c : Block) → IsOutOf t m c → IsSameOrApart t.rules (state_of t m) b c → IsMarkedOf t m c → IsMarkedOf t m' c

abbrev pub WriteLeaves : Type 0
WriteLeaves = (t : LayerModel) (m m' : Memory) (b : Block) → IsMade t.rules → Stands t m → IsOutOf t m b → Writes b m m' → WriteKeeps t m m' b

-- ---- where a block lies

-- A block that is out lies in its extent. That has a byte, and lies in cells of the layer's leaves, so in the Space.
pub record IsPlacedIn (t : LayerModel) (m : Memory) (b : Block) : Type 0 where
  pub some : (extent_of t m b).place < end_of (extent_of t m b)
  pub inside : lies_in b (extent_of t m b) ≡ true
  pub own : (i : ℕ) → (extent_of t m b).place ≤ i → i < end_of (extent_of t m b) → IsLeaf t.rules (get_or m.cells.tags (i / cell_size) 0)
  pub room : end_of (extent_of t m b) ≤ length m.bytes

abbrev pub OutIsPlaced : Type 0
OutIsPlaced = (t : LayerModel) (m : Memory) (b : Block) → IsMade t.rules → Stands t m → IsOutOf t m b → IsPlacedIn t m b

abbrev pub OutIsInSpace : Type 0
OutIsInSpace = (t : LayerModel) (m : Memory) (b : Block) → IsMade t.rules → Stands t m → IsOutOf t m b → end_of b ≤ length m.bytes

-- two blocks whose extents are apart have no byte in common
abbrev pub ApartShareNoByte : Type 0
ApartShareNoByte = (t : LayerModel) (m : Memory) (b c : Block) → IsMade t.rules → Stands t m → IsOutOf t m b → IsOutOf t m c → AreApartIn t m b c → is_apart b c ≡ true

-- each layer on the way of a block that is out can name the block
abbrev pub OutIsRouted : Type 0
OutIsRouted = (t : LayerModel) (m : Memory) (b : Block) → IsMade t.rules → Stands t m → IsOutOf t m b → IsRoutedIn t b

-- and there are at most eight of them
abbrev pub RouteIsShort : Type 0
RouteIsShort = (t : LayerModel) (m : Memory) (b : Block) → IsMade t.rules → length (route_of t m b) ≤ most_layers

-- its place is a multiple of the layer's alignment
abbrev pub OutIsAligned : Type 0
OutIsAligned = (t : LayerModel) (m : Memory) (b : Block) → IsMade t.rules → Stands t m → IsOutOf t m b → b.place % t.rules.alignment ≡ 0

-- a layer is open exactly where its fields say that it was set up
abbrev pub OpenAsFields : Type 0
OpenAsFields = (t : LayerModel) (m : Memory) → IsMade t.rules → is_open (state_of t m) ≡ are_open t.fields

-- and only an open one has blocks out
abbrev pub OutIsSetUp : Type 0
OutIsSetUp = (t : LayerModel) (m : Memory) (b : Block) → IsMade t.rules → Stands t m → IsOutOf t m b → IsSetUp t

-- ---- whose a block is

-- where owns is offered, a block that is out is held
abbrev pub OutIsHeld : Type 0
OutIsHeld = (t : LayerModel) (m : Memory) (b : Block) → IsMade t.rules → Stands t m → t.rules.offers.owns ≡ true → IsOutOf t m b → t.rules.holds b (state_of t m) ≡ true

-- a block that is held lies in cells of the layer's leaves
abbrev pub HeldIsOwn : Type 0
HeldIsOwn = (t : LayerModel) (m : Memory) (b : Block) → IsMade t.rules → Stands t m → t.rules.holds b (state_of t m) ≡ true → IsInOwnCells t.rules b m.cells

-- so no two layers with other leaves hold one block
abbrev pub OthersHoldNone : Type 0
OthersHoldNone =
    (t u : LayerModel) (m : Memory) (b : Block) → IsMade t.rules → Stands t m → IsMade u.rules → Stands u m → IsBeside t.rules u.rules
    → t.rules.holds b (state_of t m) ≡ true → u.rules.holds b (state_of u m) ≡ true → ⊥

-- Along a path to a layer that tells what it owns, the answer for a block that is out is yes where the path begins the block's route,
-- and no where it doesn't.
abbrev pub PathsAnswerRoutes : Type 0
PathsAnswerRoutes =
    (t : LayerModel) (m : Memory) (path : List ℕ) (b : Block) → IsMade t.rules → Stands t m → IsOutOf t m b
    → AnswersRoute path (route_of t m b) (owns_along t.rules path b (state_of t m))

-- ---- closed layers

-- A closed layer stands exactly where no cell has a tag of its leaves.
abbrev pub ShutHasNoCells : Type 0
ShutHasNoCells = (t : LayerModel) (m : Memory) → IsMade t.rules → Stands t m → IsShut t → HasNoCells t.rules m.cells

abbrev pub ShutStands : Type 0
ShutStands =
    (t : LayerModel) (m : Memory) → IsMade t.rules → IsMemory m → HasDistinctTags t.rules → HasMadeTags m.leaves t.rules → IsShut t → HasNoCells t.rules m.cells → Stands t m

-- ---- setting up and tearing down

-- A closed layer that is set up stands, open, or closed still where it was refused.
abbrev pub SetUpStands : Type 0
SetUpStands =
    (t t' : LayerModel) (m m' : Memory) (need : ℕ) (r : Result (Unit {0}) Refused) → IsMade t.rules → Stands t m → IsShut t → SetsUp t t' m m' need r → Stands t' m'

abbrev pub TearDownStands : Type 0
TearDownStands = (t t' : LayerModel) (m m' : Memory) → IsMade t.rules → Stands t m → TearsDown t t' m m' → Stands t' m'

-- ---- layers side by side

-- what the calls of one layer change at most: free cells and its own, and the bytes of such cells
pub record ChangesOwn (e : Rules) (m m' : Memory) : Type 0 where
  pub memory : IsMemory m'
  pub size : length m'.bytes ≡ length m.bytes
  pub leaves : m'.leaves ≡ m.leaves
  pub cells : (c : ℕ) → (get_or m'.cells.tags c 0 ≡ get_or m.cells.tags c 0)
      ⊎ (IsFreeOrOwn e (get_or m.cells.tags c 0) × IsFreeOrOwn e (get_or m'.cells.tags c 0))
  pub foreign : ForeignKept e m m'

-- ---- a block grows

-- The layer stands again; the block with the length that it has then is out, and apart from all that it was apart from.
-- It keeps its route. Blocks that are out stay out with their extents and routes, where it grew those that are apart from it.
pub record ExpandKeeps (t t' : LayerModel) (m m' : Memory) (b b' : Block) (r : Bool) : Type 0 where
  pub stands : Stands t' m'
  pub gives : IsOutOf t' m' b'
  pub found : route_of t' m' b' ≡ route_of t m b
  pub apart : (c : Block) → IsOutOf t m c → AreApartIn t m b c → AreApartIn t' m' b' c
  pub out : (c : Block) → IsOutOf t m c → (r ≡ true → AreApartIn t m b c) → IsOutOf t' m' c
  pub extents : (c : Block) → IsOutOf t m c → (r ≡ true → AreApartIn t m b c) → extent_of t' m' c ≡ extent_of t m c
  pub routes : (c : Block) → IsOutOf t m c → (r ≡ true → AreApartIn t m b c) → route_of t' m' c ≡ route_of t m c
  pub changes_own : ChangesOwn t.rules m m'

abbrev pub ExpandLeaves : Type 0
ExpandLeaves =
    (t t' : LayerModel) (m m' : Memory) (b b' : Block) (delta : ℕ) (r : Bool) → IsMade t.rules → Stands t m → IsOutOf t m b → Expands t t' m m' b b' delta r
    → ExpandKeeps t t' m m' b b' r

-- A refused expansion changes nothing but statistics.
abbrev pub RefusedExpandChangesNone : Type 0
RefusedExpandChangesNone =
    (t t' : LayerModel) (m m' : Memory) (b b' : Block) (delta : ℕ) → IsMade t.rules → Expands t t' m m' b b' delta false
    → (b' ≡ b) × Same (state_of t m) m.cells (state_of t' m') m'.cells

-- ---- a block is served at a multiple of what is asked

-- The layer stands again; the new block is as one of `allocate`, on the route that served it, and at a multiple of a. Blocks that are out stay out, with their
-- extents and routes.
pub record AlignedAllocateKeeps (t t' : LayerModel) (m m' : Memory) (n a : ℕ) (r : Option Block) : Type 0 where
  pub stands : Stands t' m'
  pub gives : (b : Block) → r ≡ Some b → IsNewBlock t t' m m' n b × (b.place % a ≡ 0)
  pub found : (p : Placed) → (aligned_allocated t m n a).answer ≡ Some p → route_of t' m' p.block ≡ p.route
  pub out : (c : Block) → IsOutOf t m c → IsOutOf t' m' c
  pub extents : (c : Block) → IsOutOf t m c → extent_of t' m' c ≡ extent_of t m c
  pub routes : (c : Block) → IsOutOf t m c → route_of t' m' c ≡ route_of t m c
  pub changes_own : ChangesOwn t.rules m m'

abbrev pub AlignedAllocateLeaves : Type 0
AlignedAllocateLeaves =
    (t t' : LayerModel) (m m' : Memory) (n a : ℕ) (r : Option Block) → IsMade t.rules → Stands t m → IsSetUp t → is_power_of_two a ≡ true → a ≤ 4096
    → AlignedAllocates t t' m m' n a r → AlignedAllocateKeeps t t' m m' n a r

-- ---- a block gets another length, here or elsewhere

-- The layer stands again. Where there is a block then, it is out, and apart from all that the old one was apart from; where this was done,
-- it has the new length, and it stands where the old one stood or takes up no byte that this took up. Blocks that are out stay out with
-- their extents and routes, where it was done those that are apart from the old block.
pub record ReallocateKeeps (t t' : LayerModel) (m m' : Memory) (b b' : Block) (n : ℕ) (r : Bool) : Type 0 where
  pub stands : Stands t' m'
  pub len : r ≡ true → b'.len ≡ n
  pub gives : 1 ≤ b'.len → IsOutOf t' m' b'
  pub apart : 1 ≤ b'.len → (c : Block) → IsOutOf t m c → AreApartIn t m b c → AreApartIn t' m' b' c
  pub place : 1 ≤ b'.len → (b'.place ≡ b.place) ⊎ (is_apart (extent_of t' m' b') (extent_of t m b) ≡ true)
  pub out : (c : Block) → IsOutOf t m c → (r ≡ true → AreApartIn t m b c) → IsOutOf t' m' c
  pub extents : (c : Block) → IsOutOf t m c → (r ≡ true → AreApartIn t m b c) → extent_of t' m' c ≡ extent_of t m c
  pub routes : (c : Block) → IsOutOf t m c → (r ≡ true → AreApartIn t m b c) → route_of t' m' c ≡ route_of t m c
  pub changes_own : ChangesOwn t.rules m m'

abbrev pub ReallocateLeaves : Type 0
ReallocateLeaves =
    (t t' : LayerModel) (m m' : Memory) (b b' : Block) (n : ℕ) (r : Bool) → IsMade t.rules → Stands t m → IsOutOf t m b → Reallocates t t' m m' b b' n r
    → ReallocateKeeps t t' m m' b b' n r

-- A refused reallocation changes nothing but statistics.
abbrev pub RefusedReallocateChangesNone : Type 0
RefusedReallocateChangesNone =
    (t t' : LayerModel) (m m' : Memory) (b b' : Block) (n : ℕ) → IsMade t.rules → Reallocates t t' m m' b b' n false
    → (b' ≡ b) × Same (state_of t m) m.cells (state_of t' m') m'.cells

-- ---- a layer is asked whether it owns a block

-- It stands again; who is out stays out, with extents, routes and what is round them; statistics and orders of use alone change.
pub record OwnsKeeps (t t' : LayerModel) (m : Memory) : Type 0 where
  pub stands : Stands t' m
  pub steady : steady (state_of t' m) ≡ steady (state_of t m)
  pub out : (c : Block) → IsOutOf t m c → IsOutOf t' m c
  pub extents : (c : Block) → extent_of t' m c ≡ extent_of t m c
  pub routes : (c : Block) → IsOutOf t m c → route_of t' m c ≡ route_of t m c
  pub clean : (c : Block) → IsCleanOf t m c → IsCleanOf t' m c
  pub marked : (c : Block) → IsMarkedOf t m c → IsMarkedOf t' m c

abbrev pub OwnsLeaves : Type 0
OwnsLeaves = (t t' : LayerModel) (m : Memory) (b : Block) (r : Bool) → IsMade t.rules → Stands t m → Owns t t' b r → OwnsKeeps t t' m

-- ---- all blocks are given back

pub record DeallocateAllKeeps (t t' : LayerModel) (m m' : Memory) : Type 0 where
  pub stands : Stands t' m'
  pub none : (b : Block) → IsOutOf t' m' b → ⊥
  pub changes_own : ChangesOwn t.rules m m'

abbrev pub DeallocateAllLeaves : Type 0
DeallocateAllLeaves =
    (t t' : LayerModel) (m m' : Memory) → IsMade t.rules → Stands t m → IsSetUp t → DeallocatesAll t t' m m' → DeallocateAllKeeps t t' m m'

-- ---- what each call changes

abbrev pub AllocateChangesOwn : Type 0
AllocateChangesOwn =
    (t t' : LayerModel) (m m' : Memory) (n : ℕ) (r : Option Block) → IsMade t.rules → Stands t m → IsSetUp t → Allocates t t' m m' n r → ChangesOwn t.rules m m'

abbrev pub DeallocateChangesOwn : Type 0
DeallocateChangesOwn =
    (t t' : LayerModel) (m m' : Memory) (b : Block) (r : Bool) → IsMade t.rules → Stands t m → IsOutOf t m b → Deallocates t t' m m' b r → ChangesOwn t.rules m m'

abbrev pub SetUpChangesOwn : Type 0
SetUpChangesOwn =
    (t t' : LayerModel) (m m' : Memory) (need : ℕ) (r : Result (Unit {0}) Refused) → IsMade t.rules → Stands t m → IsShut t → SetsUp t t' m m' need r
    → ChangesOwn t.rules m m'

abbrev pub TearDownChangesOwn : Type 0
TearDownChangesOwn = (t t' : LayerModel) (m m' : Memory) → Stands t m → TearsDown t t' m m' → ChangesOwn t.rules m m'

abbrev pub WriteChangesOwn : Type 0
WriteChangesOwn =
    (t : LayerModel) (m m' : Memory) (b : Block) → IsMade t.rules → Stands t m → IsOutOf t m b → Writes b m m' → ChangesOwn t.rules m m'

-- Two such changes in turn are one.
abbrev pub ChangesInTurn : Type 0
ChangesInTurn =
    (e : Rules) (m m' m'' : Memory) → ChangesOwn e m m' → ChangesOwn e m' m'' → ChangesOwn e m m''

-- A member's change is one of its group.
abbrev pub MemberChangesOwn : Type 0
MemberChangesOwn = (e f : Rules) (m m' : Memory) → ((t : ℕ) → IsLeaf e t → IsLeaf f t) → ChangesOwn e m m' → ChangesOwn f m m'

-- A layer with other leaves does not notice: it stands, its state is the same, its blocks are out, and what is round them stays.
abbrev pub OthersStand : Type 0
OthersStand = (e : Rules) (u : LayerModel) (m m' : Memory) → IsMade u.rules → Stands u m → IsBeside e u.rules → ChangesOwn e m m' → Stands u m'

abbrev pub OthersKeepState : Type 0
OthersKeepState =
    (e : Rules) (u : LayerModel) (m m' : Memory) → IsMade u.rules → Stands u m → IsBeside e u.rules → ChangesOwn e m m' → state_of u m' ≡ state_of u m

abbrev pub OthersKeepOut : Type 0
OthersKeepOut =
    (e : Rules) (u : LayerModel) (m m' : Memory) → IsMade u.rules → Stands u m → IsBeside e u.rules → ChangesOwn e m m'
    → (b : Block) → IsOutOf u m b → IsOutOf u m' b

abbrev pub OthersKeepBytes : Type 0
OthersKeepBytes =
    (e : Rules) (u : LayerModel) (m m' : Memory) → IsMade u.rules → Stands u m → IsBeside e u.rules → ChangesOwn e m m'
    → (b : Block) → IsOutOf u m b → (i : ℕ) → b.place ≤ i → i < end_of b → get_or m'.bytes i 0 ≡ get_or m.bytes i 0

abbrev pub OthersKeepClean : Type 0
OthersKeepClean =
    (e : Rules) (u : LayerModel) (m m' : Memory) → IsMade u.rules → Stands u m → IsBeside e u.rules → ChangesOwn e m m'
    → (b : Block) → IsOutOf u m b → IsCleanOf u m b → IsCleanOf u m' b

abbrev pub OthersKeepMarked : Type 0
OthersKeepMarked =
    (e : Rules) (u : LayerModel) (m m' : Memory) → IsMade u.rules → Stands u m → IsBeside e u.rules → ChangesOwn e m m'
    → (b : Block) → IsOutOf u m b → IsMarkedOf u m b → IsMarkedOf u m' b
