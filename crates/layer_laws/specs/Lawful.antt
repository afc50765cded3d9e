-- Lawful: what is to be proved of the rules of a form, in families, and what holds of every layer that is made.
-- A form shows each family from those of its parents, a new law joins one family, and who rests on laws names the family.
use Rattle.std.specs.Prelude.{ℕ, ◌≡◌, ◌≤◌, ◌<◌, ◌/◌, ◌⊎◌, ◌||◌, Bool, true, false, List, length, get_or, Option, Some, None, Ok, Err, is_none, nat_eq}
use Rattle.std.specs.List.{starts_with}
use Rattle.size_round.specs.Sizes.{limit}
use Rattle.size_round.specs.SizeMeanings.{IsPower, IsMultiple}
use Rattle.space_core.specs.Cells.{Cells}
use Rattle.space_core.specs.Memory.{most_cells}
use Rattle.layer_rules.specs.declared.Asked.{Asked}
use Rattle.layer_rules.specs.declared.Asked.TheVariants.{Yes, No}
use Rattle.layer_rules.specs.declared.Block.{Block}
use Rattle.layer_rules.specs.Blocks.{end_of, is_apart}
use Rattle.layer_rules.specs.Fields.{Fields, are_open, closed_fields}
use Rattle.layer_rules.specs.State.{State, closed, is_open, uncounted}
use Rattle.layer_rules.specs.Steady.{steady}
use Rattle.layer_rules.specs.Unread.{unread}
use Rattle.layer_rules.specs.After.{After, after, Placed, Serve, Opened, Change, Reallocated, moved_to, emptied, unmoved, Reallocate}
use Rattle.layer_rules.specs.Layering.{is_done}
use Rattle.layer_rules.specs.Offering.{full_alignment, is_served_size}
use Rattle.layer_rules.specs.Rules.{Rules, IsLeaf, IsSettled, AreApart, longer_if, owns_along, HasDistinctTags, HasSomeTags}
use Rattle.layer_rules.specs.Testing.{has_no_cells}

-- ==== families that every form has

-- ---- telling: good sizes and alignments

-- a power of two from 1 to the greatest alignment that there is
pub record IsAlignment (a : ℕ) : Type 0 where
  pub power : IsPower a
  pub some : 1 ≤ a
  pub most : a ≤ full_alignment

-- A good size is enough, and is the size itself where no layer serves that. The alignment is a power of two. No route is longer than the
-- layer is deep.
pub record TellingLaws (e : Rules) : Type 0 where
  pub enough : (n : ℕ) → n ≤ e.good_alloc_size n
  pub of_nothing : e.good_alloc_size 0 ≡ 0
  pub above_limit : (n : ℕ) → limit < n → e.good_alloc_size n ≡ n
  pub aligned : IsAlignment e.alignment
  -- each node has its fact, and its row of numbers
  pub facts_count : (s : State) (cells : Cells) → length (e.facts s cells) ≡ e.nodes
  pub numbers_count : (fs : Fields) → length (e.state_numbers fs) ≡ e.nodes
  pub route_depth : (b : Block) (s : State) → length (e.route b s) ≤ e.depth

-- ---- reading: what is told of a block is read of the fields alone

-- The state is open exactly where the fields are, and what is read of the Space's bytes changes nothing that is told of a block.
pub record ReadingLaws (e : Rules) : Type 0 where
  pub opens_as_fields : (fs : Fields) (bytes : List ℕ) → is_open (e.read fs bytes) ≡ are_open fs
  pub read : (fs : Fields) (x y : List ℕ) → unread (e.read fs x) ≡ unread (e.read fs y)
  pub holds : (b : Block) (s : State) → e.holds b (unread s) ≡ e.holds b s
  pub route : (b : Block) (s : State) → e.route b (unread s) ≡ e.route b s
  pub routed : (b : Block) (s : State) → e.is_routed b (unread s) ≡ e.is_routed b s
  pub extent : (b : Block) (s : State) → e.extent b (unread s) ≡ e.extent b s
  pub owns_at : (path : List ℕ) (possible : Bool) (b : Block) (s : State) → e.owns_at path possible b (unread s) ≡ e.owns_at path possible b s
  pub owned : (b : Block) (s : State) → (e.owns b (unread s)).owned ≡ (e.owns b s).owned
  pub owns : (b : Block) (s : State) → unread (e.owns b s).state ≡ (e.owns b (unread s)).state

-- ---- refusing: what a refused call leaves, and when a request is refused

-- the new state and table are the old ones, but for statistics
abbrev pub Same : (old : State) (old_cells : Cells) (new : State) (new_cells : Cells) → Type 0
Same old old_cells new new_cells = (new_cells ≡ old_cells) × (uncounted new ≡ uncounted old)

-- where a request is answered with no block, a call on a block with false, and a reallocation is refused
abbrev pub KeptOnNone : State → Cells → After (Option Placed) → Type 0
KeptOnNone s cells r = r.answer ≡ None → Same s cells r.state r.cells

abbrev pub KeptOnFalse : State → Cells → After Bool → Type 0
KeptOnFalse s cells r = r.answer ≡ false → Same s cells r.state r.cells

abbrev pub KeptUnmoved : State → Cells → After Reallocated → Type 0
KeptUnmoved s cells r = r.answer ≡ unmoved → Same s cells r.state r.cells

-- so from any state
abbrev pub KeepsOnNone : Serve → Type 0
KeepsOnNone serve = (s : State) (cells : Cells) → KeptOnNone s cells (serve s cells)

abbrev pub KeepsOnFalse : Change → Type 0
KeepsOnFalse change = (b : Block) (s : State) (cells : Cells) → KeptOnFalse s cells (change b s cells)

abbrev pub KeepsUnmoved : Reallocate → Type 0
KeepsUnmoved move = (b : Block) (s : State) (cells : Cells) → KeptUnmoved s cells (move b s cells)

-- A refused call changes statistics alone. A request is answered with no block exactly where it asks 0 bytes or the layer refuses it;
-- the first needs of the state that tails which are served from are free, as they are between calls. Refusing goes by no statistics.
pub record RefusingLaws (e : Rules) : Type 0 where
  pub allocate : (n : ℕ) → KeepsOnNone (e.allocate n)
  pub aligned_allocate : (n a : ℕ) → KeepsOnNone (e.aligned_allocate n a)
  pub expand : (delta : ℕ) → KeepsOnFalse (e.expand delta)
  pub reallocate : (n : ℕ) → KeepsUnmoved (e.reallocate n)
  pub none : (n : ℕ) (s : State) (cells : Cells) → e.has_free_tails s ≡ true → is_none (e.allocate n s cells).answer ≡ (nat_eq n 0 || e.refuses n s cells)
  pub none_aligned : (n a : ℕ) (s : State) (cells : Cells) → is_none (e.aligned_allocate n a s cells).answer ≡ (nat_eq n 0 || e.refuses_aligned n a s cells)
  pub free_tails : (s : State) (cells : Cells) → IsSettled e s cells → e.has_free_tails s ≡ true
  pub refuses_uncounted : (n : ℕ) (s t : State) (cells : Cells) → uncounted s ≡ uncounted t → e.refuses n s cells ≡ e.refuses n t cells
  pub refuses_aligned_uncounted : (n a : ℕ) (s t : State) (cells : Cells) → uncounted s ≡ uncounted t → e.refuses_aligned n a s cells ≡ e.refuses_aligned n a t cells
  pub free_tails_uncounted : (s t : State) → uncounted s ≡ uncounted t → e.has_free_tails s ≡ e.has_free_tails t

-- ---- tails that are served from are free in a closed layer and in one that was set up, and stay free as it serves
pub record TailLaws (e : Rules) : Type 0 where
  pub shut : e.has_free_tails closed ≡ true
  pub allocate : (n : ℕ) (s : State) (cells : Cells) → e.has_free_tails s ≡ true → e.has_free_tails (e.allocate n s cells).state ≡ true
  pub set_up : (need : ℕ) (cells : Cells) (o : Opened) → e.set_up need cells ≡ Ok o → e.has_free_tails o.state ≡ true

-- ---- staying open: a closed layer stays closed and an open one open, and what is set up is open
pub record OpennessLaws (e : Rules) : Type 0 where
  pub allocate : (n : ℕ) (s : State) (cells : Cells) → is_open (e.allocate n s cells).state ≡ is_open s
  pub aligned_allocate : (n a : ℕ) (s : State) (cells : Cells) → is_open (e.aligned_allocate n a s cells).state ≡ is_open s
  pub expand : (delta : ℕ) (b : Block) (s : State) (cells : Cells) → is_open (e.expand delta b s cells).state ≡ is_open s
  pub reallocate : (n : ℕ) (b : Block) (s : State) (cells : Cells) → is_open (e.reallocate n b s cells).state ≡ is_open s
  pub deallocate : (b : Block) (s : State) (cells : Cells) → is_open (e.deallocate b s cells).state ≡ is_open s
  pub deallocate_all : (s : State) (cells : Cells) → is_open (e.deallocate_all s cells).state ≡ is_open s
  pub owns : (b : Block) (s : State) → is_open (e.owns b s).state ≡ is_open s
  pub set_up : (need : ℕ) (cells : Cells) (o : Opened) → e.set_up need cells ≡ Ok o → is_open o.state ≡ true

-- the answer, but a yes is a no where the test is false
abbrev pub yes_if : Bool → Asked → Asked
yes_if true answer = answer
yes_if false Yes = No
yes_if false answer = answer

-- ---- owning: `owns` answers what `holds` says, which goes by no statistics; only an open layer holds a block, and only one of a length
-- that is served. It changes orders of use and statistics alone, and on a no statistics alone. Where a layer on the way of a path can't have the block, all that changes of the answer is that a yes is a no,
-- and it goes by the path alone
pub record OwningLaws (e : Rules) : Type 0 where
  pub answer : (b : Block) (s : State) → (e.owns b s).owned ≡ e.holds b s
  pub rest : (b : Block) (s : State) → steady (e.owns b s).state ≡ steady s
  pub not_owned : (b : Block) (s : State) → (e.owns b s).owned ≡ false → uncounted (e.owns b s).state ≡ uncounted s
  pub open_holds : (b : Block) (s : State) → e.holds b s ≡ true → is_open s ≡ true
  pub held_size : (b : Block) (s : State) → e.holds b s ≡ true → is_served_size b.len ≡ true
  pub holds_uncounted : (b : Block) (s t : State) → uncounted s ≡ uncounted t → e.holds b s ≡ e.holds b t
  pub along : (path : List ℕ) (possible : Bool) (b : Block) (s : State) → e.owns_at path possible b s ≡ yes_if possible (owns_along e path b s)
  pub by_path : (path : List ℕ) (b c : Block) (s : State) → e.owns_at path false b s ≡ e.owns_at path false c s

-- ---- taking: a layer takes free cells for its own leaves, and changes no other, as it serves and as it is set up

-- a tag is as before, or it was 0 and is now that of a leaf
abbrev pub IsOwnTag : Rules → (old new : ℕ) → Type 0
IsOwnTag e old new = (new ≡ old) ⊎ ((old ≡ 0) × IsLeaf e new)

-- there are as many cells as before, and each has its tag still, or was free and now is one of the leaves'
pub record OnlyOwnCells (e : Rules) (old new : Cells) : Type 0 where
  pub count : length new.tags ≡ length old.tags
  pub each : (k : ℕ) → IsOwnTag e (get_or old.tags k 0) (get_or new.tags k 0)

-- and one that is refused to be set up names a node of it
pub record TakingLaws (e : Rules) : Type 0 where
  pub allocate : (n : ℕ) (s : State) (cells : Cells) → OnlyOwnCells e cells (e.allocate n s cells).cells
  pub aligned_allocate : (n a : ℕ) (s : State) (cells : Cells) → OnlyOwnCells e cells (e.aligned_allocate n a s cells).cells
  pub set_up : (need : ℕ) (cells : Cells) (o : Opened) → e.set_up need cells ≡ Ok o → OnlyOwnCells e cells o.cells
  -- there are as many cells as before when blocks come back
  pub deallocate_count : (b : Block) (s : State) (cells : Cells) → length (e.deallocate b s cells).cells.tags ≡ length cells.tags
  pub deallocate_all_count : (s : State) (cells : Cells) → length (e.deallocate_all s cells).cells.tags ≡ length cells.tags
  pub names_a_node : (need : ℕ) (cells : Cells) (k : ℕ) → e.set_up need cells ≡ Err k → k < e.nodes

pub record IsRegular (e : Rules) : Type 0 where
  pub telling : TellingLaws e
  pub reading : ReadingLaws e
  pub refusing : RefusingLaws e
  pub tails : TailLaws e
  pub openness : OpennessLaws e
  pub owning : OwningLaws e
  pub taking : TakingLaws e

-- ---- what holds of a form whatever its numbers are

-- of `RefusingLaws` all but when a request is refused
pub record RefusedLaws (e : Rules) : Type 0 where
  pub allocate : (n : ℕ) → KeepsOnNone (e.allocate n)
  pub aligned_allocate : (n a : ℕ) → KeepsOnNone (e.aligned_allocate n a)
  pub expand : (delta : ℕ) → KeepsOnFalse (e.expand delta)
  pub reallocate : (n : ℕ) → KeepsUnmoved (e.reallocate n)
  pub free_tails : (s : State) (cells : Cells) → IsSettled e s cells → e.has_free_tails s ≡ true
  pub refuses_uncounted : (n : ℕ) (s t : State) (cells : Cells) → uncounted s ≡ uncounted t → e.refuses n s cells ≡ e.refuses n t cells
  pub refuses_aligned_uncounted : (n a : ℕ) (s t : State) (cells : Cells) → uncounted s ≡ uncounted t → e.refuses_aligned n a s cells ≡ e.refuses_aligned n a t cells
  pub free_tails_uncounted : (s t : State) → uncounted s ≡ uncounted t → e.has_free_tails s ≡ e.has_free_tails t

-- Telling needs numbers in range, and so does when a request is refused: where lengths are rounded to multiples of 0, the parent is asked
-- for 0 bytes, and serves nothing without refusing.
pub record UnrangedLaws (e : Rules) : Type 0 where
  pub reading : ReadingLaws e
  pub refused : RefusedLaws e
  pub tails : TailLaws e
  pub openness : OpennessLaws e
  pub owning : OwningLaws e
  pub taking : TakingLaws e

-- ==== families on blocks that are out, for layers whose leaves have tags of their own

-- ---- keeping: what calls keep and give

-- a request: the layer is sound again, who is out stays out with its extent and its route, and the new block is out, apart from all that
-- were, and on the route that served it
pub record IsGood (e : Rules) (s : State) (cells : Cells) (n : ℕ) (r : After (Option Placed)) : Type 0 where
  pub is_set : is_open r.state ≡ true
  pub settled : IsSettled e r.state r.cells
  pub extents : (b : Block) → e.is_out b s cells ≡ true → e.extent b r.state ≡ e.extent b s
  pub routes : (b : Block) → e.is_out b s cells ≡ true → e.route b r.state ≡ e.route b s
  pub stays : (b : Block) → e.is_out b s cells ≡ true → e.is_out b r.state r.cells ≡ true
  pub len : (p : Placed) → r.answer ≡ Some p → p.block.len ≡ n
  pub out : (p : Placed) → r.answer ≡ Some p → e.is_out p.block r.state r.cells ≡ true
  pub found : (p : Placed) → r.answer ≡ Some p → e.route p.block r.state ≡ p.route
  pub fresh : (p : Placed) → r.answer ≡ Some p → (b : Block) → e.is_out b s cells ≡ true → AreApart e r.state p.block b

abbrev pub Good : Rules → Type 0
Good e = (n : ℕ) (s : State) (cells : Cells) → is_open s ≡ true → IsSettled e s cells → IsGood e s cells n (e.allocate n s cells)

-- a cell is as before, or it is free now and had a tag of the leaves
abbrev pub OnlyFreed : (Leaf : ℕ → Type 0) → (old new : Cells) → Type 0
OnlyFreed Leaf old new = (c : ℕ) → (get_or new.tags c 0 ≡ get_or old.tags c 0) ⊎ ((get_or new.tags c 0 ≡ 0) × Leaf (get_or old.tags c 0))

-- a block comes back: who is out and apart from it stays out, with its extent and its route
pub record IsFreed (e : Rules) (s : State) (cells : Cells) (b : Block) (r : After Bool) : Type 0 where
  pub is_set : is_open r.state ≡ true
  pub settled : IsSettled e r.state r.cells
  pub extents : (c : Block) → e.is_out c s cells ≡ true → AreApart e s b c → e.extent c r.state ≡ e.extent c s
  pub routes : (c : Block) → e.is_out c s cells ≡ true → AreApart e s b c → e.route c r.state ≡ e.route c s
  pub stays : (c : Block) → e.is_out c s cells ≡ true → AreApart e s b c → e.is_out c r.state r.cells ≡ true
  pub table : OnlyFreed (IsLeaf e) cells r.cells

abbrev pub Freeing : Rules → Type 0
Freeing e = (b : Block) (s : State) (cells : Cells) → is_open s ≡ true → IsSettled e s cells → e.is_out b s cells ≡ true → IsFreed e s cells b (e.deallocate b s cells)

-- A block is to grow, and keeps its route. Where that is refused each block stays out, with its extent and its route; where it is done those
-- that are apart from it, and they are apart from it still.
pub record IsGrown (e : Rules) (s : State) (cells : Cells) (b : Block) (delta : ℕ) (r : After Bool) : Type 0 where
  pub is_set : is_open r.state ≡ true
  pub settled : IsSettled e r.state r.cells
  pub extents : (c : Block) → e.is_out c s cells ≡ true → (r.answer ≡ true → AreApart e s b c) → e.extent c r.state ≡ e.extent c s
  pub routes : (c : Block) → e.is_out c s cells ≡ true → (r.answer ≡ true → AreApart e s b c) → e.route c r.state ≡ e.route c s
  pub stays : (c : Block) → e.is_out c s cells ≡ true → (r.answer ≡ true → AreApart e s b c) → e.is_out c r.state r.cells ≡ true
  pub out : e.is_out (longer_if r.answer delta b) r.state r.cells ≡ true
  pub found : e.route (longer_if r.answer delta b) r.state ≡ e.route b s
  pub fresh : (c : Block) → e.is_out c s cells ≡ true → AreApart e s b c → AreApart e r.state (longer_if r.answer delta b) c
  pub table : OnlyOwnCells e cells r.cells

abbrev pub Growing : Rules → Type 0
Growing e = (delta : ℕ) (b : Block) (s : State) (cells : Cells) → is_open s ≡ true → IsSettled e s cells → e.is_out b s cells ≡ true → IsGrown e s cells b delta (e.expand delta b s cells)

-- all blocks come back
pub record IsEmptied (e : Rules) (cells : Cells) (o : Opened) : Type 0 where
  pub is_set : is_open o.state ≡ true
  pub settled : IsSettled e o.state o.cells
  pub none : (b : Block) → e.is_out b o.state o.cells ≡ true → ⊥
  pub table : OnlyFreed (IsLeaf e) cells o.cells

abbrev pub Emptying : Rules → Type 0
Emptying e = (s : State) (cells : Cells) → is_open s ≡ true → IsSettled e s cells → IsEmptied e cells (e.deallocate_all s cells)

-- ---- aligned requests: as any other, and at a multiple of what is asked

-- a block that is answered is at a multiple of a
abbrev pub AtMultiple : (a : ℕ) → Option Placed → Type 0
AtMultiple a o = (p : Placed) → o ≡ Some p → IsMultiple p.block.place a

pub record IsAlignedGood (e : Rules) (s : State) (cells : Cells) (n a : ℕ) (r : After (Option Placed)) : Type 0 where
  pub good : IsGood e s cells n r
  pub aligned : AtMultiple a r.answer

abbrev pub AlignedGood : Rules → Type 0
AlignedGood e =
    (n a : ℕ) (s : State) (cells : Cells) → IsPower a → a ≤ 4096 → is_open s ≡ true → IsSettled e s cells → IsAlignedGood e s cells n a (e.aligned_allocate n a s cells)

-- ---- reallocating: a block gets another length, here or elsewhere

-- a cell is as before, or it was free or the leaves' own and is so still
abbrev pub IsFreeOrOwn : Rules → (tag : ℕ) → Type 0
IsFreeOrOwn e tag = (tag ≡ 0) ⊎ IsLeaf e tag

abbrev pub OnlyOwnChanged : Rules → (old new : Cells) → Type 0
OnlyOwnChanged e old new =
    (c : ℕ) → (get_or new.tags c 0 ≡ get_or old.tags c 0) ⊎ (IsFreeOrOwn e (get_or old.tags c 0) × IsFreeOrOwn e (get_or new.tags c 0))

-- the extent of the block c now has no byte in common with what that of b was
pub record IsMovedApart (e : Rules) (s t : State) (b c : Block) : Type 0 where
  pub either : is_apart (e.extent c t) (e.extent b s) ≡ true

-- Where it is refused each block stays out, with its extent and its route; where it is done those that are apart from the old block, and
-- they are apart from the new one. This stands where the old one stood, or takes up no byte that the old one took up. Only for 0 bytes
-- there is no block then.
pub record IsReallocated (e : Rules) (s : State) (cells : Cells) (b : Block) (n : ℕ) (r : After Reallocated) : Type 0 where
  pub is_set : is_open r.state ≡ true
  pub settled : IsSettled e r.state r.cells
  pub extents : (c : Block) → e.is_out c s cells ≡ true → (is_done r.answer ≡ true → AreApart e s b c) → e.extent c r.state ≡ e.extent c s
  pub routes : (c : Block) → e.is_out c s cells ≡ true → (is_done r.answer ≡ true → AreApart e s b c) → e.route c r.state ≡ e.route c s
  pub stays : (c : Block) → e.is_out c s cells ≡ true → (is_done r.answer ≡ true → AreApart e s b c) → e.is_out c r.state r.cells ≡ true
  pub len : (c : Block) → r.answer ≡ moved_to c → c.len ≡ n
  pub out : (c : Block) → r.answer ≡ moved_to c → e.is_out c r.state r.cells ≡ true
  pub fresh : (c : Block) → r.answer ≡ moved_to c → (d : Block) → e.is_out d s cells ≡ true → AreApart e s b d → AreApart e r.state c d
  pub place : (c : Block) → r.answer ≡ moved_to c → (c.place ≡ b.place) ⊎ IsMovedApart e s r.state b c
  pub empty : n ≡ 0 → r.answer ≡ emptied
  pub some : r.answer ≡ emptied → n ≡ 0
  pub count : length r.cells.tags ≡ length cells.tags
  pub table : OnlyOwnChanged e cells r.cells

abbrev pub Reallocating : Rules → Type 0
Reallocating e =
    (n : ℕ) (b : Block) (s : State) (cells : Cells) → is_open s ≡ true → IsSettled e s cells → e.is_out b s cells ≡ true → IsReallocated e s cells b n (e.reallocate n b s cells)

-- ---- asking who owns a block: all that is told of blocks stays, and so does soundness

pub record KeepsTold (e : Rules) (s t : State) (cells : Cells) : Type 0 where
  pub settled : IsSettled e t cells
  pub holds : (c : Block) → e.holds c t ≡ e.holds c s
  pub extents : (c : Block) → e.extent c t ≡ e.extent c s
  pub routes : (c : Block) → e.is_out c s cells ≡ true → e.route c t ≡ e.route c s
  pub out : (c : Block) → e.is_out c t cells ≡ e.is_out c s cells
  pub clean : (c : Block) (bytes : List ℕ) → e.is_clean c t bytes ≡ e.is_clean c s bytes
  pub marked : (c : Block) (bytes : List ℕ) → e.is_marked c t bytes ≡ e.is_marked c s bytes

abbrev pub OwnsKeeping : Rules → Type 0
OwnsKeeping e = (b : Block) (s : State) (cells : Cells) → IsSettled e s cells → KeepsTold e s (e.owns b s).state cells

-- ---- all that calls keep and give

pub record KeepingLaws (e : Rules) : Type 0 where
  -- what is out has a byte, and its layer is open
  pub out_some : (b : Block) (s : State) (cells : Cells) → e.is_out b s cells ≡ true → 1 ≤ b.len
  pub out_open : (b : Block) (s : State) (cells : Cells) → e.is_out b s cells ≡ true → is_open s ≡ true
  pub good : Good e
  pub freed : Freeing e
  pub grown : Growing e
  pub emptied : Emptying e
  pub reallocated : Reallocating e
  -- a block that is to have the length that it has stays as it is
  pub same_length : (b : Block) (s : State) (cells : Cells) → e.reallocate b.len b s cells ≡ after (moved_to b) s cells
  pub aligned : AlignedGood e
  pub owned : OwnsKeeping e

-- ---- placing: where blocks lie, and what changes of the table outside the leaves' cells leave

pub record Covers (e : Rules) (b : Block) (s : State) (cells : Cells) : Type 0 where
  pub some : (e.extent b s).place < end_of (e.extent b s)
  pub from : (e.extent b s).place ≤ b.place
  pub upto : end_of b ≤ end_of (e.extent b s)
  pub leaf : (i : ℕ) → (e.extent b s).place ≤ i → i < end_of (e.extent b s) → IsLeaf e (get_or cells.tags (i / 64) 0)

abbrev pub Covering : Rules → Type 0
Covering e = (b : Block) (s : State) (cells : Cells) → IsSettled e s cells → e.is_out b s cells ≡ true → Covers e b s cells

-- each layer on the way of a block that is out can name it, and its place is aligned
abbrev pub Routing : Rules → Type 0
Routing e = (b : Block) (s : State) (cells : Cells) → length cells.tags ≤ most_cells → IsSettled e s cells → e.is_out b s cells ≡ true → e.is_routed b s ≡ true

abbrev pub Aligning : Rules → Type 0
Aligning e = (b : Block) (s : State) (cells : Cells) → IsSettled e s cells → e.is_out b s cells ≡ true → IsMultiple b.place e.alignment

-- the cells of the leaves are the same
pub record TagsKept (e : Rules) (old new : Cells) : Type 0 where
  pub at : (c : ℕ) → IsLeaf e (get_or old.tags c 0) → get_or new.tags c 0 ≡ get_or old.tags c 0
  pub back : (c : ℕ) → IsLeaf e (get_or new.tags c 0) → get_or old.tags c 0 ≡ get_or new.tags c 0

abbrev pub OutTags : Rules → Type 0
OutTags e = (b : Block) (s : State) (old new : Cells) → TagsKept e old new → e.is_out b s old ≡ true → e.is_out b s new ≡ true

abbrev pub SettledTags : Rules → Type 0
SettledTags e = (s : State) (old new : Cells) → TagsKept e old new → IsSettled e s old → IsSettled e s new

pub record PlacingLaws (e : Rules) : Type 0 where
  pub covers : Covering e
  pub routed : Routing e
  pub aligned : Aligning e
  pub out_tags : OutTags e
  pub settled_tags : SettledTags e

-- ---- framing: what changes of bytes leave; what is clean is marked

-- the bytes of cells with tags of the leaves stay
pub record OwnKept (e : Rules) (cells : Cells) (old new : List ℕ) : Type 0 where
  pub length_same : length new ≡ length old
  pub at : (i : ℕ) → IsLeaf e (get_or cells.tags (i / 64) 0) → get_or new i 0 ≡ get_or old i 0

-- bytes change inside a block alone
pub record ChangesInside (b : Block) (old new : List ℕ) : Type 0 where
  pub length_same : length new ≡ length old
  pub below : (i : ℕ) → i < b.place → get_or new i 0 ≡ get_or old i 0
  pub above : (i : ℕ) → end_of b ≤ i → get_or new i 0 ≡ get_or old i 0

pub record Framed (e : Rules) (fs : Fields) (old new : List ℕ) (cells : Cells) (Clean : Block → Type 0) : Type 0 where
  pub state : e.read fs new ≡ e.read fs old
  pub image : e.is_image fs (e.read fs old) new ≡ true
  pub clean : (c : Block) → e.is_out c (e.read fs old) cells ≡ true → Clean c → e.is_clean c (e.read fs old) old ≡ true → e.is_clean c (e.read fs old) new ≡ true
  pub marked : (c : Block) → e.is_out c (e.read fs old) cells ≡ true → Clean c → e.is_marked c (e.read fs old) old ≡ true → e.is_marked c (e.read fs old) new ≡ true

abbrev pub Any : Block → Type 0
Any c = Unit {0}

abbrev pub IsSameOrApart : Rules → State → (b c : Block) → Type 0
IsSameOrApart e s b c = (c ≡ b) ⊎ AreApart e s b c

abbrev pub OwnFraming : Rules → Type 0
OwnFraming e = (fs : Fields) (old new : List ℕ) (cells : Cells) → IsSettled e (e.read fs old) cells → e.is_image fs (e.read fs old) old ≡ true
    → OwnKept e cells old new → Framed e fs old new cells Any

abbrev pub Framing : Rules → Type 0
Framing e = (fs : Fields) (old new : List ℕ) (cells : Cells) (b : Block) → IsSettled e (e.read fs old) cells → e.is_image fs (e.read fs old) old ≡ true
    → e.is_out b (e.read fs old) cells ≡ true → ChangesInside b old new → Framed e fs old new cells (IsSameOrApart e (e.read fs old) b)

pub record FramingLaws (e : Rules) : Type 0 where
  pub own_framed : OwnFraming e
  pub framed : Framing e
  pub marked : (b : Block) (s : State) (bytes : List ℕ) → e.is_clean b s bytes ≡ true → e.is_marked b s bytes ≡ true

-- ---- opening: what is set up, and what is closed

abbrev pub NoCell : (Leaf : ℕ → Type 0) → Cells → Type 0
NoCell Leaf cells = (c : ℕ) → Leaf (get_or cells.tags c 0) → ⊥

abbrev pub Opens : Rules → Type 0
Opens e = (need : ℕ) (cells : Cells) (o : Opened) → NoCell (IsLeaf e) cells → e.set_up need cells ≡ Ok o → IsSettled e o.state o.cells

pub record OpeningLaws (e : Rules) : Type 0 where
  pub closed_settled : (cells : Cells) → e.is_settled closed cells ≡ has_no_cells e.leaf_tags cells
  pub closed_image : (bytes : List ℕ) → e.is_image closed_fields closed bytes ≡ true
  pub opens : Opens e

-- ---- holding: whose a block is

-- each byte of the block lies in a cell of the leaves
pub record IsInOwnCells (e : Rules) (b : Block) (cells : Cells) : Type 0 where
  pub at : (i : ℕ) → b.place ≤ i → i < end_of b → IsLeaf e (get_or cells.tags (i / 64) 0)

-- where owns is offered, what is out is held
abbrev pub HoldingOut : Rules → Type 0
HoldingOut e = e.offers.owns ≡ true → (b : Block) (s : State) (cells : Cells) → IsSettled e s cells → e.is_out b s cells ≡ true → e.holds b s ≡ true

-- what is held lies in cells of the leaves, so that no two layers with other leaves hold one block
abbrev pub HoldingOwn : Rules → Type 0
HoldingOwn e = (b : Block) (s : State) (cells : Cells) → IsSettled e s cells → e.holds b s ≡ true → IsInOwnCells e b cells

pub record HoldingLaws (e : Rules) : Type 0 where
  pub out_held : HoldingOut e
  pub own : HoldingOwn e

-- ---- paths: what a layer at a path's end says of a block

-- a yes says that the path begins the route, and a no says that it doesn't
pub record AnswersRoute (path route : List ℕ) (said : Asked) : Type 0 where
  pub yes : said ≡ Yes → starts_with nat_eq route path ≡ true
  pub no : said ≡ No → starts_with nat_eq route path ≡ false

-- of a block that is out the layer at a path's end says yes exactly where the path begins the block's route
abbrev pub SayingRoute : Rules → Type 0
SayingRoute e = (path : List ℕ) (b : Block) (s : State) (cells : Cells) → IsSettled e s cells → e.is_out b s cells ≡ true
    → AnswersRoute path (e.route b s) (owns_along e path b s)

-- what is said yes to at a path's end lies in cells of the leaves, whether it is out or not
abbrev pub SayingOwn : Rules → Type 0
SayingOwn e = (path : List ℕ) (b : Block) (s : State) (cells : Cells) → IsSettled e s cells → owns_along e path b s ≡ Yes → IsInOwnCells e b cells

pub record PathLaws (e : Rules) : Type 0 where
  pub said_route : SayingRoute e
  pub said_own : SayingOwn e
  -- what is said yes to has a length that is served
  pub said_size : (path : List ℕ) (b : Block) (s : State) → owns_along e path b s ≡ Yes → is_served_size b.len ≡ true

pub record IsLawful (e : Rules) : Type 0 where
  pub keeping : KeepingLaws e
  pub placing : PlacingLaws e
  pub framing : FramingLaws e
  pub opening : OpeningLaws e
  pub holding : HoldingLaws e
  pub paths : PathLaws e

-- ==== every layer that is made

-- the most nodes of a composition, and the most layers on a path above a leaf
abbrev pub most_nodes : ℕ
most_nodes = 4096

abbrev pub most_layers : ℕ
most_layers = 8

-- It is within its bounds, regular, and lawful where its leaves have tags of their own.
pub record IsMade (e : Rules) : Type 0 where
  pub few : e.nodes ≤ most_nodes
  pub shallow : e.depth ≤ most_layers
  pub regular : IsRegular e
  pub lawful : HasDistinctTags e → HasSomeTags e → IsLawful e
