-- Owned: what contracts see of a heap.
use Rattle.std.specs.Prelude.{ℕ, ◌≡◌, Bool, true, not, ◌||◌, List, [], cond, option_map, slice_range, nat_eq, Option}
use Rattle.space_core.specs.Memory.{Memory}
use Rattle.space_core.specs.Words.{write_from}
use Rattle.layer_rules.specs.Blocks.{end_of}
use Rattle.layer_rules.specs.Rows.{Each, EachPair}
use Rattle.layer_rules.specs.Layering.{LayerModel, state_of, Stands, IsSetUp, IsOutOf, IsCleanOf, AreApartIn, kept_state, Allocates, AlignedAllocates, Expands, Reallocates, Deallocates, DeallocatesAll, Owns}
use Rattle.owned_heap.specs.Ticket.{Ticket}
use Rattle.owned_heap.specs.Events.{made, is_live, live_of}
use Rattle.owned_heap.specs.declared.block.Event.{Event}

-- the root layer, the memory, and what happened to the blocks, the newest first
pub record Owned (L : Type 0) : Type 0 where
  pub root : L
  pub memory : Memory
  pub events : List Event

-- The root is open and stands, each live block is out and clean, and no byte is in the extents of two.
pub record IsOwned (t : LayerModel) (m : Memory) (events : List Event) : Type 0 where
  pub opened : IsSetUp t
  pub stands : Stands t m
  pub out : Each (λ (x : Ticket). IsOutOf t m x.block) (live_of events)
  pub clean : Each (λ (x : Ticket). IsCleanOf t m x.block) (live_of events)
  pub apart : EachPair (λ (x y : Ticket). AreApartIn t m x.block y.block) (live_of events)

-- and the births are counted
pub record IsHeap (t : LayerModel) (m : Memory) (events : List Event) (births : ℕ) : Type 0 where
  pub owned : IsOwned t m events
  pub counted : births ≡ made events

-- The block is live: it was handed out by this heap, and not given back since.
abbrev pub IsLive : {L : Type 0} → Owned L → Ticket → Type 0
IsLive h b = is_live h.events b ≡ true

-- the bytes of a live block, and none of any other
unfoldable pub bytes_of : {L : Type 0} → Owned L → Ticket → List ℕ
bytes_of h b = cond (is_live h.events b) (slice_range h.memory.bytes b.block.place (end_of b.block)) []

-- a request for so many bytes gets no block: it asks none, or the root refuses
unfoldable pub is_refused : {L : Type 0} → (L → LayerModel) → Owned L → (n : ℕ) → Bool
is_refused model h n = let t = model h.root in nat_eq n 0 || t.rules.refuses n (state_of t h.memory) h.memory.cells

-- the same of a request at a multiple of a, which the root may not offer
unfoldable pub is_refused_at : {L : Type 0} → (L → LayerModel) → Owned L → (n a : ℕ) → Bool
is_refused_at model h n a =
    let t = model h.root in
    not t.rules.offers.aligned || (nat_eq n 0 || t.rules.refuses_aligned n a (state_of t h.memory) h.memory.cells)

-- whether the root owns the block
unfoldable pub holds : {L : Type 0} → (L → LayerModel) → Owned L → Ticket → Bool
holds model h b = let t = model h.root in (t.rules.owns b.block (kept_state t)).owned

-- how many bytes a block takes up where its route ends
unfoldable pub extent_len : {L : Type 0} → (L → LayerModel) → Owned L → Ticket → ℕ
extent_len model h b = let t = model h.root in (t.rules.extent b.block (kept_state t)).len

-- what the layers did
unfoldable pub AllocatesIn : {L : Type 0} → (L → LayerModel) → (old new : Owned L) → (n : ℕ) → Option Ticket → Type 0
AllocatesIn model old new n r = Allocates (model old.root) (model new.root) old.memory new.memory n (option_map (λ b. b.block) r)

unfoldable pub DeallocatesIn : {L : Type 0} → (L → LayerModel) → (old new : Owned L) → Ticket → Bool → Type 0
DeallocatesIn model old new b answer = Deallocates (model old.root) (model new.root) old.memory new.memory b.block answer

-- whatever was answered
unfoldable pub GivesBackIn : {L : Type 0} → (L → LayerModel) → (old new : Owned L) → Ticket → Type 0
GivesBackIn model old new b = (answer : Bool) × DeallocatesIn model old new b answer

unfoldable pub DeallocatesAllIn : {L : Type 0} → (L → LayerModel) → (old new : Owned L) → Type 0
DeallocatesAllIn model old new = DeallocatesAll (model old.root) (model new.root) old.memory new.memory

unfoldable pub AlignedAllocatesIn : {L : Type 0} → (L → LayerModel) → (old new : Owned L) → (n a : ℕ) → Option Ticket → Type 0
AlignedAllocatesIn model old new n a r =
    (model old.root).rules.offers.aligned ≡ true → AlignedAllocates (model old.root) (model new.root) old.memory new.memory n a (option_map (λ b. b.block) r)

unfoldable pub ExpandsIn : {L : Type 0} → (L → LayerModel) → (old new : Owned L) → (b b' : Ticket) → (delta : ℕ) → Bool → Type 0
ExpandsIn model old new b b' delta answer =
    (model old.root).rules.offers.expand ≡ true → Expands (model old.root) (model new.root) old.memory new.memory b.block b'.block delta answer

unfoldable pub ReallocatesIn : {L : Type 0} → (L → LayerModel) → (old new : Owned L) → (b b' : Ticket) → (n : ℕ) → Bool → Type 0
ReallocatesIn model old new b b' n answer = Reallocates (model old.root) (model new.root) old.memory new.memory b.block b'.block n answer

unfoldable pub OwnsIn : {L : Type 0} → (L → LayerModel) → (old new : Owned L) → Ticket → Bool → Type 0
OwnsIn model old new b answer = Owns (model old.root) (model new.root) b.block answer

-- only these bytes changed, from a place on: the layers, the table of cells and all other bytes are as before
unfoldable pub WritesIn : {L : Type 0} → (old new : Owned L) → (place : ℕ) → (bytes : List ℕ) → Type 0
WritesIn old new place bytes = new ≡ record old { memory = record old.memory { bytes = write_from old.memory.bytes place bytes } }
