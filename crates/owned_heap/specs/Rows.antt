-- Rows: what contracts see of a heap with a vector of its blocks.
use Rattle.std.specs.Prelude.{ℕ, ◌≡◌, ◌≢◌, ◌<◌, Bool, true, false, Option, None, Result, Ok, Err, List, [], ◌∷◌, ◌++◌, map, length}
use Rattle.std.specs.List.{slice_index_or}
use Rattle.layer_rules.specs.Rows.{Each, EachPair}
use Rattle.layer_rules.specs.Layering.{LayerModel}
use Rattle.owned_heap.specs.Ticket.{Ticket}
use Rattle.owned_heap.specs.Events.{made, is_live}
use Rattle.owned_heap.specs.Owned.{Owned, IsLive, bytes_of, AllocatesIn}
use Rattle.owned_heap.specs.declared.block.Event.{Event}
use Rattle.owned_heap.specs.declared.block.Event.TheVariants.{Gone, Emptied}
use Rattle.owned_heap.specs.declared.rows.PushError.{PushError}
use Rattle.owned_heap.specs.declared.rows.PushError.TheVariants.{NoRoom, Refused}

-- the bytes of each block, in order; the blocks themselves; how many there is room for; and the heap that they stand in
pub record Rows (L : Type 0) : Type 0 where
  pub rows : List (List ℕ)
  pub blocks : List Ticket
  pub capacity : ℕ
  pub heap : Owned L

-- the row with this number, and no byte where there is none
abbrev pub row_of : List (List ℕ) → ℕ → List ℕ
row_of rows index = slice_index_or rows index []

-- the block with this number
abbrev pub block_at : List Ticket → ℕ → Ticket
block_at blocks index = slice_index_or blocks index (record { number = 0; block = record { place = 0; len = 0 } })

-- the bytes of these blocks
abbrev pub rows_of : {L : Type 0} → Owned L → List Ticket → List (List ℕ)
rows_of h blocks = map (bytes_of h) blocks

-- a block that is live, numbered, and as long as its bytes
pub record IsRow {L : Type 0} (h : Owned L) (b : Ticket) : Type 0 where
  pub live : IsLive h b
  pub numbered : b.number < made h.events
  pub size : length (bytes_of h b) ≡ b.block.len

-- and no two of them are the same
pub record AreRows {L : Type 0} (h : Owned L) (blocks : List Ticket) : Type 0 where
  pub each : Each (IsRow h) blocks
  pub apart : EachPair (λ (b c : Ticket). b.number ≢ c.number) blocks

-- what happened to the blocks of a heap once these were given back: all at once where that is offered, and else the last one first
abbrev pub cleared : Bool → List Ticket → List Event → List Event
cleared true blocks events = Emptied ∷ events
cleared false blocks events = map Gone blocks ++ events

-- what the layers did when a block was put on, the newest of the row then: nothing where the process had no memory for the row
unfoldable pub PushesIn : {L A : Type 0} → (L → LayerModel) → (old new : Owned L) → (n : ℕ) → (newest : Option Ticket) → Result A PushError → Type 0
PushesIn model old new n newest (Ok done) = AllocatesIn model old new n newest
PushesIn model old new n newest (Err Refused) = AllocatesIn model old new n None
PushesIn model old new n newest (Err NoRoom) = new ≡ old

-- none of these blocks is live
abbrev pub AreGone : {L : Type 0} → Owned L → List Ticket → Type 0
AreGone h blocks = (index : ℕ) → index < length blocks → is_live h.events (block_at blocks index) ≡ false
