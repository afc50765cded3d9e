-- Tables: what contracts see of a heap with a vector of its blocks and a value beside each.
use Rattle.std.specs.Prelude.{ℕ, List}
use Rattle.owned_heap.specs.Ticket.{Ticket}
use Rattle.owned_heap.specs.Owned.{Owned}

-- the values; the bytes of each block, in the same order; the blocks themselves; and the heap that they stand in
pub record Table (L T : Type 0) : Type 0 where
  pub values : List T
  pub rows : List (List ℕ)
  pub blocks : List Ticket
  pub heap : Owned L
