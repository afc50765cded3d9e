-- Trees: the nodes of a complete tree over a row of positions: the children of node i are 2i and 2i + 1.
use Rattle.std.specs.Prelude.{ℕ, ◌≡◌, ◌+◌, ◌-◌, ◌*◌, ◌≤◌, ◌<◌, Bool, true, List, length, slice_index_or, cond, nat_lt}
use Rattle.std.specs.Int.{IsPowerOfTwo, IsNextPowerOfTwo}
use Rattle.space_core.specs.declared.tree.Summary.{Summary}
use Rattle.space_core.specs.Summaries.{SumsUp, leaf_of}

-- the summary of no positions
abbrev pub no_summary : Summary
no_summary = record { front = 0; back = 0; best = 0 }

-- What node i says: what is kept of it where it has children, and else whether its position is free.
unfoldable pub node_at : List Bool → List Summary → ℕ → Summary
node_at us nodes i = cond (nat_lt i (length nodes)) (slice_index_or nodes i no_summary) (leaf_of (slice_index_or us (i - length nodes) true))

-- node i of a tree so wide is that of the n positions from p on
pub record IsNode (width i p n : ℕ) : Type 0 where
  pub power : IsPowerOfTwo n
  pub place : i * n ≡ width + p
  pub within : p + n ≤ width

-- node i of the tree of a row is that of the n positions from p on, of which some may be past the last
pub record Covers (us : List Bool) (i p n : ℕ) : Type 0 where
  pub width : ℕ
  pub is_width : IsNextPowerOfTwo (length us) width
  pub is_node : IsNode width i p n

-- where node i is that of the n positions from p on, it sums these up
abbrev pub Tells : List Bool → List Summary → (i p n : ℕ) → Type 0
Tells us nodes i p n = IsNode (length nodes) i p n → SumsUp us p n (node_at us nodes i)

-- the tree of a row: each node sums up its positions
pub record IsTree (us : List Bool) (nodes : List Summary) : Type 0 where
  pub width : IsNextPowerOfTwo (length us) (length nodes)
  pub most : length nodes < 524288
  pub tells : (i p n : ℕ) → Tells us nodes i p n
