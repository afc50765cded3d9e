-- Plans: what contracts see of layers on which no heap was made yet.
use Rattle.std.specs.Prelude.{ℕ, ◌≡◌, ◌+◌, ◌<◌, Bool, ◌||◌, [], ◌∷◌, length, nat_eq}
use Rattle.space_core.specs.Memory.{Memory, IsMemory, fresh_memory}
use Rattle.layer_rules.specs.After.{Opened, Opening}
use Rattle.layer_rules.specs.Layering.{LayerModel, IsShut, state_of}
use Rattle.owned_heap.specs.Owned.{Owned}

-- the root, and of it how many cells there are, of what number each place is a multiple, how many nodes it has, and how many layers
-- stand above the leaf
pub record Plan (L : Type 0) : Type 0 where
  pub root : L
  pub cells : ℕ
  pub alignment : ℕ
  pub nodes : ℕ
  pub depth : ℕ

-- no cell is taken, each byte is 0, and one leaf was made
pub record IsFresh (m : Memory) : Type 0 where
  pub memory : IsMemory m
  pub same : m ≡ fresh_memory (length m.cells.tags) 1

-- the root is closed, and stands on that leaf alone
pub record IsPlan (t : LayerModel) (m : Memory) : Type 0 where
  pub fresh : IsFresh m
  pub shut : IsShut t
  pub tags : t.rules.leaf_tags ≡ 1 ∷ []

-- there is room for one more layer
pub record HasRoom (nodes depth : ℕ) : Type 0 where
  pub nodes_most : nodes < 4096
  pub depth_most : depth < 8

-- one more layer over so many cells
pub record IsOneMore (cells nodes depth cells' nodes' depth' : ℕ) : Type 0 where
  pub same_cells : cells' ≡ cells
  pub more_nodes : nodes' ≡ nodes + 1
  pub more_depth : depth' ≡ depth + 1

-- a power of two up to 4,096
abbrev pub is_alignment : ℕ → Bool
is_alignment a =
    nat_eq a 1 || (nat_eq a 2 || (nat_eq a 4 || (nat_eq a 8 || (nat_eq a 16 || (nat_eq a 32 || (nat_eq a 64 || (nat_eq a 128
    || (nat_eq a 256 || (nat_eq a 512 || (nat_eq a 1024 || (nat_eq a 2048 || nat_eq a 4096)))))))))))

-- what the rule of the layers opens them with: a request of no byte, and all cells free
unfoldable pub opening_in : {L : Type 0} → (L → LayerModel) → Plan L → Opening
opening_in model plan = let free = fresh_memory plan.cells 1 in (model plan.root).rules.set_up 0 free.cells

-- the state and the cells that a heap begins with
unfoldable pub begun_in : {L : Type 0} → (L → LayerModel) → Owned L → Opened
begun_in model h = record { state = state_of (model h.root) h.memory; cells = h.memory.cells }
