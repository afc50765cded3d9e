-- Rules: all that a layer is to contracts. A form of layer is a function that gives such a record, over those of its parents.
use Rattle.std.specs.Prelude.{ℕ, ◌≡◌, ◌≢◌, ◌+◌, ◌≤◌, ◌⊎◌, Bool, true, false, List, [], ◌∷◌, fold}
use Rattle.space_core.specs.Cells.{Cells, used_by, free_tag}
use Rattle.layer_rules.specs.declared.Asked.{Asked}
use Rattle.layer_rules.specs.declared.Block.{Block}
use Rattle.layer_rules.specs.declared.Fact.{Fact}
use Rattle.layer_rules.specs.declared.Offers.{Offers}
use Rattle.layer_rules.specs.Blocks.{with_len, is_apart}
use Rattle.layer_rules.specs.Rows.{EachPair}
use Rattle.layer_rules.specs.Fields.{Fields}
use Rattle.layer_rules.specs.State.{State}
use Rattle.layer_rules.specs.After.{Serve, Opened, Opening, Change, Reallocate, Owning}

pub record Rules : Type 0 where
  -- ---- told of the layer itself
  -- how many nodes it has, itself counted, and how many layers stand on the longest path above a leaf
  pub nodes : ℕ
  pub depth : ℕ
  -- the tags of the leaves, in preorder
  pub leaf_tags : List ℕ
  pub offers : Offers
  -- the number of which each block's place is a multiple
  pub alignment : ℕ
  pub good_alloc_size : ℕ → ℕ
  -- ---- what its calls do
  pub set_up : (need : ℕ) → Cells → Opening
  pub allocate : (n : ℕ) → Serve
  pub aligned_allocate : (n a : ℕ) → Serve
  pub expand : (delta : ℕ) → Change
  pub reallocate : (n : ℕ) → Reallocate
  pub deallocate : Change
  pub deallocate_all : State → Cells → Opened
  pub owns : Owning
  -- what stands at the end of a path; it is possible that a layer holds the block as long as each layer on the way can have it
  pub owns_at : (path : List ℕ) (possible : Bool) → Block → State → Asked
  -- ---- when a request of at least one byte is refused, said without a place of a new block
  pub refuses : (n : ℕ) → State → Cells → Bool
  pub refuses_aligned : (n a : ℕ) → State → Cells → Bool
  -- what that needs of the state: each tail that is served from is free
  pub has_free_tails : State → Bool
  -- ---- told of a block
  pub is_out : Block → State → Cells → Bool
  -- whether it holds the block, as far as it tells that at all
  pub holds : Block → State → Bool
  -- the way to the layer that serves the block: the numbers of the children, down to a chunk holder or a leaf
  pub route : Block → State → List ℕ
  -- each layer on the route can name the block
  pub is_routed : Block → State → Bool
  -- the bytes that it takes up where its route ends, and none where no layer can have it
  pub extent : Block → State → Block
  -- ---- what stands between calls
  -- the state, of the numbers that it keeps and the bytes of the Space
  pub read : Fields → (bytes : List ℕ) → State
  pub is_settled : State → Cells → Bool
  pub is_image : Fields → State → (bytes : List ℕ) → Bool
  -- the bytes round a block are as the layers wrote them; of the outermost the length alone
  pub is_clean : Block → State → (bytes : List ℕ) → Bool
  pub is_marked : Block → State → (bytes : List ℕ) → Bool
  -- ---- whose bytes these are
  -- handed out or kept for a block
  pub is_occupied : State → Cells → (place : ℕ) → Bool
  -- kept by the layers themselves: their words, and the affixes of their chunks and cached blocks
  pub is_meta : State → (place : ℕ) → Bool
  -- those of affixes on the block's route
  pub is_affix_byte : Block → State → (place : ℕ) → Bool
  -- ---- what is told of each node, in preorder
  -- the numbers that it keeps, and what the report says
  pub state_numbers : Fields → List (List ℕ)
  pub facts : State → Cells → List Fact

-- ---- the leaves

abbrev pub IsIn : List ℕ → ℕ → Type 0
IsIn [] t = ⊥
IsIn (x ∷ xs) t = (t ≡ x) ⊎ IsIn xs t

-- the tag is that of a leaf
abbrev pub IsLeaf : Rules → (tag : ℕ) → Type 0
IsLeaf e t = IsIn e.leaf_tags t

-- no two leaves have one tag
abbrev pub HasDistinctTags : Rules → Type 0
HasDistinctTags e = EachPair ◌≢◌ e.leaf_tags

-- no leaf has the tag of free cells
pub record HasSomeTags (e : Rules) : Type 0 where
  pub least : (t : ℕ) → IsLeaf e t → 1 ≤ t

-- each tag is one that a Space with so many leaves has made
pub record HasMadeTags (leaves : ℕ) (e : Rules) : Type 0 where
  pub least : (t : ℕ) → IsLeaf e t → 1 ≤ t
  pub most : (t : ℕ) → IsLeaf e t → t ≤ leaves

-- no leaf has a cell
pub record HasNoCells (e : Rules) (cells : Cells) : Type 0 where
  pub none : (t : ℕ) → IsLeaf e t → used_by t cells ≡ 0

-- the table without the cells of the leaves
abbrev pub without_leaves : Rules → Cells → Cells
without_leaves e cells = fold (λ t tag. free_tag tag t) cells e.leaf_tags

-- no leaf of the one has the tag of a leaf of the other
pub record IsBeside (e f : Rules) : Type 0 where
  pub apart : (t : ℕ) → IsLeaf e t → IsLeaf f t → ⊥

-- ---- blocks of a layer

-- the block with its new length, where it grew
abbrev pub longer_if : Bool → (delta : ℕ) → Block → Block
longer_if true delta b = with_len b (b.len + delta)
longer_if false delta b = b

-- the extents of two blocks have no byte in common
pub record AreApart (e : Rules) (s : State) (b c : Block) : Type 0 where
  pub either : is_apart (e.extent b s) (e.extent c s) ≡ true

-- what is answered at a path's end
abbrev pub owns_along : Rules → (path : List ℕ) → Block → State → Asked
owns_along e path b s = e.owns_at path true b s

-- ---- soundness: what holds of each layer between calls

abbrev pub IsSettled : Rules → State → Cells → Type 0
IsSettled e s cells = e.is_settled s cells ≡ true

-- with how many leaves the Space has made
pub record IsSound (e : Rules) (s : State) (cells : Cells) (leaves : ℕ) : Type 0 where
  pub distinct : HasDistinctTags e
  pub made : HasMadeTags leaves e
  pub settled : IsSettled e s cells
