-- FreeListMeanings: what is asked of a free list's numbers, what its tests and its chain mean, and what its laws say.
use Rattle.std.specs.Prelude.{ℕ, zero, suc, ◌+◌, ◌≡◌, ◌≢◌, ◌≤◌, ◌<◌, ◌↔◌, true, List, [], ◌∷◌, length, slice_index}
use Rattle.size_round.specs.Sizes.{size_bound}
use Rattle.space_core.specs.Cells.{Cells}
use Rattle.space_core.specs.Words.{word_at, IsWordAt}
use Rattle.layer_rules.specs.declared.Block.{Block}
use Rattle.layer_rules.specs.Blocks.{block, lies_in}
use Rattle.layer_rules.specs.Rows.{Each}
use Rattle.layer_rules.specs.State.{State, cache_own, open_with, one_child, is_open, child, cached_of}
use Rattle.layer_rules.specs.Fields.{Fields, chain_end, kept_of, child_fields, kept_count, kept_front}
use Rattle.layer_rules.specs.Rules.{Rules, IsSettled, AreApart, HasSomeTags}
use Rattle.layer_laws.specs.Lawful.{Covering, IsRegular, IsLawful}
use Rattle.free_list_rules.specs.FreeListRules.{cache_down, first_of, read_chain, is_chain, free_list_rules}

-- the numbers of a free list: a cached block has room for a word of the chain
pub record IsCacheSize (least greatest : ℕ) : Type 0 where
  pub word : 8 ≤ greatest
  pub most : greatest ≤ size_bound
  pub ordered : least ≤ greatest

-- whatever they are a free list is regular over a parent that is
abbrev pub FreeListIsRegular : Type 0
FreeListIsRegular = (least greatest : ℕ) (e : Rules) → IsRegular e → IsRegular (free_list_rules least greatest e)

-- and where they are proper it is lawful over one that is lawful too
abbrev pub FreeListIsLawful : Type 0
FreeListIsLawful =
    (least greatest : ℕ) (e : Rules) → IsCacheSize least greatest → HasSomeTags e → IsRegular e → IsLawful e → IsLawful (free_list_rules least greatest e)

-- ---- the cached blocks

-- the block is apart from each of these
abbrev pub ApartFrom : Rules → State → (greatest : ℕ) → Block → List ℕ → Type 0
ApartFrom e t m b ps = Each (λ p. AreApart e t b (block p m)) ps

-- each is out of the parent
abbrev pub AllOut : Rules → State → Cells → (greatest : ℕ) → List ℕ → Type 0
AllOut e t cells m ps = Each (λ p. e.is_out (block p m) t cells ≡ true) ps

-- each is apart from each one behind it
abbrev pub AllApart : Rules → State → (greatest : ℕ) → List ℕ → Type 0
AllApart e t m [] = Unit {0}
AllApart e t m (p ∷ ps) = ApartFrom e t m (block p m) ps × AllApart e t m ps

-- a free list over an open and sound parent
pub record IsSoundCache (greatest : ℕ) (e : Rules) (s : State) (cells : Cells) : Type 0 where
  pub form : s ≡ open_with (cache_own (cached_of s)) (one_child (child s 0))
  pub parent : is_open (child s 0) ≡ true
  pub out : AllOut e (child s 0) cells greatest (cached_of s)
  pub apart : AllApart e (child s 0) greatest (cached_of s)
  pub below : IsSettled e (child s 0) cells

-- an open free list is sound exactly where these facts hold of it
abbrev pub OpenFreeListIsSound : Type 0
OpenFreeListIsSound =
    (least greatest : ℕ) (e : Rules) (s : State) (cells : Cells) → is_open s ≡ true → IsSettled (free_list_rules least greatest e) s cells ↔ IsSoundCache greatest e s cells

-- ---- a block that is out

-- out of the parent, and apart from each cached block
pub record IsOutCache (least greatest : ℕ) (e : Rules) (b : Block) (s : State) (cells : Cells) : Type 0 where
  pub is_set : is_open s ≡ true
  pub some : 1 ≤ b.len
  pub below : e.is_out (cache_down least greatest b) (child s 0) cells ≡ true
  pub apart : ApartFrom e (child s 0) greatest (cache_down least greatest b) (cached_of s)

-- a block is out exactly where these facts hold of it
abbrev pub OutOfFreeList : Type 0
OutOfFreeList =
    (least greatest : ℕ) (e : Rules) (b : Block) (s : State) (cells : Cells)
    → ((free_list_rules least greatest e).is_out b s cells ≡ true) ↔ IsOutCache least greatest e b s cells

-- the block that is handed down has every byte of the block
abbrev pub DownHasAllBytes : Type 0
DownHasAllBytes = (least greatest : ℕ) (b : Block) → lies_in b (cache_down least greatest b) ≡ true

-- ---- the bytes of the Space

-- the word at each place is the next place
abbrev pub IsChain : List ℕ → (places : List ℕ) → Type 0
IsChain bytes [] = Unit {0}
IsChain bytes (p ∷ ps) = IsWordAt bytes p (first_of ps) × IsChain bytes ps

-- the numbers of the struct, and the chain
pub record IsCacheImage (fs : Fields) (s : State) (bytes : List ℕ) : Type 0 where
  pub count : kept_count (kept_of fs) ≡ length (cached_of s)
  pub front : kept_front (kept_of fs) ≡ first_of (cached_of s)
  pub chain : IsChain bytes (cached_of s)

-- each cached block is clean in the parent
abbrev pub AllClean : Rules → State → (bytes : List ℕ) → (greatest : ℕ) → List ℕ → Type 0
AllClean e t bytes m ps = Each (λ p. e.is_clean (block p m) t bytes ≡ true) ps

-- the free list's own bytes, those round its cached blocks, and the parent's
pub record IsFreeListImage (greatest : ℕ) (e : Rules) (fs : Fields) (s : State) (bytes : List ℕ) : Type 0 where
  pub own : IsCacheImage fs s bytes
  pub clean : AllClean e (child s 0) bytes greatest (cached_of s)
  pub below : e.is_image (child_fields fs 0) (child s 0) bytes ≡ true

-- an open free list's bytes are in place exactly where these facts hold of them
abbrev pub ImageOfFreeList : Type 0
ImageOfFreeList =
    (least greatest : ℕ) (e : Rules) (fs : Fields) (s : State) (bytes : List ℕ) → is_open s ≡ true
    → ((free_list_rules least greatest e).is_image fs s bytes ≡ true) ↔ IsFreeListImage greatest e fs s bytes

-- what is read of the bytes from a chain's front is the chain
abbrev pub ChainIsRead : Type 0
ChainIsRead = (bytes ps : List ℕ) → is_chain bytes ps ≡ true → read_chain (length ps) (first_of ps) bytes ≡ ps

-- the place that is reached from a place by so many words
unfoldable pub followed : (steps place : ℕ) → List ℕ → ℕ
followed zero p bytes = p
followed (suc n) p bytes = followed n (word_at bytes p) bytes

-- Who follows the words from the front visits each cached block once, in order, and then is at the chain's end.
pub record IsWalk (bytes : List ℕ) (front : ℕ) (ps : List ℕ) : Type 0 where
  pub visits : (k : ℕ) → k < length ps → followed k front bytes ≡ slice_index ps k
  pub there : (k : ℕ) → k < length ps → slice_index ps k + 8 ≤ length bytes
  pub once : (j k : ℕ) → j < k → k < length ps → slice_index ps j ≢ slice_index ps k
  pub ends : followed (length ps) front bytes ≡ chain_end

-- so it is between calls, where each block of the parent lies in its leaves' cells
abbrev pub ChainIsWalked : Type 0
ChainIsWalked =
    (least greatest : ℕ) (e : Rules) (fs : Fields) (s : State) (bytes : List ℕ) (cells : Cells) → Covering e → is_open s ≡ true
    → IsSettled (free_list_rules least greatest e) s cells → (free_list_rules least greatest e).is_image fs s bytes ≡ true → IsWalk bytes (kept_front (kept_of fs)) (cached_of s)
