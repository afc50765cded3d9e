-- A free list: blocks of one length that were given back stand in a chain, and are handed out again front first.
use Rattle.size_round.specs.Sizes.{is_between}
use Rattle.std.specs.Prelude.{ℕ, zero, suc, ◌+◌, Bool, true, false, ◌&&◌, ◌||◌, not, List, [], ◌∷◌, length, cond, Some, nat_eq}
use Rattle.std.specs.List.{list_all, list_any}
use Rattle.space_core.specs.Cells.{Cells}
use Rattle.space_core.specs.Words.{word_at, has_bytes}
use Rattle.layer_rules.specs.declared.Asked.{Asked}
use Rattle.layer_rules.specs.declared.Block.{Block}
use Rattle.layer_rules.specs.declared.Fact.TheVariants as Said
use Rattle.layer_rules.specs.declared.Offers.{Offers}
use Rattle.layer_rules.specs.Blocks.{block, with_len, has_place, is_apart}
use Rattle.layer_rules.specs.State.{State, Own, open_with, cache_own, one_child, child, with_own, cached_of}
use Rattle.layer_rules.specs.Fields.{Fields, chain_end, kept_of, child_fields, kept_count, kept_front, node_numbers}
use Rattle.layer_rules.specs.After.{after, placed, Serve, refuse, Change, change_child, Reallocate}
use Rattle.layer_rules.specs.Allocating.{asked_for, serve_parent, truncated, over_limit_or}
use Rattle.layer_rules.specs.Deallocating.{own_instead, emptied_child}
use Rattle.layer_rules.specs.Expanding.{asked_to_expand, expand_by_lack}
use Rattle.layer_rules.specs.Facts.{if_open}
use Rattle.layer_rules.specs.Offering.{offers_of, if_served, is_served_size}
use Rattle.layer_rules.specs.Owning.{is_plausible, may_hold, is_some_block, owns_child_if, at_end, into_parent}
use Rattle.layer_rules.specs.Reallocating.{asked_to_reallocate, general_reallocate}
use Rattle.layer_rules.specs.Setting.{need_of, open_parent, if_set_up}
use Rattle.layer_rules.specs.Rules.{Rules}
use Rattle.layer_rules.specs.Testing.{settled_if, on_open, is_over, is_word}

-- ---- lengths

-- the length that the parent serves for n
abbrev pub cache_size : (least greatest : ℕ) → ℕ → ℕ
cache_size least greatest n = cond (is_between least greatest n) greatest n

-- the block as the parent sees it
abbrev pub cache_down : (least greatest : ℕ) → Block → Block
cache_down least greatest b = with_len b (cache_size least greatest b.len)

-- the parent's need
abbrev pub cache_need : (least greatest need : ℕ) → ℕ
cache_need least greatest need = need_of need (cond (is_between least greatest need) greatest need)

-- the size that is best asked in place of n
abbrev pub cache_good : (least greatest : ℕ) → (ℕ → ℕ) → ℕ → ℕ
cache_good least greatest parent n = if_served (λ m. elim (is_between least greatest m) [ true ↦ greatest | false ↦ parent m ]) n

-- ---- the chain: the word at the place of each cached block is the place of the next one

-- the front of the chain
abbrev pub first_of : List ℕ → ℕ
first_of [] = chain_end
first_of (p ∷ ps) = p

-- the places of a chain, followed for at most so many steps; a word outside the Space ends the walk
unfoldable pub read_chain : (steps place : ℕ) → List ℕ → List ℕ
read_chain zero p bytes = []
read_chain (suc n) p bytes = elim (has_bytes bytes p 8) [ true ↦ p ∷ read_chain n (word_at bytes p) bytes | false ↦ [] ]

-- the word at each place is the next place
abbrev pub is_chain : List ℕ → (places : List ℕ) → Bool
is_chain bytes [] = true
is_chain bytes (p ∷ ps) = is_word bytes p (first_of ps) && is_chain bytes ps

-- ---- the cached blocks

-- what an open free list holds of its own: the places of its cached blocks
abbrev pub is_cache_own : Own → Bool
is_cache_own (cache_own places) = true
is_cache_own own = false

-- the extent of a cached block
abbrev pub cached_extent : Rules → (greatest : ℕ) → (parent : State) → (place : ℕ) → Block
cached_extent e greatest t p = e.extent (block p greatest) t

-- the block is apart from the cached block at each of these places
abbrev pub is_apart_from : Rules → State → (greatest : ℕ) → Block → List ℕ → Bool
is_apart_from e t greatest b ps = list_all (λ p. is_apart (e.extent b t) (cached_extent e greatest t p)) ps

-- each cached block is out of the parent, and no byte is in two of their extents
abbrev pub is_cache : Rules → (greatest : ℕ) → List ℕ → (parent : State) → Cells → Bool
is_cache e greatest [] t cells = true
is_cache e greatest (p ∷ ps) t cells =
    e.is_out (block p greatest) t cells && (is_apart_from e t greatest (block p greatest) ps && is_cache e greatest ps t cells)

-- so between calls, over an open and sound parent
abbrev pub cache_settled : (greatest : ℕ) → Rules → State → Cells → Bool
cache_settled greatest e s cells =
    is_over is_cache_own s && (is_cache e greatest (cached_of s) (child s 0) cells && e.is_settled (child s 0) cells)

-- the numbers of the struct and the words of the chain
abbrev pub is_cache_image : Fields → State → List ℕ → Bool
is_cache_image fs s bytes =
    nat_eq (kept_count (kept_of fs)) (length (cached_of s))
    && (nat_eq (kept_front (kept_of fs)) (first_of (cached_of s)) && is_chain bytes (cached_of s))

-- what is round each cached block is as the layers below wrote it
abbrev pub are_cached_clean : Rules → (greatest : ℕ) → List ℕ → (parent : State) → (bytes : List ℕ) → Bool
are_cached_clean e greatest ps t bytes = list_all (λ p. e.is_clean (block p greatest) t bytes) ps

-- a byte of a cached block's extent
abbrev pub is_cached_byte : Rules → (greatest : ℕ) → State → ℕ → Bool
is_cached_byte e greatest s k = list_any (λ p. has_place (cached_extent e greatest (child s 0) p) k) (cached_of s)

-- a byte of a word of the chain
abbrev pub is_chain_byte : State → ℕ → Bool
is_chain_byte s k = list_any (λ p. has_place (block p 8) k) (cached_of s)

-- a byte of an affix round a cached block
abbrev pub is_cached_affix : Rules → (greatest : ℕ) → State → ℕ → Bool
is_cached_affix e greatest s k = list_any (λ p. e.is_affix_byte (block p greatest) (child s 0) k) (cached_of s)

-- ---- a request

-- the front of the cache, with the route of the cached block in the parent
abbrev pub cache_front : (n : ℕ) (route_of : ℕ → List ℕ) (from_parent : Serve) → Serve
cache_front n route_of from_parent s cells =
    elim (cached_of s) [
      | [] ↦ from_parent s cells
      | p ∷ ps ↦ after (Some (placed (block p n) (0 ∷ route_of p))) (with_own s (cache_own ps)) cells
    ]

-- A length that the cache is for takes the front, else a whole block of the parent; any other is the parent's.
abbrev pub cache_allocate : (is_cached : Bool) (n : ℕ) (route_of : State → ℕ → List ℕ) (whole exact : Serve) → Serve
cache_allocate true n route_of whole exact s cells = cache_front n (route_of s) (serve_parent (truncated n) whole) s cells
cache_allocate false n route_of whole exact s cells = serve_parent (λ b. b) exact s cells

-- a request of n bytes
abbrev pub free_list_allocate : (least greatest : ℕ) → Rules → (n : ℕ) → Serve
free_list_allocate least greatest e n =
    asked_for n (cache_allocate (is_between least greatest n) n (λ s p. e.route (block p greatest) (child s 0)) (e.allocate greatest) (e.allocate n))

-- no block is cached
abbrev pub is_empty : List ℕ → Bool
is_empty [] = true
is_empty (p ∷ ps) = false

-- so in this state
abbrev pub cache_is_empty : State → Bool
cache_is_empty s = is_empty (cached_of s)

-- ---- blocks that come back, grow, and get another length

-- to the front of the cache, or to the parent
abbrev pub cache_deallocate : (least greatest : ℕ) → Change → Change
cache_deallocate least greatest parent b s cells =
    elim (is_between least greatest b.len) [
      | true ↦ after true (with_own s (cache_own (b.place ∷ cached_of s))) cells
      | false ↦ change_child 0 parent b s cells
    ]

-- The parent is asked for what its own length of the block lacks.
abbrev pub cache_expand : (least greatest : ℕ) → (parent : ℕ → Change) → (delta : ℕ) → Change
cache_expand least greatest parent delta =
    asked_to_expand delta (λ b.
    expand_by_lack (cache_size least greatest b.len) (cache_size least greatest (b.len + delta)) parent (cache_down least greatest b))

-- what the parent offers, but for places at an alignment that the call names
abbrev pub free_list_offers : Offers → Offers
free_list_offers o = offers_of o.owns o.expand false o.all

-- by the general form
abbrev pub free_list_reallocate : (least greatest : ℕ) → Rules → (n : ℕ) → Reallocate
free_list_reallocate least greatest e n =
    let give = cache_deallocate least greatest e.deallocate in
    asked_to_reallocate n give
    (general_reallocate n (free_list_offers e.offers) (cache_expand least greatest e.expand) (free_list_allocate least greatest e n) give)

-- ---- whose a block is

-- whether the parent holds the block as it sees it
abbrev pub cache_holds : (least greatest : ℕ) → Rules → Block → State → Bool
cache_holds least greatest e b s = may_hold b s && e.holds (cache_down least greatest b) (child s 0)

-- the layer itself, or a step to the parent
abbrev pub cache_owns_at : (least greatest : ℕ) → Rules → (path : List ℕ) (possible : Bool) → Block → State → Asked
cache_owns_at least greatest e [] possible b s = at_end e.offers.owns possible (cache_holds least greatest e b s)
cache_owns_at least greatest e (i ∷ path) possible b s =
    into_parent i (e.owns_at path (possible && is_served_size b.len) (cache_down least greatest b) (child s 0))

-- all of a free list
unfoldable pub free_list_rules : (least greatest : ℕ) → Rules → Rules
unfolding read_chain
free_list_rules least greatest e = record {
  nodes = suc e.nodes;
  depth = suc e.depth;
  leaf_tags = e.leaf_tags;
  offers = free_list_offers e.offers;
  alignment = e.alignment;
  good_alloc_size = cache_good least greatest e.good_alloc_size;
  set_up = λ need cells. open_parent (cache_own []) (e.set_up (cache_need least greatest need) cells);
  allocate = free_list_allocate least greatest e;
  aligned_allocate = λ n a. refuse;
  expand = cache_expand least greatest e.expand;
  reallocate = free_list_reallocate least greatest e;
  deallocate = cache_deallocate least greatest e.deallocate;
  deallocate_all = λ s cells. own_instead (λ t. with_own t (cache_own [])) (emptied_child s 0 e.deallocate_all cells);
  owns = λ b s. owns_child_if (may_hold b s) 0 (λ c. e.owns (cache_down least greatest b)) b s;
  owns_at = cache_owns_at least greatest e;
  refuses = λ n s cells.
      over_limit_or n (cond (is_between least greatest n) (cache_is_empty s && e.refuses greatest (child s 0) cells) (e.refuses n (child s 0) cells));
  refuses_aligned = λ n a s cells. true;
  has_free_tails = λ s. e.has_free_tails (child s 0);
  is_out = λ b s cells.
      is_some_block b s && (e.is_out (cache_down least greatest b) (child s 0) cells
      && is_apart_from e (child s 0) greatest (cache_down least greatest b) (cached_of s));
  holds = cache_holds least greatest e;
  route = λ b s. 0 ∷ e.route (cache_down least greatest b) (child s 0);
  is_routed = λ b s. is_plausible b && e.is_routed (cache_down least greatest b) (child s 0);
  extent = λ b s. e.extent (cache_down least greatest b) (child s 0);
  read = λ fs bytes.
      if_set_up fs (open_with (cache_own (read_chain (kept_count (kept_of fs)) (kept_front (kept_of fs)) bytes)) (one_child (e.read (child_fields fs 0) bytes)));
  is_settled = λ s cells. settled_if s e.leaf_tags cells (cache_settled greatest e s cells);
  is_image = λ fs s bytes.
      on_open s (is_cache_image fs s bytes
      && (are_cached_clean e greatest (cached_of s) (child s 0) bytes && e.is_image (child_fields fs 0) (child s 0) bytes));
  is_clean = λ b s bytes. e.is_clean (cache_down least greatest b) (child s 0) bytes;
  is_marked = λ b s bytes. e.is_clean (cache_down least greatest b) (child s 0) bytes;
  is_occupied = λ s cells k. e.is_occupied (child s 0) cells k && not (is_cached_byte e greatest s k);
  is_meta = λ s k. is_chain_byte s k || (is_cached_affix e greatest s k || e.is_meta (child s 0) k);
  is_affix_byte = λ b s k. e.is_affix_byte (cache_down least greatest b) (child s 0) k;
  state_numbers = λ fs. node_numbers fs ∷ e.state_numbers (child_fields fs 0);
  facts = λ s cells. if_open s (Said.Cached (length (cached_of s))) ∷ e.facts (child s 0) cells;
}
