-- Carving: a layer that takes one chunk of its parent as it is set up, and serves its blocks from that chunk alone.
-- A form says what it does in a record `Carving`; its rules follow.
use Rattle.std.specs.Prelude.{ℕ, suc, Bool, true, false, ◌&&◌, ◌||◌, not, List, [], ◌∷◌, Some}
use Rattle.space_core.specs.Cells.{Cells}
use Rattle.layer_rules.specs.declared.Block.{Block}
use Rattle.layer_rules.specs.declared.Fact.{Fact}
use Rattle.layer_rules.specs.declared.Offers.{Offers}
use Rattle.layer_rules.specs.After.{After, after, placed, Serve, refuse, Change, opened, reply}
use Rattle.layer_rules.specs.Allocating.{asked_for, over_limit_or}
use Rattle.layer_rules.specs.Blocks.{block, lies_in}
use Rattle.layer_rules.specs.Chunks.{at_chunk, has_chunk}
use Rattle.layer_rules.specs.Expanding.{asked_to_expand}
use Rattle.layer_rules.specs.Facts.{if_open}
use Rattle.layer_rules.specs.Fields.{Kept, kept_of, child_fields, node_numbers}
use Rattle.layer_rules.specs.Offering.{offers_of, if_served}
use Rattle.layer_rules.specs.Owning.{may_hold, is_plausible, is_some_block}
use Rattle.layer_rules.specs.Reallocating.{asked_to_reallocate, general_reallocate}
use Rattle.layer_rules.specs.Rules.{Rules}
use Rattle.layer_rules.specs.Setting.{open_chunk, need_of, if_set_up}
use Rattle.layer_rules.specs.State.{State, Own, no_children, open_with, one_child, is_open, own_of, child, with_own}
use Rattle.layer_rules.specs.Testing.{settled_if, on_open, is_over}

pub record Carving : Type 0 where
  -- ---- its chunk: the length for a need, what the layer opens with over it, and the chunk in what it holds of its own
  pub chunk_len : (need : ℕ) → ℕ
  pub first : (need : ℕ) → Block → Own
  pub chunk : Own → Block
  -- ---- what calls do, past the guards that each layer has
  pub allocate : (n : ℕ) → Serve
  pub aligned_allocate : (n a : ℕ) → Serve
  pub expand : (delta : ℕ) → Change
  pub deallocate : Change
  pub all_deallocated : Own → Own
  -- past the same guards, whether a request is refused; and whether a tail that is served from is free
  pub refuses : (n : ℕ) → Own → Bool
  pub refuses_aligned : (n a : ℕ) → Own → Bool
  pub has_free_tail : State → Bool
  -- ---- blocks: whether one is out, the bytes that it takes up, and the room in which all of them lie
  pub is_out : Block → Own → Bool
  pub extent : Block → Own → Block
  pub room : Own → Block
  -- ---- between calls: its numbers, of what its struct keeps and the bytes of the Space; whether they are of its kind, and in order;
  -- and whether its own bytes of the Space stand
  pub read : Kept → (bytes : List ℕ) → Own
  pub is_own : Own → Bool
  pub passes : Own → Bool
  pub is_image : Kept → Own → (bytes : List ℕ) → Bool
  -- ---- whose a byte of the chunk is: a block's, or its own
  pub is_taken : Own → (place : ℕ) → Bool
  pub is_meta : Own → (place : ℕ) → Bool
  -- ---- what is told
  pub offers : Offers
  pub alignment : ℕ
  pub rounded : ℕ → ℕ
  pub fact : Own → Fact

-- a layer with this of its own, for what goes by that alone
abbrev pub alone : Own → State
alone own = open_with own no_children

-- ---- what its calls leave

-- a block of n bytes from the place p on is served, and the layer holds this of its own then
abbrev pub carve : (n p : ℕ) → Own → Serve
carve n p own s cells = after (Some (placed (block p n) [])) (with_own s own) cells

-- a call on a block is done, and the layer holds this of its own then
abbrev pub hold_instead : Own → State → Cells → After Bool
hold_instead own s cells = after true (with_own s own) cells

-- ---- its rules

abbrev pub carve_aligned : (offered : Bool) (n : ℕ) → Serve → Serve
carve_aligned true n serve = asked_for n serve
carve_aligned false n serve = refuse

abbrev pub carving_rules : Carving → Rules → Rules
carving_rules c e = record {
  nodes = suc e.nodes;
  depth = suc e.depth;
  leaf_tags = e.leaf_tags;
  offers = let o = c.offers in offers_of true o.expand o.aligned o.all;
  alignment = c.alignment;
  good_alloc_size = λ n. if_served c.rounded n;
  set_up = λ need cells. open_chunk (c.chunk_len need) (c.first need) (e.set_up (need_of need (c.chunk_len need)) cells) (e.allocate (c.chunk_len need));
  allocate = λ n. asked_for n (c.allocate n);
  aligned_allocate = λ n a. carve_aligned c.offers.aligned n (c.aligned_allocate n a);
  expand = λ delta. asked_to_expand delta (c.expand delta);
  reallocate = λ n.
      asked_to_reallocate n c.deallocate (general_reallocate n c.offers (λ d. asked_to_expand d (c.expand d)) (asked_for n (c.allocate n)) c.deallocate);
  deallocate = c.deallocate;
  deallocate_all = λ s cells. opened (with_own s (c.all_deallocated (own_of s))) cells;
  owns = λ b s. reply (may_hold b s && lies_in b (c.room (own_of s))) s;
  -- its parent serves no block
  owns_at = λ path possible b s. at_chunk path possible (may_hold b s && lies_in b (c.room (own_of s)));
  refuses = λ n s cells. over_limit_or n (c.refuses n (own_of s));
  refuses_aligned = λ n a s cells. not c.offers.aligned || over_limit_or n (c.refuses_aligned n a (own_of s));
  has_free_tails = λ s. c.has_free_tail s && e.has_free_tails (child s 0);
  is_out = λ b s cells. is_some_block b s && c.is_out b (own_of s);
  holds = λ b s. may_hold b s && lies_in b (c.room (own_of s));
  route = λ b s. [];
  is_routed = λ b s. is_plausible b && lies_in b (c.room (own_of s));
  extent = λ b s. c.extent b (own_of s);
  read = λ fs bytes. if_set_up fs (open_with (c.read (kept_of fs) bytes) (one_child (e.read (child_fields fs 0) bytes)));
  is_settled = λ s cells.
      settled_if s e.leaf_tags cells
      (is_over c.is_own s && (c.passes (own_of s) && (has_chunk e (c.chunk (own_of s)) (child s 0) cells && e.is_settled (child s 0) cells)));
  is_image = λ fs s bytes.
      on_open s (c.is_image (kept_of fs) (own_of s) bytes
      && (e.is_clean (c.chunk (own_of s)) (child s 0) bytes && e.is_image (child_fields fs 0) (child s 0) bytes));
  is_clean = λ b s bytes. true;
  is_marked = λ b s bytes. true;
  is_occupied = λ s cells k. is_open s && c.is_taken (own_of s) k;
  is_meta = λ s k. is_open s && (c.is_meta (own_of s) k || (e.is_affix_byte (c.chunk (own_of s)) (child s 0) k || e.is_meta (child s 0) k));
  is_affix_byte = λ b s k. false;
  state_numbers = λ fs. node_numbers fs ∷ e.state_numbers (child_fields fs 0);
  facts = λ s cells. if_open s (c.fact (own_of s)) ∷ e.facts (child s 0) cells;
}
