-- Handing down: a layer over one parent that hands it each block, changed or as it is, and keeps at most numbers of its own.
-- A form says what it does in a record `Handing`; its rules follow.
use Rattle.std.specs.Prelude.{ℕ, suc, ◌+◌, ◌-◌, Bool, true, false, ◌&&◌, ◌||◌, not, List, [], ◌∷◌, Option, Err, is_some, nat_eq, nat_le, cond}
use Rattle.size_round.specs.Sizes.{limit}
use Rattle.space_core.specs.Cells.{Cells}
use Rattle.layer_rules.specs.declared.Asked.{Asked}
use Rattle.layer_rules.specs.declared.Block.{Block}
use Rattle.layer_rules.specs.declared.Fact.{Fact}
use Rattle.layer_rules.specs.declared.Fact.TheVariants as Said
use Rattle.layer_rules.specs.declared.Offers.{Offers}
use Rattle.layer_rules.specs.Blocks.{no_block}
use Rattle.layer_rules.specs.State.{State, Own, nothing, open_with, one_child, child, own_of, with_own}
use Rattle.layer_rules.specs.Fields.{Kept, kept_of, child_fields, node_numbers}
use Rattle.layer_rules.specs.After.{After, after, answering, Placed, Serve, refuse, Opened, Change, change_child, Reallocated, moved_to, emptied, unmoved, Reallocate, Reply, reply}
use Rattle.layer_rules.specs.Allocating.{serve_parent, over_limit_or}
use Rattle.layer_rules.specs.Deallocating.{own_instead, emptied_child}
use Rattle.layer_rules.specs.Expanding.{change_if}
use Rattle.layer_rules.specs.Facts.{if_open}
use Rattle.layer_rules.specs.Offering.{offers_of, is_served_size}
use Rattle.layer_rules.specs.Owning.{is_plausible, may_hold, is_some_block, owns_child_if, at_end, into_parent}
use Rattle.layer_rules.specs.Reallocating.{in_place, asked_to_reallocate, general_reallocate, reallocate_child, either_reallocate}
use Rattle.layer_rules.specs.Setting.{open_parent, if_set_up}
use Rattle.layer_rules.specs.Rules.{Rules}
use Rattle.layer_rules.specs.Testing.{settled_if, on_open, is_over, is_nothing}

pub record Handing : Type 0 where
  -- ---- blocks
  -- a block as the parent sees it, and whether it can be handed down at all
  pub down : Block → Block
  pub fits : Block → Bool
  -- what the parent is asked in place of n, and how its answer is shown
  pub asked : ℕ → ℕ
  pub shown : (n : ℕ) → Block → Block
  -- whether requests at an alignment are handed down
  pub aligns : Bool
  -- whether the parent is asked to make a block longer
  pub expands : Bool
  -- whether a block of one length has another where it stands and as it is; whether else it is reallocated by the general
  -- form, or by the parent
  pub in_place : (len n : ℕ) → Bool
  pub moves : Bool
  -- ---- numbers of its own
  -- whether they are in order, those that its struct keeps, and those that it opens with
  pub passes : Own → Bool
  pub kept : Kept → Own
  pub first : Own
  -- whether a request of n goes down, and the numbers after each call: a request, an expansion by delta bytes, a reallocation
  -- to n bytes, a block that came back, all blocks that did, and a block that was asked for
  pub admits : (n : ℕ) → Own → Bool
  pub allocated : (ok : Bool) (n : ℕ) → Own → Own
  pub expanded : (ok : Bool) (delta : ℕ) → Block → Own → Own
  pub reallocated : (n : ℕ) → Block → Reallocated → Own → Own
  pub deallocated : (ok : Bool) → Block → Own → Own
  pub all_deallocated : Own → Own
  pub owned : Own → Own
  -- ---- bytes round a block: as the layer wrote them, as far as its caller has to keep them, and which these are
  pub clean : Block → (bytes : List ℕ) → Bool
  pub marked : Block → (bytes : List ℕ) → Bool
  pub is_around : Block → (place : ℕ) → Bool
  -- ---- setting up: whether it opens for a need, and the parent's need
  pub opens_for : (need : ℕ) → Bool
  pub need : ℕ → ℕ
  -- ---- what is told
  pub offers : Offers
  pub alignment : ℕ
  pub good_alloc_size : ℕ → ℕ
  pub fact : Own → Fact

-- all is the parent's, as it is
abbrev pub as_it_is : Rules → Handing
as_it_is e = record {
  down = λ b. b;
  fits = λ b. true;
  asked = λ n. n;
  shown = λ n b. b;
  aligns = true;
  expands = true;
  in_place = λ len n. false;
  moves = false;
  passes = is_nothing;
  kept = λ k. nothing;
  first = nothing;
  admits = λ n own. true;
  allocated = λ ok n own. own;
  expanded = λ ok delta b own. own;
  reallocated = λ n b r own. own;
  deallocated = λ ok b own. own;
  all_deallocated = λ own. own;
  owned = λ own. own;
  clean = λ b bytes. true;
  marked = λ b bytes. true;
  is_around = λ b k. false;
  opens_for = λ need. true;
  need = λ need. need;
  offers = e.offers;
  alignment = e.alignment;
  good_alloc_size = e.good_alloc_size;
  fact = λ own. Said.Plain;
}

-- ---- a request

-- A request of 0 bytes changes nothing. Any other is counted, also one that does not go down.
abbrev pub count_request : Handing → ℕ → After (Option Placed) → After (Option Placed)
count_request h n r = after r.answer (with_own r.state (h.allocated (is_some r.answer) n (own_of r.state))) r.cells

abbrev pub hand_request : Handing → (empty goes_down : Bool) (n : ℕ) → Serve → Serve
hand_request h true goes n serve s cells = refuse s cells
hand_request h false true n serve s cells = count_request h n (serve_parent (h.shown n) serve s cells)
hand_request h false false n serve s cells = count_request h n (refuse s cells)

abbrev pub hand_allocate : Handing → ℕ → Serve → Serve
hand_allocate h n serve s = hand_request h (nat_eq n 0) (nat_le n limit && h.admits n (own_of s)) n serve s

abbrev pub hand_aligned : Handing → (handed : Bool) (n : ℕ) → Serve → Serve
hand_aligned h true n serve s cells = hand_allocate h n serve s cells
hand_aligned h false n serve s cells = refuse s cells

abbrev pub hand_refuses : Handing → ℕ → (State → Cells → Bool) → State → Cells → Bool
hand_refuses h n refuses s cells = over_limit_or n (not (h.admits n (own_of s)) || refuses (child s 0) cells)

-- ---- a block that comes back, and all blocks

abbrev pub hand_deallocate : Handing → Change → Change
hand_deallocate h change b s cells =
    let r = change_child 0 change (h.down b) s cells in after r.answer (with_own r.state (h.deallocated r.answer b (own_of s))) r.cells

abbrev pub hand_deallocate_all : Handing → (State → Cells → Opened) → State → Cells → Opened
hand_deallocate_all h empty s cells = own_instead (λ t. with_own t (h.all_deallocated (own_of t))) (emptied_child s 0 empty cells)

-- ---- a block that grows

-- The parent is asked for what its own length of the block lacks, if at all; where its length is enough it is not asked.
abbrev pub count_expansion : Handing → (delta : ℕ) → Block → After Bool → After Bool
count_expansion h delta b r = after r.answer (with_own r.state (h.expanded r.answer delta b (own_of r.state))) r.cells

abbrev pub hand_expansion : Handing → (by_none goes_down enough : Bool) (delta : ℕ) → Change → Block → Change
hand_expansion h true goes enough delta change b down s cells = after true s cells
hand_expansion h false false enough delta change b down s cells = count_expansion h delta b (after false s cells)
hand_expansion h false true true delta change b down s cells = count_expansion h delta b (after true s cells)
hand_expansion h false true false delta change b down s cells = count_expansion h delta b (change_child 0 change down s cells)

abbrev pub hand_expand : Handing → Rules → (delta : ℕ) → Change
hand_expand h e delta b s =
    let less = h.asked b.len in
    let more = h.asked (b.len + delta) in
    hand_expansion h (nat_eq delta 0) (nat_le (b.len + delta) limit && h.admits delta (own_of s)) (nat_eq less more) delta (change_if h.expands (e.expand (more - less))) b (h.down b) s

-- ---- a block that gets another length

abbrev pub shown_by : (Block → Block) → Reallocated → Reallocated
shown_by shown (moved_to b) = moved_to (shown b)
shown_by shown emptied = emptied
shown_by shown unmoved = unmoved

-- by the general form, or by the parent, shown with n bytes
abbrev pub hand_move : Handing → Rules → (n : ℕ) → Reallocate
hand_move h e n =
    either_reallocate h.moves
    (general_reallocate n h.offers (λ d. hand_expand h e d) (hand_allocate h n (e.allocate (h.asked n))) (hand_deallocate h e.deallocate))
    (λ b s cells. answering (shown_by (h.shown n)) (reallocate_child 0 (e.reallocate (h.asked n)) (h.down b) s cells))

abbrev pub count_reallocation : Handing → (n : ℕ) → Block → After Reallocated → After Reallocated
count_reallocation h n b r = after r.answer (with_own r.state (h.reallocated n b r.answer (own_of r.state))) r.cells

-- One to the same length, and one to 0 bytes, is not counted as one.
abbrev pub hand_reallocation : Handing → (uncounted_call : Bool) (n : ℕ) → Change → Reallocate → Reallocate
hand_reallocation h true n give move b s cells = asked_to_reallocate n give move b s cells
hand_reallocation h false n give move b s cells = count_reallocation h n b (asked_to_reallocate n give move b s cells)

abbrev pub hand_reallocate : Handing → Rules → (n : ℕ) → Reallocate
hand_reallocate h e n b =
    hand_reallocation h (nat_eq n b.len || nat_eq n 0) n (hand_deallocate h e.deallocate)
    (λ c. either_reallocate (h.in_place c.len n) (in_place n) (hand_move h e n) c) b

-- ---- whose a block is

abbrev pub hand_owns : Handing → Rules → Block → State → Reply
hand_owns h e b s =
    let r = owns_child_if (may_hold b s && h.fits b) 0 (λ c. e.owns (h.down b)) b s in
    reply r.owned (with_own r.state (h.owned (own_of r.state)))

abbrev pub hand_holds : Handing → Rules → Block → State → Bool
hand_holds h e b s = may_hold b s && (h.fits b && e.holds (h.down b) (child s 0))

abbrev pub hand_owns_at : Handing → Rules → (path : List ℕ) (possible : Bool) → Block → State → Asked
hand_owns_at h e [] possible b s = at_end e.offers.owns possible (hand_holds h e b s)
hand_owns_at h e (i ∷ path) possible b s =
    into_parent i (e.owns_at path (possible && (is_served_size b.len && h.fits b)) (h.down b) (child s 0))

unfoldable pub handing_rules : Handing → Rules → Rules
handing_rules h e = record {
  nodes = suc e.nodes;
  depth = suc e.depth;
  leaf_tags = e.leaf_tags;
  -- it owns as far as its parent does
  offers = let o = h.offers in offers_of e.offers.owns o.expand o.aligned o.all;
  alignment = h.alignment;
  good_alloc_size = h.good_alloc_size;
  set_up = λ need cells. elim (h.opens_for need) [ true ↦ open_parent h.first (e.set_up (h.need need) cells) | false ↦ Err 0 ];
  allocate = λ n. hand_allocate h n (e.allocate (h.asked n));
  aligned_allocate = λ n a. hand_aligned h h.aligns n (e.aligned_allocate (h.asked n) a);
  expand = hand_expand h e;
  reallocate = hand_reallocate h e;
  deallocate = hand_deallocate h e.deallocate;
  deallocate_all = hand_deallocate_all h e.deallocate_all;
  owns = hand_owns h e;
  owns_at = hand_owns_at h e;
  refuses = λ n. hand_refuses h n (e.refuses (h.asked n));
  refuses_aligned = λ n a s cells. not h.aligns || hand_refuses h n (e.refuses_aligned (h.asked n) a) s cells;
  has_free_tails = λ s. e.has_free_tails (child s 0);
  is_out = λ b s cells. is_some_block b s && (h.fits b && e.is_out (h.down b) (child s 0) cells);
  holds = hand_holds h e;
  route = λ b s. 0 ∷ e.route (h.down b) (child s 0);
  is_routed = λ b s. is_plausible b && (h.fits b && e.is_routed (h.down b) (child s 0));
  extent = λ b s. cond (h.fits b) (e.extent (h.down b) (child s 0)) no_block;
  read = λ fs bytes. if_set_up fs (open_with (h.kept (kept_of fs)) (one_child (e.read (child_fields fs 0) bytes)));
  is_settled = λ s cells. settled_if s e.leaf_tags cells (is_over h.passes s && e.is_settled (child s 0) cells);
  is_image = λ fs s bytes. on_open s (e.is_image (child_fields fs 0) (child s 0) bytes);
  is_clean = λ b s bytes. h.clean b bytes && e.is_clean (h.down b) (child s 0) bytes;
  is_marked = λ b s bytes. h.marked b bytes && e.is_clean (h.down b) (child s 0) bytes;
  is_occupied = λ s cells k. e.is_occupied (child s 0) cells k;
  is_meta = λ s k. e.is_meta (child s 0) k;
  is_affix_byte = λ b s k. h.fits b && (h.is_around b k || e.is_affix_byte (h.down b) (child s 0) k);
  state_numbers = λ fs. node_numbers fs ∷ e.state_numbers (child_fields fs 0);
  facts = λ s cells. if_open s (h.fact (own_of s)) ∷ e.facts (child s 0) cells;
}
