-- A list: members of which each is set up when it is first needed. The open ones are asked in order, most recently used first, and
-- then the first closed one. A block is the first open member's, in that order, that holds it.
use Rattle.std.proofs.Math.Bool.{beq}
use Rattle.std.specs.Prelude.{ℕ, suc, ◌+◌, Bool, true, false, ◌&&◌, not, List, [], ◌∷◌, Option, Some, None, Ok, Err, length, filter, find, cond, unwrap_or, is_some, nat_eq, nat_lt, nat_le}
use Rattle.std.specs.List.{list_all, list_any}
use Rattle.size_round.specs.Sizes.{limit}
use Rattle.space_core.specs.Cells.{Cells}
use Rattle.layer_rules.specs.declared.Asked.{Asked}
use Rattle.layer_rules.specs.declared.Block.{Block}
use Rattle.layer_rules.specs.declared.Fact.TheVariants as Said
use Rattle.layer_rules.specs.Blocks.{no_block}
use Rattle.layer_rules.specs.State.{State, closed, open_with, Own, nothing, region_own, bitmap_own, kr_own, cache_own, stats_own, order_own, row_own, States, no_children, child_and, is_open, child, children_of, with_children, with_own, order_of}
use Rattle.layer_rules.specs.Fields.{kept_of, kept_members, node_numbers}
use Rattle.layer_rules.specs.After.{After, after, Placed, Serve, refuse, serve_below, opened, Opening, Change, change_child, Reallocate, Reply, reply, Owning}
use Rattle.layer_rules.specs.Allocating.{asked_for, serve_member, over_limit_or}
use Rattle.layer_rules.specs.Expanding.{asked_to_expand}
use Rattle.layer_rules.specs.Facts.{if_open}
use Rattle.layer_rules.specs.Members.{nth, nodes_of, depth_of, tags_of, offers_of_all, least_alignment, into_member, have_free_tails, read_each, are_images, is_occupied_in, is_meta_in, state_numbers_each, facts_each}
use Rattle.layer_rules.specs.Offering.{offers_of, is_served_size}
use Rattle.layer_rules.specs.declared.Offers.{Offers}
use Rattle.layer_rules.specs.Owning.{is_plausible, may_hold, is_some_block, owns_child_if, owns_if, at_end}
use Rattle.layer_rules.specs.Reallocating.{asked_to_reallocate, general_reallocate}
use Rattle.layer_rules.specs.Rules.{Rules, without_leaves}
use Rattle.layer_rules.specs.Setting.{if_set_up}
use Rattle.layer_rules.specs.Testing.{settled_if, on_open}
use Rattle.fallback_rules.specs.FallbackRules.{or_else}

-- ---- the order of use

-- the order with i at its front
abbrev pub to_front : ℕ → List ℕ → List ℕ
to_front i order = i ∷ filter (λ j. not (nat_eq i j)) order

abbrev pub used_last : ℕ → State → State
used_last i s = with_own s (order_own (to_front i (order_of s)))

-- the number of the first member of the order that holds the block
abbrev pub holder : List Rules → Block → State → Option ℕ
holder es b s = find (λ i. (nth es i).holds b (child s i)) (order_of s)

-- ---- a request to the open members

-- A block that the member i served, which comes to the front; where there is none, what the next one serves.
abbrev pub front_answer_or : Option Placed → ℕ → Serve → Serve
front_answer_or None i next s cells = next s cells
front_answer_or (Some p) i next s cells = after (Some p) (used_last i s) cells

abbrev pub or_next : ℕ → Serve → After (Option Placed) → After (Option Placed)
or_next i next r = front_answer_or r.answer i next r.state r.cells

-- the first of these open members that serves
unfoldable pub first_serving : (serve : ℕ → Serve) → List ℕ → Serve
first_serving serve [] s cells = refuse s cells
first_serving serve (i ∷ is) s cells = or_next i (first_serving serve is) (serve_member (λ b. b) i (serve i) s cells)

-- ---- a request to a closed member

-- the number of the first closed child
unfoldable pub first_closed : ℕ → States → Option ℕ
first_closed i no_children = None
first_closed i (child_and s ss) = elim (is_open s) [ true ↦ first_closed (suc i) ss | false ↦ Some i ]

abbrev pub fresh_or : Option Placed → ℕ → (old : State) (old_cells : Cells) → Serve
fresh_or None i old old_cells s cells = refuse old old_cells
fresh_or (Some p) i old old_cells s cells = after (Some p) (used_last i s) cells

-- What a fresh member served; where it refused it is closed again, and all is as before.
abbrev pub keep_fresh : ℕ → State → Cells → After (Option Placed) → After (Option Placed)
keep_fresh i s cells r = fresh_or r.answer i s cells r.state r.cells

abbrev pub ask_fresh : ℕ → Serve → Opening → Serve
ask_fresh i serve (Err node) s cells = refuse s cells
ask_fresh i serve (Ok o) s cells = keep_fresh i s cells (serve_below (λ b. b) i serve s o.state o.cells)

-- the closed member with the lowest number is opened with a need, and asked
abbrev pub serve_closed : Option ℕ → (serve : ℕ → Serve) (open_member : ℕ → Cells → Opening) → Serve
serve_closed None serve open_member s cells = refuse s cells
serve_closed (Some i) serve open_member s cells = ask_fresh i (serve i) (open_member i cells) s cells

-- the closed member that is left to be opened, where one may be tried
abbrev pub closed_left : (tried : Bool) → State → Option ℕ
closed_left true s = first_closed 0 (children_of s)
closed_left false s = None

abbrev pub serve_fresh : (tried : Bool) (serve : ℕ → Serve) (open_member : ℕ → Cells → Opening) → Serve
serve_fresh tried serve open_member s cells = serve_closed (closed_left tried s) serve open_member s cells

-- the open members in order, and then a fresh one where it may be tried
abbrev pub list_allocate : (tried : Bool) (serve : ℕ → Serve) (open_member : ℕ → Cells → Opening) → Serve
list_allocate tried serve open_member s cells = or_else (serve_fresh tried serve open_member) (first_serving serve (order_of s) s cells)

abbrev pub members_allocate : List Rules → (n : ℕ) → Serve
members_allocate es n = asked_for n (list_allocate true (λ i. (nth es i).allocate n) (λ i cells. (nth es i).set_up n cells))

-- where n + a is above the limit no closed member is tried
abbrev pub members_aligned_allocate : List Rules → (n a : ℕ) → Serve
members_aligned_allocate es n a =
    asked_for n (list_allocate (nat_le (n + a) limit) (λ i. (nth es i).aligned_allocate n a) (λ i cells. (nth es i).set_up (n + a) cells))

-- ---- when a request is refused

-- no closed member is left, or the first one is not opened, or it refuses in the state and table that opening it gives
abbrev pub opened_refuses : Opening → (State → Cells → Bool) → Bool
opened_refuses (Err node) refuses = true
opened_refuses (Ok o) refuses = refuses o.state o.cells

abbrev pub closed_refuses : Option ℕ → (open_member : ℕ → Cells → Opening) (refuses : ℕ → State → Cells → Bool) → Cells → Bool
closed_refuses None open_member refuses cells = true
closed_refuses (Some i) open_member refuses cells = opened_refuses (open_member i cells) (refuses i)

abbrev pub fresh_refuses : (tried : Bool) (open_member : ℕ → Cells → Opening) (refuses : ℕ → State → Cells → Bool) → State → Cells → Bool
fresh_refuses tried open_member refuses s cells = closed_refuses (closed_left tried s) open_member refuses cells

-- each open member refuses, and a fresh one too, where it may be tried
abbrev pub list_refuses : (tried : Bool) (open_member : ℕ → Cells → Opening) (refuses : ℕ → State → Cells → Bool) → State → Cells → Bool
list_refuses tried open_member refuses s cells =
    list_all (λ i. refuses i (child s i) cells) (order_of s) && fresh_refuses tried open_member refuses s cells

-- ---- a block that grows, that comes back, or that gets another length

abbrev pub change_holder : Option ℕ → (ℕ → Change) → Change
change_holder None change b s cells = after false s cells
change_holder (Some i) change b s cells = change_child i (change i) b s cells

abbrev pub members_expand : List Rules → (delta : ℕ) → Change
members_expand es delta = asked_to_expand delta (λ b s. change_holder (holder es b s) (λ i. (nth es i).expand delta) b s)

-- The holder comes to the front, whichever the answer.
abbrev pub list_deallocate : Option ℕ → (ℕ → Change) → Change
list_deallocate None change b s cells = after false s cells
list_deallocate (Some i) change b s cells =
    let r = change_child i (change i) b s cells in after r.answer (used_last i r.state) r.cells

abbrev pub members_deallocate : List Rules → Change
members_deallocate es b s = list_deallocate (holder es b s) (λ i. (nth es i).deallocate) b s

-- a list offers owns and all whatever its members do
abbrev pub list_offers : List Rules → Offers
list_offers es = let o = offers_of_all es in offers_of true o.expand o.aligned true

abbrev pub members_reallocate : List Rules → (n : ℕ) → Reallocate
members_reallocate es n =
    asked_to_reallocate n (members_deallocate es)
    (general_reallocate n (list_offers es) (λ d. members_expand es d) (members_allocate es n) (members_deallocate es))

-- ---- all blocks: the open members are torn down

-- a closed child for each member
abbrev pub all_closed : List Rules → States
all_closed [] = no_children
all_closed (e ∷ es) = child_and closed (all_closed es)

-- the table after the open members are torn down
abbrev pub without_open : List Rules → States → Cells → Cells
without_open [] ss cells = cells
without_open (e ∷ es) no_children cells = cells
without_open (e ∷ es) (child_and s ss) cells = without_open es ss (cond (is_open s) (without_leaves e cells) cells)

-- ---- whose a block is

-- on a yes the member comes to the front, and on a no the next one is asked
abbrev pub front_or : (owned : Bool) → ℕ → (State → Reply) → State → Reply
front_or true i next s = reply true (used_last i s)
front_or false i next s = next s

abbrev pub or_owns_next : ℕ → (State → Reply) → Reply → Reply
or_owns_next i next r = front_or r.owned i next r.state

unfoldable pub owns_members : (ℕ → Owning) → List ℕ → Owning
owns_members owns [] b s = reply false s
owns_members owns (i ∷ is) b s = or_owns_next i (owns_members owns is b) (owns_child_if true i (owns i) b s)

abbrev pub list_holds : List Rules → Block → State → Bool
list_holds es b s = may_hold b s && list_any (λ i. (nth es i).holds b (child s i)) (order_of s)

abbrev pub list_owns_at : List Rules → (path : List ℕ) (possible : Bool) → Block → State → Asked
list_owns_at es [] possible b s = at_end (list_offers es).owns possible (list_holds es b s)
list_owns_at es (i ∷ path) possible b s = into_member es i ((nth es i).owns_at path (possible && is_served_size b.len) b (child s i))

-- A step of a route and what follows; nothing where there is no step.
abbrev pub route_from : Option ℕ → (ℕ → List ℕ) → List ℕ
route_from None rest = []
route_from (Some i) rest = i ∷ rest i

-- the extent in the member that holds the block; nothing where none does
abbrev pub extent_from : Option ℕ → (ℕ → Block) → Block
extent_from None rest = no_block
extent_from (Some i) rest = rest i

-- ---- what stands between calls

abbrev pub child_count : States → ℕ
child_count no_children = 0
child_count (child_and s ss) = suc (child_count ss)

abbrev pub is_order : Own → Bool
is_order (order_own order) = true
is_order nothing = false
is_order (region_own chunk position) = false
is_order (bitmap_own chunk base units) = false
is_order (kr_own chunk mode position units) = false
is_order (cache_own places) = false
is_order (stats_own counts) = false
is_order (row_own numbers) = false

-- each number is named once
abbrev pub are_once : List ℕ → Bool
are_once [] = true
are_once (i ∷ is) = list_all (λ j. not (nat_eq i j)) is && are_once is

-- these children, counted from i, are open exactly where the order names them
abbrev pub are_open_as : (order : List ℕ) (i : ℕ) → States → Bool
are_open_as order i no_children = true
are_open_as order i (child_and s ss) = beq (is_open s) (list_any (nat_eq i) order) && are_open_as order (suc i) ss

-- an open list of so many members: exactly those of the order are open, and each is named once
abbrev pub is_ordered : (count : ℕ) → State → Bool
is_ordered count closed = false
is_ordered count (open_with own ss) =
    is_order own && (nat_eq (child_count ss) count
    && (list_all (λ i. nat_lt i count) (order_of (open_with own ss))
    && (are_once (order_of (open_with own ss)) && are_open_as (order_of (open_with own ss)) 0 ss)))

-- each member, from number i on, is sound, open or closed
abbrev pub each_settled : List Rules → ℕ → State → Cells → Bool
each_settled [] i s cells = true
each_settled (e ∷ es) i s cells = e.is_settled (child s i) cells && each_settled es (suc i) s cells

-- ---- the rules

unfoldable pub list_rules : List Rules → Rules
unfolding first_serving first_closed owns_members
list_rules es = record {
  nodes = suc (nodes_of es);
  depth = suc (depth_of es);
  leaf_tags = tags_of es;
  offers = list_offers es;
  alignment = least_alignment es;
  good_alloc_size = (nth es 0).good_alloc_size;
  set_up = λ need cells. Ok (opened (open_with (order_own []) (all_closed es)) cells);
  allocate = members_allocate es;
  aligned_allocate = members_aligned_allocate es;
  expand = members_expand es;
  reallocate = members_reallocate es;
  deallocate = members_deallocate es;
  deallocate_all = λ s cells. opened (with_children (with_own s (order_own [])) (all_closed es)) (without_open es (children_of s) cells);
  owns = λ b s. owns_if (may_hold b s) (owns_members (λ i. (nth es i).owns) (order_of s)) b s;
  owns_at = list_owns_at es;
  refuses = λ n s cells. over_limit_or n (list_refuses true (λ i t. (nth es i).set_up n t) (λ i t. (nth es i).refuses n t) s cells);
  refuses_aligned = λ n a s cells.
      over_limit_or n (list_refuses (nat_le (n + a) limit) (λ i t. (nth es i).set_up (n + a) t) (λ i t. (nth es i).refuses_aligned n a t) s cells);
  has_free_tails = have_free_tails es 0;
  is_out = λ b s cells.
      let i = holder es b s in
      is_some_block b s && (is_some i && (nth es (unwrap_or i 0)).is_out b (child s (unwrap_or i 0)) cells);
  holds = list_holds es;
  route = λ b s. route_from (holder es b s) (λ i. (nth es i).route b (child s i));
  is_routed = λ b s.
      let i = holder es b s in
      is_plausible b && (is_some i && (nth es (unwrap_or i 0)).is_routed b (child s (unwrap_or i 0)));
  extent = λ b s. extent_from (holder es b s) (λ i. (nth es i).extent b (child s i));
  read = λ fs bytes. if_set_up fs (open_with (order_own (kept_members (kept_of fs))) (read_each es 0 fs bytes));
  is_settled = λ s cells. settled_if s (tags_of es) cells (is_ordered (length es) s && each_settled es 0 s cells);
  is_image = λ fs s bytes. on_open s (are_images es 0 fs s bytes);
  is_clean = λ b s bytes. let i = unwrap_or (holder es b s) 0 in (nth es i).is_clean b (child s i) bytes;
  is_marked = λ b s bytes. let i = unwrap_or (holder es b s) 0 in (nth es i).is_clean b (child s i) bytes;
  is_occupied = is_occupied_in es 0;
  is_meta = is_meta_in es 0;
  is_affix_byte = λ b s k.
      let i = holder es b s in is_some i && (nth es (unwrap_or i 0)).is_affix_byte b (child s (unwrap_or i 0)) k;
  state_numbers = λ fs. node_numbers fs ∷ state_numbers_each es 0 fs;
  facts = λ s cells. if_open s (Said.Members (length (order_of s))) ∷ facts_each es 0 s cells;
}
