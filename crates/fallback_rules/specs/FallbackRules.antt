-- A fallback: two layers, of which the second is asked where the primary serves nothing. A block is the primary's where that holds it.
use Rattle.std.specs.Prelude.{ℕ, zero, suc, ◌+◌, Bool, true, false, ◌&&◌, ◌||◌, List, [], ◌∷◌, ◌++◌, Option, Some, None, Ok, cond, max, min}
use Rattle.space_core.specs.Cells.{Cells}
use Rattle.layer_rules.specs.declared.Asked.{Asked}
use Rattle.layer_rules.specs.declared.Asked.TheVariants.{NoSuchLayer}
use Rattle.layer_rules.specs.declared.Block.{Block}
use Rattle.layer_rules.specs.declared.Fact.TheVariants as Said
use Rattle.layer_rules.specs.State.{State, open_with, nothing, two_children, child}
use Rattle.layer_rules.specs.Fields.{child_fields, node_numbers}
use Rattle.layer_rules.specs.After.{After, after, Placed, Serve, Opened, opened, Opening, Change, change_child, Reallocated, moved_to, emptied, unmoved, Reallocate, Reply, reply, Owning}
use Rattle.layer_rules.specs.Allocating.{asked_for, serve_member, over_limit_or}
use Rattle.layer_rules.specs.Deallocating.{emptied_child}
use Rattle.layer_rules.specs.Expanding.{asked_to_expand}
use Rattle.layer_rules.specs.Facts.{if_open}
use Rattle.layer_rules.specs.Members.{group_settled}
use Rattle.layer_rules.specs.Offering.{both_offer, is_served_size}
use Rattle.layer_rules.specs.Owning.{is_plausible, may_hold, is_some_block, owns_child_if, at_end}
use Rattle.layer_rules.specs.Reallocating.{asked_to_reallocate, move_to, either_reallocate, reallocate_child}
use Rattle.layer_rules.specs.Rules.{Rules}
use Rattle.layer_rules.specs.Setting.{then_open, if_set_up}
use Rattle.layer_rules.specs.Testing.{settled_if, on_open}

-- ---- a request

-- a block where there is one, and else what the next layer serves
abbrev pub answer_or : Option Placed → Serve → Serve
answer_or None next s cells = next s cells
answer_or (Some p) next s cells = after (Some p) s cells

-- the first of two that serves
abbrev pub or_else : Serve → After (Option Placed) → After (Option Placed)
or_else next r = answer_or r.answer next r.state r.cells

abbrev pub fallback_allocate : (primary second : Serve) → Serve
fallback_allocate primary second s cells = or_else (serve_member (λ b. b) 1 second) (serve_member (λ b. b) 0 primary s cells)

-- ---- setting up: the primary gets the need

abbrev pub fallback_set_up : (primary second : Rules) → (need : ℕ) → Cells → Opening
fallback_set_up p f need cells =
    then_open 1 (p.set_up need cells) (λ o.
    then_open (1 + p.nodes) (f.set_up 0 o.cells) (λ q.
    Ok (opened (open_with nothing (two_children o.state q.state)) q.cells)))

-- ---- a block that grows, that comes back, or that gets another length

-- the first of two where the test is true, and else the second
abbrev pub either_change : Bool → Change → Change → Change
either_change true c d = c
either_change false c d = d

abbrev pub fallback_expand : (primary second : Rules) → (delta : ℕ) → Change
fallback_expand p f delta =
    asked_to_expand delta (λ b s.
    either_change (p.holds b (child s 0)) (change_child 0 (p.expand delta)) (change_child 1 (f.expand delta)) b s)

abbrev pub fallback_deallocate : (primary second : Rules) → Change
fallback_deallocate p f b s =
    either_change (p.holds b (child s 0)) (change_child 0 p.deallocate) (change_child 1 f.deallocate) b s

-- The holder's reallocation; where that fails, a block of the other one.
abbrev pub or_other : (serve : Serve) (give : Change) → Block → After Reallocated → After Reallocated
or_other serve give b r = elim r.answer [ moved_to c ↦ r | emptied ↦ r | unmoved ↦ move_to serve give b r.state r.cells ]

-- the holder i, and the other one j
abbrev pub reallocate_or_other : (i : ℕ) → Reallocate → (j : ℕ) → Serve → Change → Reallocate
reallocate_or_other i reallocate j serve give b s cells =
    or_other (serve_member (λ c. c) j serve) (change_child i give) b (reallocate_child i reallocate b s cells)

abbrev pub fallback_reallocate : (primary second : Rules) → (n : ℕ) → Reallocate
fallback_reallocate p f n =
    asked_to_reallocate n (fallback_deallocate p f) (λ b s.
    either_reallocate (p.holds b (child s 0))
    (reallocate_or_other 0 (p.reallocate n) 1 (f.allocate n) p.deallocate)
    (reallocate_or_other 1 (f.reallocate n) 0 (p.allocate n) f.deallocate) b s)

abbrev pub fallback_deallocate_all : (primary second : Rules) → State → Cells → Opened
fallback_deallocate_all p f s cells =
    let r = emptied_child s 0 p.deallocate_all cells in emptied_child r.state 1 f.deallocate_all r.cells

-- ---- whose a block is

-- on a no the next one is asked
abbrev pub reply_or : (owned : Bool) → (State → Reply) → State → Reply
reply_or true next s = reply true s
reply_or false next s = next s

abbrev pub or_owns : (State → Reply) → Reply → Reply
or_owns next r = reply_or r.owned next r.state

abbrev pub fallback_owns : (primary second : Rules) → Owning
fallback_owns p f b s = or_owns (owns_child_if (may_hold b s) 1 f.owns b) (owns_child_if (may_hold b s) 0 p.owns b s)

abbrev pub fallback_holds : (primary second : Rules) → Block → State → Bool
fallback_holds p f b s = may_hold b s && (p.holds b (child s 0) || f.holds b (child s 1))

abbrev pub fallback_owns_at : (primary second : Rules) → (path : List ℕ) (possible : Bool) → Block → State → Asked
fallback_owns_at p f [] possible b s = at_end (both_offer p.offers f.offers).owns possible (fallback_holds p f b s)
fallback_owns_at p f (zero ∷ path) possible b s = p.owns_at path (possible && is_served_size b.len) b (child s 0)
fallback_owns_at p f (suc zero ∷ path) possible b s = f.owns_at path (possible && is_served_size b.len) b (child s 1)
fallback_owns_at p f (suc (suc i) ∷ path) possible b s = NoSuchLayer

-- ---- the rules

unfoldable pub fallback_rules : (primary second : Rules) → Rules
fallback_rules p f = record {
  nodes = suc (p.nodes + f.nodes);
  depth = suc (max p.depth f.depth);
  leaf_tags = p.leaf_tags ++ f.leaf_tags;
  offers = both_offer p.offers f.offers;
  alignment = min p.alignment f.alignment;
  good_alloc_size = p.good_alloc_size;
  set_up = fallback_set_up p f;
  allocate = λ n. asked_for n (fallback_allocate (p.allocate n) (f.allocate n));
  aligned_allocate = λ n a. asked_for n (fallback_allocate (p.aligned_allocate n a) (f.aligned_allocate n a));
  expand = fallback_expand p f;
  reallocate = fallback_reallocate p f;
  deallocate = fallback_deallocate p f;
  deallocate_all = fallback_deallocate_all p f;
  owns = fallback_owns p f;
  owns_at = fallback_owns_at p f;
  refuses = λ n s cells. over_limit_or n (p.refuses n (child s 0) cells && f.refuses n (child s 1) cells);
  refuses_aligned = λ n a s cells. over_limit_or n (p.refuses_aligned n a (child s 0) cells && f.refuses_aligned n a (child s 1) cells);
  has_free_tails = λ s. p.has_free_tails (child s 0) && f.has_free_tails (child s 1);
  is_out = λ b s cells. is_some_block b s && cond (p.holds b (child s 0)) (p.is_out b (child s 0) cells) (f.is_out b (child s 1) cells);
  holds = fallback_holds p f;
  route = λ b s. cond (p.holds b (child s 0)) (0 ∷ p.route b (child s 0)) (1 ∷ f.route b (child s 1));
  is_routed = λ b s. is_plausible b && cond (p.holds b (child s 0)) (p.is_routed b (child s 0)) (f.is_routed b (child s 1));
  extent = λ b s. cond (p.holds b (child s 0)) (p.extent b (child s 0)) (f.extent b (child s 1));
  read = λ fs bytes. if_set_up fs (open_with nothing (two_children (p.read (child_fields fs 0) bytes) (f.read (child_fields fs 1) bytes)));
  is_settled = λ s cells. settled_if s (p.leaf_tags ++ f.leaf_tags) cells (group_settled (p ∷ f ∷ []) s cells);
  is_image = λ fs s bytes. on_open s (p.is_image (child_fields fs 0) (child s 0) bytes && f.is_image (child_fields fs 1) (child s 1) bytes);
  is_clean = λ b s bytes. cond (p.holds b (child s 0)) (p.is_clean b (child s 0) bytes) (f.is_clean b (child s 1) bytes);
  is_marked = λ b s bytes. cond (p.holds b (child s 0)) (p.is_clean b (child s 0) bytes) (f.is_clean b (child s 1) bytes);
  is_occupied = λ s cells k. p.is_occupied (child s 0) cells k || f.is_occupied (child s 1) cells k;
  is_meta = λ s k. p.is_meta (child s 0) k || f.is_meta (child s 1) k;
  is_affix_byte = λ b s k. cond (p.holds b (child s 0)) (p.is_affix_byte b (child s 0) k) (f.is_affix_byte b (child s 1) k);
  state_numbers = λ fs. node_numbers fs ∷ (p.state_numbers (child_fields fs 0) ++ f.state_numbers (child_fields fs 1));
  facts = λ s cells. if_open s Said.Plain ∷ (p.facts (child s 0) cells ++ f.facts (child s 1) cells);
}
