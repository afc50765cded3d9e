-- Expansions and reallocations that are refused leave all but statistics, by the pieces that rules are made of.
use Rattle.std.proofs.Common.{◌≡◌, refl, ℕ, ◌+◌, ◌-◌, ◌&&◌, Option, Some, None, Bool, true, false, nat_eq, nat_lt}
use Rattle.size_round.specs.Sizes.{limit}
use Rattle.space_core.specs.Cells.{Cells}
use Rattle.layer_rules.specs.declared.Block.{Block}
use Rattle.layer_rules.specs.declared.Offers.{Offers}
use Rattle.layer_rules.specs.After.{After, after, Placed, Serve, Change, say, change_child, Reallocated, moved_to, emptied, unmoved, Reallocate, stay}
use Rattle.layer_rules.specs.Expanding.{expanded_unless, asked_to_expand, expand_lack, expand_by_lack, change_if}
use Rattle.layer_rules.specs.Reallocating.{in_place, reallocated_unless, asked_to_reallocate, then_give, move_to, or_move, expand_or_move, general_reallocate, shown_as, reallocate_child, either_reallocate, reallocate_parent}
use Rattle.layer_rules.specs.State.{State, Own, child, own_of, with_own, without_counts}
use Rattle.layer_laws.specs.Lawful.{Same, KeptOnNone, KeepsOnNone, KeptOnFalse, KeepsOnFalse, KeptUnmoved, KeepsUnmoved}
use Rattle.layer_laws.proofs.Uncounting.{same-then, same-in_child, same-with_own}

-- ---- expanding

pub keeps-say : (x : Bool) → KeepsOnFalse (say x)
keeps-say x b s cells h = (refl, refl)

keeps-expanded_unless : (x y : Bool) (change : Change) → KeepsOnFalse change → KeepsOnFalse (expanded_unless x y change)
keeps-expanded_unless true y change k = keeps-say true
keeps-expanded_unless false true change k = keeps-say false
keeps-expanded_unless false false change k = k

pub keeps-asked_to_expand : (delta : ℕ) (change : Change) → KeepsOnFalse change → KeepsOnFalse (asked_to_expand delta change)
keeps-asked_to_expand delta change k b = keeps-expanded_unless (nat_eq delta 0) (nat_lt limit (b.len + delta)) change k b

pub keeps-change_child : (i : ℕ) (change : Change) → KeepsOnFalse change → KeepsOnFalse (change_child i change)
keeps-change_child i change k b s cells h = let r = change b (child s i) cells in same-in_child s cells i r.state r.cells (k b (child s i) cells h)

pub keeps-change_if : (x : Bool) (change : Change) → KeepsOnFalse change → KeepsOnFalse (change_if x change)
keeps-change_if true change k = k
keeps-change_if false change k = keeps-say false

pub keeps-expand_lack : (x : Bool) (parent : Change) → KeepsOnFalse parent → KeepsOnFalse (expand_lack x parent)
keeps-expand_lack true parent k = keeps-say true
keeps-expand_lack false parent k = keeps-change_child 0 parent k

pub keeps-expand_by_lack : (size more : ℕ) (parent : ℕ → Change) → ((d : ℕ) → KeepsOnFalse (parent d)) → KeepsOnFalse (expand_by_lack size more parent)
keeps-expand_by_lack size more parent k = keeps-expand_lack (nat_eq size more) (parent (more - size)) (k (more - size))

-- what is of the layer's own changes by statistics alone where the call is answered false
pub kept-own_on_false : (s : State) (cells : Cells) (r : After Bool) (own : Own) → (r.answer ≡ false → without_counts own ≡ without_counts (own_of r.state)) → KeptOnFalse s cells r
    → KeptOnFalse s cells (after r.answer (with_own r.state own) r.cells)
kept-own_on_false s cells r own q k h = same-with_own s cells r.state r.cells own (q h) (k h)

-- ---- reallocating

pub keeps-stay : KeepsUnmoved stay
keeps-stay b s cells h = (refl, refl)

pub keeps-in_place : (n : ℕ) → KeepsUnmoved (in_place n)
keeps-in_place n b s cells h = (refl, refl)

keeps-reallocated_unless : (x y z : Bool) (give : Change) (move : Reallocate) → KeepsUnmoved move → KeepsUnmoved (reallocated_unless x y z give move)
keeps-reallocated_unless true y z give move k = λ b s cells h. (refl, refl)
keeps-reallocated_unless false true z give move k = λ b s cells h. cc
keeps-reallocated_unless false false true give move k = λ b s cells h. (refl, refl)
keeps-reallocated_unless false false false give move k = k

pub keeps-asked_to_reallocate : (n : ℕ) (give : Change) (move : Reallocate) → KeepsUnmoved move → KeepsUnmoved (asked_to_reallocate n give move)
keeps-asked_to_reallocate n give move k b = keeps-reallocated_unless (nat_eq n b.len) (nat_eq n 0) (nat_lt limit n) give move k b

kept-then_give : (give : Change) (b : Block) (s : State) (cells : Cells) (o : Option Placed) (t : State) (c : Cells) → KeptOnNone s cells (after o t c) → KeptUnmoved s cells (then_give give b (after o t c))
kept-then_give give b s cells None t c k = λ h. k refl
kept-then_give give b s cells (Some p) t c k = λ h. cc

pub keeps-move_to : (serve : Serve) (give : Change) → KeepsOnNone serve → KeepsUnmoved (move_to serve give)
keeps-move_to serve give k b s cells = let r = serve s cells in kept-then_give give b s cells r.answer r.state r.cells (k s cells)

-- a refusal, and then one of another reallocation
pub kept-then_move : (s : State) (cells : Cells) (t : State) (c : Cells) (move : Reallocate) (b : Block) → Same s cells t c → KeepsUnmoved move → KeptUnmoved s cells (move b t c)
kept-then_move s cells t c move b l k h = let r = move b t c in same-then s cells t c r.state r.cells l (k b t c h)

kept-or_move : (n : ℕ) (serve : Serve) (give : Change) (b : Block) (s : State) (cells : Cells) → KeepsOnNone serve → (x : Bool) (t : State) (c : Cells) → KeptOnFalse s cells (after x t c) → KeptUnmoved s cells (or_move n serve give b (after x t c))
kept-or_move n serve give b s cells k true t c l = λ h. cc
kept-or_move n serve give b s cells k false t c l = kept-then_move s cells t c (move_to serve give) b (l refl) (keeps-move_to serve give k)

pub keeps-expand_or_move : (x : Bool) (n : ℕ) (expand_by : ℕ → Change) (serve : Serve) (give : Change) → ((d : ℕ) → KeepsOnFalse (expand_by d)) → KeepsOnNone serve → KeepsUnmoved (expand_or_move x n expand_by serve give)
keeps-expand_or_move true n expand_by serve give k l = λ b s cells.
    let r = expand_by (n - b.len) b s cells in kept-or_move n serve give b s cells l r.answer r.state r.cells (k (n - b.len) b s cells)
keeps-expand_or_move false n expand_by serve give k l = keeps-move_to serve give l

-- the general form, of a layer's own expansions and requests
pub keeps-general_reallocate : (n : ℕ) (o : Offers) (expand_by : ℕ → Change) (serve : Serve) (give : Change) → ((d : ℕ) → KeepsOnFalse (expand_by d)) → KeepsOnNone serve → KeepsUnmoved (general_reallocate n o expand_by serve give)
keeps-general_reallocate n o expand_by serve give k l b = keeps-expand_or_move (nat_lt b.len n && o.expand) n expand_by serve give k l b

pub keeps-reallocate_child : (i : ℕ) (move : Reallocate) → KeepsUnmoved move → KeepsUnmoved (reallocate_child i move)
keeps-reallocate_child i move k b s cells h = let r = move b (child s i) cells in same-in_child s cells i r.state r.cells (k b (child s i) cells h)

pub unmoved-shown : (n : ℕ) (r : Reallocated) → shown_as n r ≡ unmoved → r ≡ unmoved
unmoved-shown n (moved_to b) h = cc
unmoved-shown n emptied h = cc
unmoved-shown n unmoved h = refl

pub keeps-reallocate_parent : (n : ℕ) (shown : Block → Block) (parent : Reallocate) → KeepsUnmoved parent → KeepsUnmoved (reallocate_parent n shown parent)
keeps-reallocate_parent n shown parent k b s cells h =
    keeps-reallocate_child 0 parent k (shown b) s cells (unmoved-shown n (reallocate_child 0 parent (shown b) s cells).answer h)

pub keeps-either_reallocate : (x : Bool) (c d : Reallocate) → KeepsUnmoved c → KeepsUnmoved d → KeepsUnmoved (either_reallocate x c d)
keeps-either_reallocate true c d k l = k
keeps-either_reallocate false c d k l = l

-- what is of the layer's own changes by statistics alone where the block is not moved
pub kept-own_unmoved : (s : State) (cells : Cells) (r : After Reallocated) (own : Own) → (r.answer ≡ unmoved → without_counts own ≡ without_counts (own_of r.state)) → KeptUnmoved s cells r
    → KeptUnmoved s cells (after r.answer (with_own r.state own) r.cells)
kept-own_unmoved s cells r own q k h = same-with_own s cells r.state r.cells own (q h) (k h)
