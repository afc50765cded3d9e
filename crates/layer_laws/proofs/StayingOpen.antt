-- Staying open: a closed layer stays closed and an open one open, by the pieces that rules are made of; and what is set up is open.
use Rattle.std.proofs.Common.{◌≡◌, refl, sym, ◌∙◌, ap, ℕ, ◌+◌, ◌-◌, Bool, true, false, ◌&&◌, Option, Some, None, Result, Ok, Err, nat_eq, nat_lt}
use Rattle.size_round.specs.Sizes.{limit}
use Rattle.space_core.specs.Cells.{Cells}
use Rattle.layer_rules.specs.declared.Block.{Block}
use Rattle.layer_rules.specs.declared.Offers.{Offers}
use Rattle.layer_rules.specs.After.{After, after, Placed, Serve, refuse, serve_below, Opened, opened, Opening, Change, say, change_child, Reallocate, stay, Owning}
use Rattle.layer_rules.specs.Allocating.{served_unless, asked_for, serve_parent, serve_member}
use Rattle.layer_rules.specs.Deallocating.{emptied_child, own_instead}
use Rattle.layer_rules.specs.Expanding.{expanded_unless, asked_to_expand, expand_lack, expand_by_lack, change_if}
use Rattle.layer_rules.specs.Owning.{owns_child_if, owns_if}
use Rattle.layer_rules.specs.Reallocating.{in_place, reallocated_unless, asked_to_reallocate, then_give, move_to, or_move, expand_or_move, general_reallocate, reallocate_child, either_reallocate, reallocate_parent}
use Rattle.layer_rules.specs.Setting.{open_chunk, open_parent, open_group, then_open, within_limit}
use Rattle.layer_rules.specs.State.{State, closed, open_with, Own, States, child, with_child, with_children, with_own, is_open}
use Rattle.layer_laws.proofs.Steps.{within-ok, then-ok, parent-ok, chunk-ok}

pub open-own : (s : State) (own : Own) → is_open (with_own s own) ≡ is_open s
open-own closed own = refl
open-own (open_with old ss) own = refl

pub open-child : (s : State) (i : ℕ) (t : State) → is_open (with_child s i t) ≡ is_open s
open-child closed i t = refl
open-child (open_with own ss) i t = refl

pub open-children : (s : State) (ss : States) → is_open (with_children s ss) ≡ is_open s
open-children closed ss = refl
open-children (open_with own old) ss = refl

abbrev pub StayedOpen : {A : Type 0} → State → After A → Type 0
StayedOpen s r = is_open r.state ≡ is_open s

-- ---- requests

abbrev pub StaysOpen : Serve → Type 0
StaysOpen serve = (s : State) (cells : Cells) → StayedOpen s (serve s cells)

pub stays-refuse : StaysOpen refuse
stays-refuse s cells = refl

stays-served_unless : (x y : Bool) (serve : Serve) → StaysOpen serve → StaysOpen (served_unless x y serve)
stays-served_unless true y serve k = stays-refuse
stays-served_unless false true serve k = stays-refuse
stays-served_unless false false serve k = k

pub stays-asked_for : (n : ℕ) (serve : Serve) → StaysOpen serve → StaysOpen (asked_for n serve)
stays-asked_for n serve = stays-served_unless (nat_eq n 0) (nat_lt limit n) serve

pub stays-serve_below : (shown : Block → Block) (i : ℕ) (serve : Serve) (s t : State) (cells : Cells) → StayedOpen s (serve_below shown i serve s t cells)
stays-serve_below shown i serve s t cells = open-child s i (serve t cells).state

pub stays-serve_member : (shown : Block → Block) (i : ℕ) (serve : Serve) → StaysOpen (serve_member shown i serve)
stays-serve_member shown i serve s cells = stays-serve_below shown i serve s (child s i) cells

pub stays-serve_parent : (shown : Block → Block) (serve : Serve) → StaysOpen (serve_parent shown serve)
stays-serve_parent shown serve = stays-serve_member shown 0 serve

-- ---- calls on a block

abbrev pub StaysOpenBy : Change → Type 0
StaysOpenBy change = (b : Block) (s : State) (cells : Cells) → StayedOpen s (change b s cells)

pub stays-say : (x : Bool) → StaysOpenBy (say x)
stays-say x b s cells = refl

pub stays-change_child : (i : ℕ) (change : Change) → StaysOpenBy (change_child i change)
stays-change_child i change b s cells = open-child s i (change b (child s i) cells).state

stays-expanded_unless : (x y : Bool) (change : Change) → StaysOpenBy change → StaysOpenBy (expanded_unless x y change)
stays-expanded_unless true y change k = stays-say true
stays-expanded_unless false true change k = stays-say false
stays-expanded_unless false false change k = k

pub stays-asked_to_expand : (delta : ℕ) (change : Change) → StaysOpenBy change → StaysOpenBy (asked_to_expand delta change)
stays-asked_to_expand delta change k b = stays-expanded_unless (nat_eq delta 0) (nat_lt limit (b.len + delta)) change k b

pub stays-change_if : (x : Bool) (change : Change) → StaysOpenBy change → StaysOpenBy (change_if x change)
stays-change_if true change k = k
stays-change_if false change k = stays-say false

pub stays-expand_lack : (x : Bool) (parent : Change) → StaysOpenBy (expand_lack x parent)
stays-expand_lack true parent = stays-say true
stays-expand_lack false parent = stays-change_child 0 parent

pub stays-expand_by_lack : (size more : ℕ) (parent : ℕ → Change) → StaysOpenBy (expand_by_lack size more parent)
stays-expand_by_lack size more parent = stays-expand_lack (nat_eq size more) (parent (more - size))

-- ---- reallocating

abbrev pub StaysOpenMoved : Reallocate → Type 0
StaysOpenMoved move = (b : Block) (s : State) (cells : Cells) → StayedOpen s (move b s cells)

pub stays-stay : StaysOpenMoved stay
stays-stay b s cells = refl

pub stays-in_place : (n : ℕ) → StaysOpenMoved (in_place n)
stays-in_place n b s cells = refl

stays-reallocated_unless : (x y z : Bool) (give : Change) (move : Reallocate) → StaysOpenBy give → StaysOpenMoved move → StaysOpenMoved (reallocated_unless x y z give move)
stays-reallocated_unless true y z give move g k = λ b s cells. refl
stays-reallocated_unless false true z give move g k = λ b s cells. g b s cells
stays-reallocated_unless false false true give move g k = λ b s cells. refl
stays-reallocated_unless false false false give move g k = k

pub stays-asked_to_reallocate : (n : ℕ) (give : Change) (move : Reallocate) → StaysOpenBy give → StaysOpenMoved move → StaysOpenMoved (asked_to_reallocate n give move)
stays-asked_to_reallocate n give move g k b = stays-reallocated_unless (nat_eq n b.len) (nat_eq n 0) (nat_lt limit n) give move g k b

stays-then_give : (give : Change) → StaysOpenBy give → (b : Block) (s : State) (o : Option Placed) (t : State) (c : Cells) → is_open t ≡ is_open s → StayedOpen s (then_give give b (after o t c))
stays-then_give give g b s None t c h = h
stays-then_give give g b s (Some p) t c h = g b t c ∙ h

pub stays-move_to : (serve : Serve) (give : Change) → StaysOpen serve → StaysOpenBy give → StaysOpenMoved (move_to serve give)
stays-move_to serve give k g b s cells = let r = serve s cells in stays-then_give give g b s r.answer r.state r.cells (k s cells)

stays-or_move : (n : ℕ) (serve : Serve) (give : Change) → StaysOpen serve → StaysOpenBy give → (b : Block) (s : State) (x : Bool) (t : State) (c : Cells) → is_open t ≡ is_open s → StayedOpen s (or_move n serve give b (after x t c))
stays-or_move n serve give k g b s true t c h = h
stays-or_move n serve give k g b s false t c h = stays-move_to serve give k g b t c ∙ h

stays-expand_or_move : (x : Bool) (n : ℕ) (expand_by : ℕ → Change) (serve : Serve) (give : Change) → ((d : ℕ) → StaysOpenBy (expand_by d)) → StaysOpen serve → StaysOpenBy give
    → StaysOpenMoved (expand_or_move x n expand_by serve give)
stays-expand_or_move true n expand_by serve give f k g = λ b s cells.
    let r = expand_by (n - b.len) b s cells in stays-or_move n serve give k g b s r.answer r.state r.cells (f (n - b.len) b s cells)
stays-expand_or_move false n expand_by serve give f k g = stays-move_to serve give k g

pub stays-general_reallocate : (n : ℕ) (o : Offers) (expand_by : ℕ → Change) (serve : Serve) (give : Change) → ((d : ℕ) → StaysOpenBy (expand_by d)) → StaysOpen serve → StaysOpenBy give
    → StaysOpenMoved (general_reallocate n o expand_by serve give)
stays-general_reallocate n o expand_by serve give f k g b = stays-expand_or_move (nat_lt b.len n && o.expand) n expand_by serve give f k g b

pub stays-reallocate_child : (i : ℕ) (move : Reallocate) → StaysOpenMoved (reallocate_child i move)
stays-reallocate_child i move b s cells = open-child s i (move b (child s i) cells).state

pub stays-reallocate_parent : (n : ℕ) (shown : Block → Block) (parent : Reallocate) → StaysOpenMoved (reallocate_parent n shown parent)
stays-reallocate_parent n shown parent b s cells = stays-reallocate_child 0 parent (shown b) s cells

pub stays-either_reallocate : (x : Bool) (c d : Reallocate) → StaysOpenMoved c → StaysOpenMoved d → StaysOpenMoved (either_reallocate x c d)
stays-either_reallocate true c d k l = k
stays-either_reallocate false c d k l = l

-- ---- all blocks

pub stays-emptied_child : (s : State) (i : ℕ) (empty : State → Cells → Opened) (cells : Cells) → is_open (emptied_child s i empty cells).state ≡ is_open s
stays-emptied_child s i empty cells = open-child s i (empty (child s i) cells).state

pub stays-own_instead : (own : State → Own) (r : Opened) → is_open (own_instead (λ t. with_own t (own t)) r).state ≡ is_open r.state
stays-own_instead own r = open-own r.state (own r.state)

-- ---- asking who owns a block

abbrev pub StaysOpenAsked : Owning → Type 0
StaysOpenAsked owns = (b : Block) (s : State) → is_open (owns b s).state ≡ is_open s

pub stays-owns_child_if : (x : Bool) (i : ℕ) (owns : Owning) → StaysOpenAsked (owns_child_if x i owns)
stays-owns_child_if true i owns b s = open-child s i (owns b (child s i)).state
stays-owns_child_if false i owns b s = refl

pub stays-owns_if : (x : Bool) (owns : Owning) → StaysOpenAsked owns → StaysOpenAsked (owns_if x owns)
stays-owns_if true owns h = h
stays-owns_if false owns h = λ b s. refl

-- ---- what is set up

-- each state that a call sets up is open
abbrev pub SetsOpen : Opening → Type 0
SetsOpen x = (o : Opened) → x ≡ Ok o → is_open o.state ≡ true

is-open : (s : State) (c : Cells) (o : Opened) → opened s c ≡ o → is_open s ≡ true → is_open o.state ≡ true
is-open s c o q h = ap (λ p. is_open p.state) (sym q) ∙ h

pub sets-open : (own : Own) (ss : States) (cells : Cells) → SetsOpen (Ok (opened (open_with own ss) cells))
sets-open own ss cells o q = let z : opened (open_with own ss) cells ≡ o = cc in is-open (open_with own ss) cells o z refl

pub sets-parent : (own : Own) (parent : Opening) → SetsOpen (open_parent own parent)
sets-parent own parent o q = let r = parent-ok own parent o q in is-open _ _ o r.2 refl

pub sets-chunk : (size : ℕ) (own : Block → Own) (parent : Opening) (serve : Serve) → SetsOpen (open_chunk size own parent serve)
sets-chunk size own parent serve o q =
    let w = within-ok size _ o q in
    let p = then-ok 1 parent _ o w.1 in
    let r = chunk-ok own (serve p.0.state p.0.cells) o p.2 in is-open _ _ o r.2 refl

pub sets-group : (own : Own) (x : Result (States × Cells) ℕ) → SetsOpen (open_group own x)
sets-group own (Err k) o q = cc
sets-group own (Ok p) o q = sets-open own p.0 p.1 o q

pub sets-within : (size : ℕ) (x : Opening) → SetsOpen x → SetsOpen (within_limit size x)
sets-within size x h o q = h o (within-ok size x o q).1

pub sets-then : (node : ℕ) (x : Opening) (next : Opened → Opening) → ((p : Opened) → SetsOpen (next p)) → SetsOpen (then_open node x next)
sets-then node x next h o q = let r = then-ok node x next o q in h r.0 o r.2
