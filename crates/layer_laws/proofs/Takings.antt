-- Which cells a layer takes as it serves and as it is set up, by the pieces that rules are made of.
use Rattle.std.proofs.Common.{◌≡◌, refl, subst, ℕ, Bool, true, false, inl, inr, Result, Ok, Err, get_or, nat_eq, nat_lt}
use Rattle.size_round.specs.Sizes.{limit}
use Rattle.space_core.specs.Cells.{Cells}
use Rattle.layer_rules.specs.declared.Block.{Block}
use Rattle.layer_rules.specs.After.{Serve, refuse, serve_below, Opened, opened, Opening}
use Rattle.layer_rules.specs.Allocating.{served_unless, asked_for, serve_parent, serve_member}
use Rattle.layer_rules.specs.Setting.{then_open, then_members, within_limit, open_chunk, open_parent, open_group}
use Rattle.layer_rules.specs.State.{State, States, Own, open_with, child_and, child}
use Rattle.layer_rules.specs.Rules.{Rules, IsLeaf}
use Rattle.layer_laws.specs.Lawful.{IsOwnTag, OnlyOwnCells}
use Rattle.layer_laws.proofs.Steps.{within-ok, then-ok, parent-ok, chunk-ok}
use Rattle.layer_laws.proofs.Tests.{takes-then, takes-none}

-- the leaves of the one are leaves of the other
abbrev pub HasLeavesOf : (f e : Rules) → Type 0
HasLeavesOf f e = (t : ℕ) → IsLeaf e t → IsLeaf f t

own_tag-wider : (e f : Rules) → HasLeavesOf f e → (x y : ℕ) → IsOwnTag e x y → IsOwnTag f x y
own_tag-wider e f h x y (inl q) = inl q
own_tag-wider e f h x y (inr q) = inr (q.0, h y q.1)

-- what a child takes for its leaves is taken for the parent's
pub takes-wider : (e f : Rules) (c d : Cells) → HasLeavesOf f e → OnlyOwnCells e c d → OnlyOwnCells f c d
takes-wider e f c d h own = record { count = own.count; each = λ k. own_tag-wider e f h (get_or c.tags k 0) (get_or d.tags k 0) (own.each k) }

-- ---- requests

abbrev pub TakesOwn : Rules → Serve → Type 0
TakesOwn e serve = (s : State) (cells : Cells) → OnlyOwnCells e cells (serve s cells).cells

pub takes-refuse : (e : Rules) → TakesOwn e refuse
takes-refuse e s cells = takes-none e cells

takes-served_unless : (e : Rules) (x y : Bool) (serve : Serve) → TakesOwn e serve → TakesOwn e (served_unless x y serve)
takes-served_unless e true y serve h = takes-refuse e
takes-served_unless e false true serve h = takes-refuse e
takes-served_unless e false false serve h = h

pub takes-asked_for : (e : Rules) (n : ℕ) (serve : Serve) → TakesOwn e serve → TakesOwn e (asked_for n serve)
takes-asked_for e n serve = takes-served_unless e (nat_eq n 0) (nat_lt limit n) serve

pub takes-serve_below : (e f : Rules) (shown : Block → Block) (i : ℕ) (serve : Serve) (s t : State) (cells : Cells) → HasLeavesOf f e → TakesOwn e serve → OnlyOwnCells f cells (serve_below shown i serve s t cells).cells
takes-serve_below e f shown i serve s t cells w h = takes-wider e f cells (serve t cells).cells w (h t cells)

pub takes-serve_member : (e f : Rules) (shown : Block → Block) (i : ℕ) (serve : Serve) → HasLeavesOf f e → TakesOwn e serve → TakesOwn f (serve_member shown i serve)
takes-serve_member e f shown i serve w h s cells = takes-serve_below e f shown i serve s (child s i) cells w h

pub takes-serve_parent : (e f : Rules) (shown : Block → Block) (serve : Serve) → HasLeavesOf f e → TakesOwn e serve → TakesOwn f (serve_parent shown serve)
takes-serve_parent e f shown serve w h = takes-serve_member e f shown 0 serve w h

-- one request after another
pub takes-next : (e : Rules) (cells mid : Cells) (next : Serve) (t : State) → OnlyOwnCells e cells mid → TakesOwn e next → OnlyOwnCells e cells (next t mid).cells
takes-next e cells mid next t h k = takes-then e cells mid (next t mid).cells h (k t mid)

-- ---- setting up

-- what a call that sets a layer up takes, from a table on
abbrev pub TookOwn : Rules → Cells → Opening → Type 0
TookOwn e cells x = (o : Opened) → x ≡ Ok o → OnlyOwnCells e cells o.cells

at-end : (e : Rules) (cells d : Cells) (s : State) (o : Opened) → opened s d ≡ o → OnlyOwnCells e cells d → OnlyOwnCells e cells o.cells
at-end e cells d s o q h = subst (λ p. OnlyOwnCells e cells p.cells) q h

pub took-wider : (e f : Rules) (cells : Cells) (x : Opening) → HasLeavesOf f e → TookOwn e cells x → TookOwn f cells x
took-wider e f cells x w h o q = takes-wider e f cells o.cells w (h o q)

pub took-opened : (e : Rules) (s : State) (cells : Cells) → TookOwn e cells (Ok (opened s cells))
took-opened e s cells o q = let z : opened s cells ≡ o = cc in at-end e cells cells s o z (takes-none e cells)

pub took-parent : (e : Rules) (own : Own) (parent : Opening) (cells : Cells) → TookOwn e cells parent → TookOwn e cells (open_parent own parent)
took-parent e own parent cells h o q = let r = parent-ok own parent o q in at-end e cells r.0.cells _ o r.2 (h r.0 r.1)

pub took-chunk : (e : Rules) (size : ℕ) (own : Block → Own) (parent : Opening) (serve : Serve) (cells : Cells) → TookOwn e cells parent → TakesOwn e serve → TookOwn e cells (open_chunk size own parent serve)
took-chunk e size own parent serve cells h k o q =
    let w = within-ok size _ o q in
    let p = then-ok 1 parent _ o w.1 in
    let r = chunk-ok own (serve p.0.state p.0.cells) o p.2 in
    at-end e cells (serve p.0.state p.0.cells).cells _ o r.2 (takes-next e cells p.0.cells serve p.0.state (h p.0 p.1) k)

pub took-within : (e : Rules) (size : ℕ) (x : Opening) (cells : Cells) → TookOwn e cells x → TookOwn e cells (within_limit size x)
took-within e size x cells h o q = h o (within-ok size x o q).1

pub took-then : (e : Rules) (node : ℕ) (x : Opening) (next : Opened → Opening) (cells : Cells) → TookOwn e cells x → ((p : Opened) → TookOwn e p.cells (next p)) → TookOwn e cells (then_open node x next)
took-then e node x next cells h k o q = let r = then-ok node x next o q in takes-then e cells r.0.cells o.cells (h r.0 r.1) (k r.0 o r.2)

-- the same of members, in order
abbrev pub TookEach : Rules → Cells → Result (States × Cells) ℕ → Type 0
TookEach e cells x = (p : States × Cells) → x ≡ Ok p → OnlyOwnCells e cells p.1

took-rest : (e : Rules) (t : State) (cells : Cells) (x : Result (States × Cells) ℕ) → TookEach e cells x → TookEach e cells (elim x as (λ _. Result (States × Cells) ℕ) [ Err k ↦ Err k | Ok p ↦ Ok (child_and t p.0, p.1) ])
took-rest e t cells (Err k) h p q = cc
took-rest e t cells (Ok r) h p q = let z : r.1 ≡ p.1 = cc in subst (OnlyOwnCells e cells) z (h r refl)

pub took-then_members : (e : Rules) (node : ℕ) (x : Opening) (rest : Cells → Result (States × Cells) ℕ) (cells : Cells) → TookOwn e cells x → ((c : Cells) → TookEach e c (rest c)) → TookEach e cells (then_members node x rest)
took-then_members e node (Err k) rest cells h l p q = cc
took-then_members e node (Ok o) rest cells h l p q = takes-then e cells o.cells p.1 (h o refl) (took-rest e o.state o.cells (rest o.cells) (l o.cells) p q)

pub took-none : (e : Rules) (cells : Cells) (ss : States) → TookEach e cells (Ok (ss, cells))
took-none e cells ss p q = let z : cells ≡ p.1 = cc in subst (OnlyOwnCells e cells) z (takes-none e cells)

pub took-group : (e : Rules) (own : Own) (x : Result (States × Cells) ℕ) (cells : Cells) → TookEach e cells x → TookOwn e cells (open_group own x)
took-group e own (Err k) cells h o q = cc
took-group e own (Ok p) cells h o q = let z : opened (open_with own p.0) p.1 ≡ o = cc in at-end e cells p.1 _ o z (h p refl)
