-- What was set up is gone when it is torn down: each cell that it took is free again, and every other cell is as before.
use Rattle.std.proofs.Common.{◌≡◌, refl, sym, ◌∙◌, ap, subst, ℕ, zero, suc, ◌⊎◌, inl, inr, Bool, true, false, arith, List, [], ◌∷◌, length, map, fold, get_or, cond, nat_eq}
use Rattle.std.proofs.lemmas.Bool.Decides.{nat_tests}
use Rattle.std.proofs.lemmas.List.{ext_get_or, length-map}
use Rattle.space_core.specs.Cells.{Cells, free_tag}
use Rattle.layer_rules.specs.Rules.{Rules, IsIn, IsLeaf, HasNoCells, without_leaves}
use Rattle.layer_rules.specs.State.{State, closed, open_with, States, no_children, child_and, nth_child, set_child}
use Rattle.layer_laws.specs.Lawful.{IsOwnTag, OnlyOwnCells}
use Rattle.layer_laws.specs.RuleLaws.{OpenedTornDown, AskedTornDown, AskedAtTornDown, ClosedAgain}
use Rattle.layer_laws.proofs.Tables.{used-none}
use Rattle.layer_laws.proofs.Tests.{takes-then}

-- ---- cells that are freed

-- a tag that is in the row is made 0, and each other one stays
abbrev pub IsCleared : (ts : List ℕ) → (old new : ℕ) → Type 0
IsCleared ts old new = ((new ≡ old) × (IsIn ts old → ⊥)) ⊎ ((new ≡ 0) × IsIn ts old)

-- the same for one tag
abbrev pub IsFreedOf : (tag old new : ℕ) → Type 0
IsFreedOf tag old new = ((new ≡ old) × (old ≡ tag → ⊥)) ⊎ ((new ≡ 0) × (old ≡ tag))

freed-tag : (tag old : ℕ) (b : Bool) → nat_eq old tag ≡ b → IsFreedOf tag old (cond b 0 old)
freed-tag tag old true q = inr (refl, grind (arith, nat_tests))
freed-tag tag old false q = inl (refl, λ e. absurd (grind (arith, nat_tests)))

same-zero : (tag : ℕ) (b : Bool) → IsFreedOf tag 0 (cond b 0 0) → IsFreedOf tag 0 0
same-zero tag true h = h
same-zero tag false h = h

pub freed-cell : (tag : ℕ) (T : List ℕ) (c : ℕ) → IsFreedOf tag (get_or T c 0) (get_or (map (λ t. cond (nat_eq t tag) 0 t) T) c 0)
freed-cell tag [] c = same-zero tag (nat_eq 0 tag) (freed-tag tag 0 (nat_eq 0 tag) refl)
freed-cell tag (x ∷ T) zero = freed-tag tag x (nat_eq x tag) refl
freed-cell tag (x ∷ T) (suc c) = freed-cell tag T c

none-in : (ts : List ℕ) (new old : ℕ) → IsCleared ts old new → old ≡ 0 → new ≡ 0
none-in ts new old (inl z) e = z.0 ∙ e
none-in ts new old (inr z) e = z.0

cleared-then : (x : ℕ) (xs : List ℕ) (old mid new : ℕ) → IsFreedOf x old mid → IsCleared xs mid new → IsCleared (x ∷ xs) old new
cleared-then x xs old mid new (inr f) g = inr (none-in xs new mid g f.0, inl f.1)
cleared-then x xs old mid new (inl f) (inl g) = inl (g.0 ∙ f.0, λ i. elim i [ inl e ↦ f.1 e | inr l ↦ g.1 (rw f.0 l) ])
cleared-then x xs old mid new (inl f) (inr g) = inr (g.0, inr (rw f.0 at g.1))

pub freed-cells : (ts : List ℕ) (cells : Cells) (c : ℕ) → IsCleared ts (get_or cells.tags c 0) (get_or (fold (λ t tag. free_tag tag t) cells ts).tags c 0)
freed-cells [] cells c = inl (refl, λ i. i)
freed-cells (x ∷ xs) cells c =
    cleared-then x xs (get_or cells.tags c 0) (get_or (free_tag x cells).tags c 0) (get_or (fold (λ t tag. free_tag tag t) (free_tag x cells) xs).tags c 0) (freed-cell x cells.tags c) (freed-cells xs (free_tag x cells) c)

pub freed-length : (ts : List ℕ) (cells : Cells) → length (fold (λ t tag. free_tag tag t) cells ts).tags ≡ length cells.tags
freed-length [] cells = refl
freed-length (x ∷ xs) cells = freed-length xs (free_tag x cells) ∙ length-map cells.tags (λ t. cond (nat_eq t x) 0 t)

-- ---- a table as before

-- a tag of no cell stands only behind the last one, as 0
unused-tag : (t : ℕ) (e : Rules) (cells : Cells) (c : ℕ) → HasNoCells e cells → get_or cells.tags c 0 ≡ t → IsLeaf e t → t ≡ 0
unused-tag zero e cells c n q l = refl
unused-tag (suc t) e cells c n q l = absurd (used-none (suc t) cells.tags (n.none (suc t) l) c (omega arith) q)

undone : (e : Rules) (old new gone : ℕ) → (IsLeaf e old → old ≡ 0) → IsOwnTag e old new → IsCleared e.leaf_tags new gone → gone ≡ old
undone e old new gone n (inl q) (inl r) = r.0 ∙ q
undone e old new gone n (inl q) (inr r) = r.0 ∙ sym (n (subst (IsLeaf e) q r.1))
undone e old new gone n (inr q) (inl r) = absurd (r.1 q.1)
undone e old new gone n (inr q) (inr r) = r.0 ∙ sym q.0

cells-of : List ℕ → Cells
cells-of tags = record { tags = tags }

same-cells : (c d : Cells) → c.tags ≡ d.tags → c ≡ d
unfolding cells-of
same-cells c d q = ap cells-of q

-- what took cells for its leaves alone leaves none of them, where it had none before
pub torn-back : (e : Rules) (old new : Cells) → HasNoCells e old → OnlyOwnCells e old new → without_leaves e new ≡ old
torn-back e old new n k =
    same-cells (without_leaves e new) old
    (ext_get_or 0 (without_leaves e new).tags old.tags (freed-length e.leaf_tags new ∙ k.count)
    (λ c i. undone e (get_or old.tags c 0) (get_or new.tags c 0) (get_or (without_leaves e new).tags c 0) (unused-tag (get_or old.tags c 0) e old c n refl) (k.each c) (freed-cells e.leaf_tags new c)))

pub opened-torn_down : OpenedTornDown
opened-torn_down e need cells o w n q = torn-back e cells o.cells n (w.set_up need cells o q)

pub asked-torn_down : AskedTornDown
asked-torn_down e need n cells o w z q =
    let r = e.allocate n o.state o.cells in torn-back e cells r.cells z (takes-then e cells o.cells r.cells (w.set_up need cells o q) (w.allocate n o.state o.cells))

pub asked_at-torn_down : AskedAtTornDown
asked_at-torn_down e need n a cells o w z q =
    let r = e.aligned_allocate n a o.state o.cells in torn-back e cells r.cells z (takes-then e cells o.cells r.cells (w.set_up need cells o q) (w.aligned_allocate n a o.state o.cells))

-- ---- a child that is closed again

set-again : (ss : States) (i : ℕ) (t : State) → nth_child ss i ≡ closed → set_child (set_child ss i t) i closed ≡ ss
set-again no_children i t h = refl
set-again (child_and s ss) zero t h = ap (λ u. child_and u ss) (sym h)
set-again (child_and s ss) (suc i) t h = ap (λ us. child_and s us) (set-again ss i t h)

pub closed-again : ClosedAgain
closed-again closed i t h = refl
closed-again (open_with own ss) i t h = ap (λ us. open_with own us) (set-again ss i t h)
