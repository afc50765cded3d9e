-- Statistics left out: what a state shows besides them, and states that are the same but for them.
use Rattle.std.proofs.Common.{◌≡◌, refl, sym, ◌∙◌, ap, ℕ, zero, suc, ◌&&◌}
use Rattle.space_core.specs.Cells.{Cells}
use Rattle.layer_rules.specs.declared.Block.{Block}
use Rattle.layer_rules.specs.Offering.{is_served_size}
use Rattle.layer_rules.specs.Owning.{may_hold}
use Rattle.layer_rules.specs.State.{State, closed, open_with, Own, stats_own, States, no_children, child_and, nth_child, set_child, child, with_child, with_own, is_open, own_of, chunk_in, position_in, base_in, mode_in, units_in, cached_in, order_in, row_in, chunk_of, position_of, base_of, mode_of, units_of, cached_of, order_of, row_of, uncounted, uncounted_each, without_counts}
use Rattle.layer_rules.specs.Steady.{own_steady, steady, steady_each}
use Rattle.layer_laws.specs.Lawful.{Same}

-- ---- children

uncounted-nth_child : (ss : States) (i : ℕ) → nth_child (uncounted_each ss) i ≡ uncounted (nth_child ss i)
unfolding uncounted
uncounted-nth_child no_children i = refl
uncounted-nth_child (child_and s ss) zero = refl
uncounted-nth_child (child_and s ss) (suc i) = uncounted-nth_child ss i

pub uncounted-child : (s : State) (i : ℕ) → child (uncounted s) i ≡ uncounted (child s i)
unfolding uncounted
uncounted-child closed i = refl
uncounted-child (open_with own ss) i = uncounted-nth_child ss i

-- states that are the same have the same child
pub same-child : (s t : State) (i : ℕ) → uncounted s ≡ uncounted t → uncounted (child s i) ≡ uncounted (child t i)
same-child s t i h = sym (uncounted-child s i) ∙ ap (λ u. child u i) h ∙ uncounted-child t i

uncounted-set_child : (ss : States) (i : ℕ) (t : State) → uncounted_each (set_child ss i t) ≡ set_child (uncounted_each ss) i (uncounted t)
unfolding uncounted
uncounted-set_child no_children i t = refl
uncounted-set_child (child_and s ss) zero t = refl
uncounted-set_child (child_and s ss) (suc i) t = ap (λ us. child_and (uncounted s) us) (uncounted-set_child ss i t)

pub uncounted-with_child : (s : State) (i : ℕ) (t : State) → uncounted (with_child s i t) ≡ with_child (uncounted s) i (uncounted t)
unfolding uncounted
uncounted-with_child closed i t = refl
uncounted-with_child (open_with own ss) i t = ap (λ us. open_with (without_counts own) us) (uncounted-set_child ss i t)

pub set-nth_child : (ss : States) (i : ℕ) → set_child ss i (nth_child ss i) ≡ ss
set-nth_child no_children i = refl
set-nth_child (child_and s ss) zero = refl
set-nth_child (child_and s ss) (suc i) = ap (λ us. child_and s us) (set-nth_child ss i)

-- the child that stands there changes nothing
pub with_child-child : (s : State) (i : ℕ) → with_child s i (child s i) ≡ s
with_child-child closed i = refl
with_child-child (open_with own ss) i = ap (λ us. open_with own us) (set-nth_child ss i)

-- and a child that is the same leaves the state the same
pub uncounted-child_kept : (s : State) (i : ℕ) (t : State) → uncounted t ≡ uncounted (child s i) → uncounted (with_child s i t) ≡ uncounted s
uncounted-child_kept s i t h =
    uncounted-with_child s i t ∙ ap (λ u. with_child (uncounted s) i u) (h ∙ sym (uncounted-child s i)) ∙ with_child-child (uncounted s) i

-- ---- what is a layer's own

pub uncounted-with_own : (s : State) (x y : Own) → without_counts x ≡ without_counts y → uncounted (with_own s x) ≡ uncounted (with_own s y)
unfolding uncounted
uncounted-with_own closed x y h = refl
uncounted-with_own (open_with own ss) x y h = ap (λ o. open_with o (uncounted_each ss)) h

pub with_own-own : (s : State) → with_own s (own_of s) ≡ s
with_own-own closed = refl
with_own-own (open_with own ss) = refl

pub uncounted-own_kept : (s : State) (own : Own) → without_counts own ≡ without_counts (own_of s) → uncounted (with_own s own) ≡ uncounted s
uncounted-own_kept s own h = uncounted-with_own s own (own_of s) h ∙ ap uncounted (with_own-own s)

own_of-uncounted : (s : State) → own_of (uncounted s) ≡ without_counts (own_of s)
unfolding uncounted
own_of-uncounted closed = refl
own_of-uncounted (open_with own ss) = refl

pub same-own : (s t : State) → uncounted s ≡ uncounted t → without_counts (own_of s) ≡ without_counts (own_of t)
same-own s t h = sym (own_of-uncounted s) ∙ ap own_of h ∙ own_of-uncounted t

-- what is read of a layer's own, by a function that reads no statistics
pub same-read : {A : Type 0} (read : Own → A) → ((own : Own) → read (without_counts own) ≡ read own) → (s t : State) → uncounted s ≡ uncounted t → read (own_of s) ≡ read (own_of t)
same-read read h s t q = sym (h (own_of s)) ∙ ap read (same-own s t q) ∙ h (own_of t)

is_open-uncounted : (s : State) → is_open (uncounted s) ≡ is_open s
unfolding uncounted
is_open-uncounted closed = refl
is_open-uncounted (open_with own ss) = refl

pub same-open : (s t : State) → uncounted s ≡ uncounted t → is_open s ≡ is_open t
same-open s t h = sym (is_open-uncounted s) ∙ ap is_open h ∙ is_open-uncounted t

pub chunk-uncounted : (own : Own) → chunk_in (without_counts own) ≡ chunk_in own
chunk-uncounted (stats_own counts) = refl
chunk-uncounted _ = refl

pub position-uncounted : (own : Own) → position_in (without_counts own) ≡ position_in own
position-uncounted (stats_own counts) = refl
position-uncounted _ = refl

pub base-uncounted : (own : Own) → base_in (without_counts own) ≡ base_in own
base-uncounted (stats_own counts) = refl
base-uncounted _ = refl

pub mode-uncounted : (own : Own) → mode_in (without_counts own) ≡ mode_in own
mode-uncounted (stats_own counts) = refl
mode-uncounted _ = refl

pub units-uncounted : (own : Own) → units_in (without_counts own) ≡ units_in own
units-uncounted (stats_own counts) = refl
units-uncounted _ = refl

cached-uncounted : (own : Own) → cached_in (without_counts own) ≡ cached_in own
cached-uncounted (stats_own counts) = refl
cached-uncounted _ = refl

order-uncounted : (own : Own) → order_in (without_counts own) ≡ order_in own
order-uncounted (stats_own counts) = refl
order-uncounted _ = refl

pub row-uncounted : (own : Own) → row_in (without_counts own) ≡ row_in own
row-uncounted (stats_own counts) = refl
row-uncounted _ = refl

pub same-chunk : (s t : State) → uncounted s ≡ uncounted t → chunk_of s ≡ chunk_of t
same-chunk = same-read chunk_in chunk-uncounted

pub same-position : (s t : State) → uncounted s ≡ uncounted t → position_of s ≡ position_of t
same-position = same-read position_in position-uncounted

pub same-base : (s t : State) → uncounted s ≡ uncounted t → base_of s ≡ base_of t
same-base = same-read base_in base-uncounted

pub same-mode : (s t : State) → uncounted s ≡ uncounted t → mode_of s ≡ mode_of t
same-mode = same-read mode_in mode-uncounted

pub same-units : (s t : State) → uncounted s ≡ uncounted t → units_of s ≡ units_of t
same-units = same-read units_in units-uncounted

pub same-cached : (s t : State) → uncounted s ≡ uncounted t → cached_of s ≡ cached_of t
same-cached = same-read cached_in cached-uncounted

pub same-order : (s t : State) → uncounted s ≡ uncounted t → order_of s ≡ order_of t
same-order = same-read order_in order-uncounted

pub same-row : (s t : State) → uncounted s ≡ uncounted t → row_of s ≡ row_of t
same-row = same-read row_in row-uncounted

pub same-may_hold : (b : Block) (s t : State) → uncounted s ≡ uncounted t → may_hold b s ≡ may_hold b t
same-may_hold b s t h = ap (λ x. x && is_served_size b.len) (same-open s t h)

-- ---- the state and the table, but for statistics

pub same-then : (s : State) (c : Cells) (t : State) (d : Cells) (u : State) (f : Cells) → Same s c t d → Same t d u f → Same s c u f
same-then s c t d u f h k = (k.0 ∙ h.0, k.1 ∙ h.1)

pub same-in_child : (s : State) (c : Cells) (i : ℕ) (t : State) (d : Cells) → Same (child s i) c t d → Same s c (with_child s i t) d
same-in_child s c i t d h = (h.0, uncounted-child_kept s i t h.1)

pub same-with_own : (s : State) (c : Cells) (t : State) (d : Cells) (own : Own) → without_counts own ≡ without_counts (own_of t) → Same s c t d → Same s c (with_own t own) d
same-with_own s c t d own q h = (h.0, uncounted-own_kept t own q ∙ h.1)

-- ---- orders of use left out too

steady-nth_child : (ss : States) (i : ℕ) → nth_child (steady_each ss) i ≡ steady (nth_child ss i)
unfolding steady
steady-nth_child no_children i = refl
steady-nth_child (child_and s ss) zero = refl
steady-nth_child (child_and s ss) (suc i) = steady-nth_child ss i

pub steady-child : (s : State) (i : ℕ) → child (steady s) i ≡ steady (child s i)
unfolding steady
steady-child closed i = refl
steady-child (open_with own ss) i = steady-nth_child ss i

steady-set_child : (ss : States) (i : ℕ) (t : State) → steady_each (set_child ss i t) ≡ set_child (steady_each ss) i (steady t)
unfolding steady
steady-set_child no_children i t = refl
steady-set_child (child_and s ss) zero t = refl
steady-set_child (child_and s ss) (suc i) t = ap (λ us. child_and (steady s) us) (steady-set_child ss i t)

pub steady-with_child : (s : State) (i : ℕ) (t : State) → steady (with_child s i t) ≡ with_child (steady s) i (steady t)
unfolding steady
steady-with_child closed i t = refl
steady-with_child (open_with own ss) i t = ap (λ us. open_with (own_steady own) us) (steady-set_child ss i t)

pub steady-child_kept : (s : State) (i : ℕ) (t : State) → steady t ≡ steady (child s i) → steady (with_child s i t) ≡ steady s
steady-child_kept s i t h = steady-with_child s i t ∙ ap (λ u. with_child (steady s) i u) (h ∙ sym (steady-child s i)) ∙ with_child-child (steady s) i

pub steady-own_kept : (s : State) (own : Own) → own_steady own ≡ own_steady (own_of s) → steady (with_own s own) ≡ steady s
unfolding steady
steady-own_kept closed own h = refl
steady-own_kept (open_with old ss) own h = ap (λ o. open_with o (steady_each ss)) h

is_open-steady : (s : State) → is_open (steady s) ≡ is_open s
unfolding steady
is_open-steady closed = refl
is_open-steady (open_with own ss) = refl

pub steady-open : (s t : State) → steady s ≡ steady t → is_open s ≡ is_open t
steady-open s t h = sym (is_open-steady s) ∙ ap is_open h ∙ is_open-steady t
