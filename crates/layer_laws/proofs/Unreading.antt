-- What is read from the Space's bytes left out: what a state shows besides it, and what changes a state so as well without it.
use Rattle.std.proofs.Common.{◌≡◌, refl, sym, ◌∙◌, ap, ap₂, ℕ, zero, suc, ◌&&◌}
use Rattle.layer_rules.specs.declared.Block.{Block}
use Rattle.layer_rules.specs.Fields.{Fields, closed_fields, open_fields}
use Rattle.layer_rules.specs.Offering.{is_served_size}
use Rattle.layer_rules.specs.Owning.{may_hold}
use Rattle.layer_rules.specs.Setting.{if_set_up}
use Rattle.layer_rules.specs.State.{State, closed, open_with, Own, nothing, region_own, bitmap_own, kr_own, cache_own, stats_own, order_own, row_own, States, no_children, child_and, one_child, nth_child, set_child, child, with_child, with_own, is_open, own_of, chunk_in, position_in, base_in, mode_in, order_in, row_in, chunk_of, position_of, base_of, mode_of, order_of, row_of}
use Rattle.layer_rules.specs.Unread.{own_unread, unread, unread_each}

-- ---- children

unread-nth_child : (ss : States) (i : ℕ) → nth_child (unread_each ss) i ≡ unread (nth_child ss i)
unfolding unread
unread-nth_child no_children i = refl
unread-nth_child (child_and s ss) zero = refl
unread-nth_child (child_and s ss) (suc i) = unread-nth_child ss i

pub unread-child : (s : State) (i : ℕ) → child (unread s) i ≡ unread (child s i)
unfolding unread
unread-child closed i = refl
unread-child (open_with own ss) i = unread-nth_child ss i

-- what is told of a child without what is read, is told so of the state's child
pub told-child : {A : Type 0} (f : State → A) (s : State) (i : ℕ) → ((t : State) → f (unread t) ≡ f t) → f (child (unread s) i) ≡ f (child s i)
told-child f s i h = ap f (unread-child s i) ∙ h (child s i)

unread-set_child : (ss : States) (i : ℕ) (t : State) → unread_each (set_child ss i t) ≡ set_child (unread_each ss) i (unread t)
unfolding unread
unread-set_child no_children i t = refl
unread-set_child (child_and s ss) zero t = refl
unread-set_child (child_and s ss) (suc i) t = ap (λ us. child_and (unread s) us) (unread-set_child ss i t)

pub unread-with_child : (s : State) (i : ℕ) (t : State) → unread (with_child s i t) ≡ with_child (unread s) i (unread t)
unfolding unread
unread-with_child closed i t = refl
unread-with_child (open_with own ss) i t = ap (λ us. open_with (own_unread own) us) (unread-set_child ss i t)

-- ---- what is a layer's own

pub unread-own : (s : State) → own_of (unread s) ≡ own_unread (own_of s)
unfolding unread
unread-own closed = refl
unread-own (open_with own ss) = refl

pub unread-with_own : (s : State) (own : Own) → unread (with_own s own) ≡ with_own (unread s) (own_unread own)
unfolding unread
unread-with_own closed own = refl
unread-with_own (open_with old ss) own = refl

-- what is own changes as well without what is read
pub unread-change_own : (f : Own → Own) (s : State) → ((own : Own) → own_unread (f own) ≡ f (own_unread own)) → unread (with_own s (f (own_of s))) ≡ with_own (unread s) (f (own_of (unread s)))
unread-change_own f s h = unread-with_own s (f (own_of s)) ∙ ap (with_own (unread s)) (h (own_of s) ∙ ap f (sym (unread-own s)))

-- a part of a layer's own that is not read from the bytes
pub told-own : {A : Type 0} (part : Own → A) → ((own : Own) → part (own_unread own) ≡ part own) → (s : State) → part (own_of (unread s)) ≡ part (own_of s)
told-own part h s = ap part (unread-own s) ∙ h (own_of s)

pub unread-open : (s : State) → is_open (unread s) ≡ is_open s
unfolding unread
unread-open closed = refl
unread-open (open_with own ss) = refl

pub chunk-unread : (own : Own) → chunk_in (own_unread own) ≡ chunk_in own
chunk-unread nothing = refl
chunk-unread (region_own chunk position) = refl
chunk-unread (bitmap_own chunk base units) = refl
chunk-unread (kr_own chunk mode position units) = refl
chunk-unread (cache_own places) = refl
chunk-unread (stats_own counts) = refl
chunk-unread (order_own order) = refl
chunk-unread (row_own numbers) = refl

pub position-unread : (own : Own) → position_in (own_unread own) ≡ position_in own
position-unread nothing = refl
position-unread (region_own chunk position) = refl
position-unread (bitmap_own chunk base units) = refl
position-unread (kr_own chunk mode position units) = refl
position-unread (cache_own places) = refl
position-unread (stats_own counts) = refl
position-unread (order_own order) = refl
position-unread (row_own numbers) = refl

pub base-unread : (own : Own) → base_in (own_unread own) ≡ base_in own
base-unread nothing = refl
base-unread (region_own chunk position) = refl
base-unread (bitmap_own chunk base units) = refl
base-unread (kr_own chunk mode position units) = refl
base-unread (cache_own places) = refl
base-unread (stats_own counts) = refl
base-unread (order_own order) = refl
base-unread (row_own numbers) = refl

mode-unread : (own : Own) → mode_in (own_unread own) ≡ mode_in own
mode-unread nothing = refl
mode-unread (region_own chunk position) = refl
mode-unread (bitmap_own chunk base units) = refl
mode-unread (kr_own chunk mode position units) = refl
mode-unread (cache_own places) = refl
mode-unread (stats_own counts) = refl
mode-unread (order_own order) = refl
mode-unread (row_own numbers) = refl

order-unread : (own : Own) → order_in (own_unread own) ≡ order_in own
order-unread nothing = refl
order-unread (region_own chunk position) = refl
order-unread (bitmap_own chunk base units) = refl
order-unread (kr_own chunk mode position units) = refl
order-unread (cache_own places) = refl
order-unread (stats_own counts) = refl
order-unread (order_own order) = refl
order-unread (row_own numbers) = refl

pub row-unread : (own : Own) → row_in (own_unread own) ≡ row_in own
row-unread nothing = refl
row-unread (region_own chunk position) = refl
row-unread (bitmap_own chunk base units) = refl
row-unread (kr_own chunk mode position units) = refl
row-unread (cache_own places) = refl
row-unread (stats_own counts) = refl
row-unread (order_own order) = refl
row-unread (row_own numbers) = refl

pub unread-chunk : (s : State) → chunk_of (unread s) ≡ chunk_of s
unread-chunk = told-own chunk_in chunk-unread

pub unread-position : (s : State) → position_of (unread s) ≡ position_of s
unread-position = told-own position_in position-unread

pub unread-base : (s : State) → base_of (unread s) ≡ base_of s
unread-base = told-own base_in base-unread

pub unread-mode : (s : State) → mode_of (unread s) ≡ mode_of s
unread-mode = told-own mode_in mode-unread

pub unread-order : (s : State) → order_of (unread s) ≡ order_of s
unread-order = told-own order_in order-unread

pub unread-row : (s : State) → row_of (unread s) ≡ row_of s
unread-row = told-own row_in row-unread

pub unread-may_hold : (b : Block) (s : State) → may_hold b (unread s) ≡ may_hold b s
unread-may_hold b s = ap (λ x. x && is_served_size b.len) (unread-open s)

-- ---- what is read of the fields

-- what differs by what is read alone is the same without it
pub unread-if_set_up : (fs : Fields) (x y : Own) (ss ts : States) → own_unread x ≡ own_unread y → unread_each ss ≡ unread_each ts → unread (if_set_up fs (open_with x ss)) ≡ unread (if_set_up fs (open_with y ts))
unfolding unread
unread-if_set_up closed_fields x y ss ts h k = refl
unread-if_set_up (open_fields kept fss) x y ss ts h k = ap₂ (λ own us. open_with own us) h k

-- over one parent
pub unread-over_parent : (fs : Fields) (x y : Own) (s t : State) → own_unread x ≡ own_unread y → unread s ≡ unread t → unread (if_set_up fs (open_with x (one_child s))) ≡ unread (if_set_up fs (open_with y (one_child t)))
unfolding unread
unread-over_parent fs x y s t h k = unread-if_set_up fs x y (one_child s) (one_child t) h (ap (λ u. child_and u no_children) k)

pub unread-child_and : (s t : State) (ss ts : States) → unread s ≡ unread t → unread_each ss ≡ unread_each ts → unread_each (child_and s ss) ≡ unread_each (child_and t ts)
unfolding unread
unread-child_and s t ss ts h k = ap₂ (λ u us. child_and u us) h k
