-- The rows of a segregator as they are where each length is asked of its member as itself.
use Rattle.std.proofs.Common.{◌≡◌, refl, ap₂, ℕ, ◌+◌, ◌-◌, Bool, true, false, arith, List, nat_eq}
use Rattle.std.proofs.lemmas.Bool.Decides.{nat_tests}
use Rattle.space_core.specs.Cells.{Cells}
use Rattle.layer_rules.specs.declared.Block.{Block}
use Rattle.layer_rules.specs.After.{Change, change_child, Reallocate}
use Rattle.layer_rules.specs.Allocating.{asked_for, serve_member}
use Rattle.layer_rules.specs.Expanding.{asked_to_expand, change_if}
use Rattle.layer_rules.specs.Reallocating.{asked_to_reallocate, either_reallocate, general_reallocate, reallocate_child}
use Rattle.layer_rules.specs.Setting.{need_at, open_group}
use Rattle.layer_rules.specs.State.{State, nothing}
use Rattle.layer_rules.specs.Rules.{Rules}
use Rattle.layer_rules.specs.Members.{nth, open_each}
use Rattle.layer_rules.specs.Choosing.{choose_growth, choose_within, choosing_rules}
use Rattle.size_dispatch_rules.proofs.SameRows.{asked-expand-same, asked-reallocate-same, either-same, shown-same}
use Rattle.size_dispatch_rules.specs.SegregateRules.{member_for, segregate_choice, segregate_rules}

-- a request is the member's
pub segregate-allocates : (ts : List ℕ) (es : List Rules) (n : ℕ) → (segregate_rules ts es).allocate n ≡ asked_for n (serve_member (λ b. b) (member_for ts n) ((nth es (member_for ts n)).allocate n))
unfolding segregate_rules choosing_rules
segregate-allocates ts es n = refl

pub segregate-aligns : (ts : List ℕ) (es : List Rules) (n a : ℕ) → (segregate_rules ts es).aligned_allocate n a ≡ asked_for n (serve_member (λ b. b) (member_for ts n) ((nth es (member_for ts n)).aligned_allocate n a))
unfolding segregate_rules choosing_rules
segregate-aligns ts es n a = refl

pub segregate-sets_up : (ts : List ℕ) (es : List Rules) (need : ℕ) (cells : Cells) → (segregate_rules ts es).set_up need cells ≡ open_group nothing (open_each es (need_at (member_for ts need) need) 0 1 cells)
unfolding segregate_rules choosing_rules
segregate-sets_up ts es need cells = refl

pub segregate-deallocates : (ts : List ℕ) (es : List Rules) (b : Block) → (segregate_rules ts es).deallocate b ≡ change_child (member_for ts b.len) (nth es (member_for ts b.len)).deallocate b
unfolding segregate_rules choosing_rules
segregate-deallocates ts es b = refl

-- ---- a block that grows, where both lengths have one member

abbrev pub member_expands : (thresholds : List ℕ) → List Rules → (delta : ℕ) → Change
member_expands ts es delta b = let i = member_for ts b.len in change_if (nat_eq i (member_for ts (b.len + delta))) (change_child i ((nth es i).expand delta)) b

grown-same : (q : Bool) (less more delta i : ℕ) (e : Rules) (b : Block) (s : State) (cells : Cells) → nat_eq less more ≡ false → more - less ≡ delta
    → change_if q (choose_growth (nat_eq less more) i (e.expand (more - less))) b s cells ≡ change_if q (change_child i (e.expand delta)) b s cells
grown-same q less more delta i e b s cells x y = ap₂ (λ z d. change_if q (choose_growth z i (e.expand d)) b s cells) x y

pub segregate-expands : (ts : List ℕ) (es : List Rules) (delta : ℕ) (b : Block) (s : State) (cells : Cells) → (segregate_rules ts es).expand delta b s cells ≡ asked_to_expand delta (member_expands ts es delta) b s cells
unfolding segregate_rules choosing_rules
segregate-expands ts es delta b s cells =
    asked-expand-same delta _ (member_expands ts es delta) b s cells (λ z.
    let i = member_for ts b.len in
    let less : nat_eq b.len (b.len + delta) ≡ false = grind (arith, nat_tests) in
    let more : b.len + delta - b.len ≡ delta = omega arith in
    grown-same (nat_eq i (member_for ts (b.len + delta))) b.len (b.len + delta) delta i (nth es i) b s cells less more)

-- ---- a block that gets another length: by the member, where both lengths have one, and else by the general form

abbrev pub member_reallocates : (thresholds : List ℕ) → List Rules → (n : ℕ) → Reallocate
member_reallocates ts es n b =
    let i = member_for ts b.len in
    let f = segregate_rules ts es in
    either_reallocate (nat_eq i (member_for ts n)) (reallocate_child i ((nth es i).reallocate n)) (general_reallocate n f.offers f.expand (f.allocate n) f.deallocate) b

within-same : (ts : List ℕ) (es : List Rules) (n : ℕ) (b : Block) (s : State) (cells : Cells) (x : Bool) (c : Reallocate) → x ≡ false
    → either_reallocate x c (choose_within (segregate_choice ts es) es n) b s cells ≡ reallocate_child (member_for ts b.len) ((nth es (member_for ts b.len)).reallocate n) b s cells
within-same ts es n b s cells true c h = absurd (cc)
within-same ts es n b s cells false c h = shown-same (reallocate_child (member_for ts b.len) ((nth es (member_for ts b.len)).reallocate n) b s cells)

pub segregate-reallocates : (ts : List ℕ) (es : List Rules) (n : ℕ) (b : Block) (s : State) (cells : Cells) → (segregate_rules ts es).reallocate n b s cells ≡ asked_to_reallocate n (segregate_rules ts es).deallocate (member_reallocates ts es n) b s cells
unfolding segregate_rules choosing_rules
segregate-reallocates ts es n b s cells =
    let i = member_for ts b.len in
    let f = segregate_rules ts es in
    asked-reallocate-same n f.deallocate _ (member_reallocates ts es n) b s cells (λ q.
    either-same (nat_eq i (member_for ts n)) _ (reallocate_child i ((nth es i).reallocate n)) (general_reallocate n f.offers f.expand (f.allocate n) f.deallocate) b s cells (λ z. within-same ts es n b s cells (nat_eq n b.len) _ q))
