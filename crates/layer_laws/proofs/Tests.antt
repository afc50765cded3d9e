-- What the shared tests say, and what a table without cells of the leaves is.
use Rattle.std.proofs.Common.{◌≡◌, refl, sym, subst, ◌∙◌, ℕ, ◌<◌, ◌≤◌, inl, inr, Bool, true, false, ◌&&◌, nat_le, arith, List, [], ◌∷◌, get_or, length, nat_eq}
use Rattle.std.proofs.lemmas.Bool.{and_from}
use Rattle.std.proofs.lemmas.Bool.Decides.{nat_tests}
use Rattle.space_core.specs.Cells.{Cells, used_by}
use Rattle.layer_rules.specs.Fields.{Fields, are_open, closed_fields, open_fields}
use Rattle.layer_rules.specs.Setting.{if_set_up}
use Rattle.layer_rules.specs.State.{State, closed, open_with, Own, States, no_children, child_and, one_child, is_open, own_of, child}
use Rattle.layer_laws.proofs.Basics.{and-fst, and-snd}
use Rattle.layer_laws.proofs.Tables.{used-none, none-used}
use Rattle.layer_rules.specs.Rules.{Rules, IsIn, IsLeaf, HasSomeTags}
use Rattle.layer_rules.specs.Testing.{has_no_cells, settled_if, is_over}
use Rattle.layer_laws.specs.Lawful.{TagsKept, NoCell, IsOwnTag, OnlyOwnCells}

-- ---- where a layer is open

pub if-open : (x y b : Bool) → b ≡ true → elim b as (λ _. Bool) [ true ↦ x | false ↦ y ] ≡ x
if-open x y true e = refl
if-open x y false e = absurd (cc)

pub opened : (s : State) (tags : List ℕ) (cells : Cells) (x : Bool) → is_open s ≡ true → settled_if s tags cells x ≡ true → x ≡ true
opened s tags cells x o h = sym (if-open x (has_no_cells tags cells) (is_open s) o) ∙ h

pub settle : (s : State) (tags : List ℕ) (cells : Cells) (x : Bool) → is_open s ≡ true → x ≡ true → settled_if s tags cells x ≡ true
settle s tags cells x o h = if-open x (has_no_cells tags cells) (is_open s) o ∙ h

pub may-open : (o l x : Bool) → ((o && l) && x) ≡ true → o ≡ true
may-open true l x h = refl
may-open false l x h = absurd (cc)

-- what is read is open where the numbers say so
pub set-up-opens : (fs : Fields) (own : Own) (ss : States) → is_open (if_set_up fs (open_with own ss)) ≡ are_open fs
set-up-opens closed_fields own ss = refl
set-up-opens (open_fields kept fss) own ss = refl

pub record IsOverBy (passes : Own → Bool) (s : State) : Type 0 where
  pub form : s ≡ open_with (own_of s) (one_child (child s 0))
  pub own : passes (own_of s) ≡ true
  pub parent : is_open (child s 0) ≡ true

pub over-parts : (passes : Own → Bool) (s : State) → is_over passes s ≡ true → IsOverBy passes s
over-parts passes closed h = absurd (cc)
over-parts passes (open_with own no_children) h = absurd (cc)
over-parts passes (open_with own (child_and t no_children)) h = record { form = refl; own = and-fst _ _ h; parent = and-snd _ _ h }
over-parts passes (open_with own (child_and t (child_and u ss))) h = absurd (cc)

pub some-open : (o s x : Bool) → ((o && s) && x) ≡ true → o ≡ true
some-open true s x h = refl
some-open false s x h = absurd (cc)

-- ---- tables

pub none-at : (tags : List ℕ) (cells : Cells) (t : ℕ) → has_no_cells tags cells ≡ true → IsIn tags t → used_by t cells ≡ 0
none-at [] cells t h l = absurd l
none-at (x ∷ xs) cells t h (inl l) =
    let q : nat_eq (used_by x cells) 0 ≡ true = and-fst (nat_eq (used_by x cells) 0) (has_no_cells xs cells) h in
    subst (λ u. used_by u cells ≡ 0) (sym l) (grind (arith, nat_tests))
none-at (x ∷ xs) cells t h (inr l) = none-at xs cells t (and-snd (nat_eq (used_by x cells) 0) (has_no_cells xs cells) h) l

pub none-all : (tags : List ℕ) (cells : Cells) → ((t : ℕ) → IsIn tags t → used_by t cells ≡ 0) → has_no_cells tags cells ≡ true
none-all [] cells f = refl
none-all (x ∷ xs) cells f = let q = f x (inl refl) in and_from _ _ (grind (arith, nat_tests)) (none-all xs cells (λ t l. f t (inr l)))

pub no-cell : (e : Rules) (cells : Cells) → HasSomeTags e → has_no_cells e.leaf_tags cells ≡ true → NoCell (IsLeaf e) cells
no-cell e cells w h c l = used-none _ cells.tags (none-at e.leaf_tags cells _ h l) c (w.least _ l) refl

pub no-cells-from : (e : Rules) (cells : Cells) → ((c : ℕ) → c < length cells.tags → IsLeaf e (get_or cells.tags c 0) → ⊥) → has_no_cells e.leaf_tags cells ≡ true
no-cells-from e cells h = none-all e.leaf_tags cells (λ t l. none-used t cells.tags (λ c i q. h c i (subst (IsLeaf e) (sym q) l)))

pub no-cells-kept : (e : Rules) (old new : Cells) → HasSomeTags e → TagsKept e old new → has_no_cells e.leaf_tags old ≡ true → has_no_cells e.leaf_tags new ≡ true
no-cells-kept e old new w k h = no-cells-from e new (λ c i l. no-cell e old w h c (subst (IsLeaf e) (sym (k.back c l)) l))

by-cases : (x y p q b : Bool) → (b ≡ true → x ≡ true → y ≡ true) → (p ≡ true → q ≡ true) → elim b as (λ _. Bool) [ true ↦ x | false ↦ p ] ≡ true → elim b as (λ _. Bool) [ true ↦ y | false ↦ q ] ≡ true
by-cases x y p q true f g h = f refl h
by-cases x y p q false f g h = g h

-- what is open stays sound by its form, what is closed has no cell still
pub settled-moved : (e : Rules) (s : State) (old new : Cells) (x y : Bool) → HasSomeTags e → TagsKept e old new → (is_open s ≡ true → x ≡ true → y ≡ true)
    → settled_if s e.leaf_tags old x ≡ true → settled_if s e.leaf_tags new y ≡ true
settled-moved e s old new x y w k f h = by-cases x y (has_no_cells e.leaf_tags old) (has_no_cells e.leaf_tags new) (is_open s) f (no-cells-kept e old new w k) h

-- what is taken in turn is taken
pub takes-then : (e : Rules) (old mid new : Cells) → OnlyOwnCells e old mid → OnlyOwnCells e mid new → OnlyOwnCells e old new
takes-then e old mid new f g = record { count = g.count ∙ f.count; each = λ k. both k (f.each k) (g.each k) }
  where
    both : (k : ℕ) → IsOwnTag e (get_or old.tags k 0) (get_or mid.tags k 0) → IsOwnTag e (get_or mid.tags k 0) (get_or new.tags k 0) → IsOwnTag e (get_or old.tags k 0) (get_or new.tags k 0)
    both k (inl x) (inl y) = inl (y ∙ x)
    both k (inl x) (inr y) = inr (sym x ∙ y.0, y.1)
    both k (inr x) (inl y) = inr (x.0, subst (IsLeaf e) (sym y) x.1)
    both k (inr x) (inr y) = inr (x.0, y.1)

-- nothing is taken
pub takes-none : (e : Rules) (cells : Cells) → OnlyOwnCells e cells cells
takes-none e cells = record { count = refl; each = λ k. inl refl }

-- a block of at least one byte has one
pub some-byte : (o x : Bool) (n : ℕ) → ((o && nat_le 1 n) && x) ≡ true → 1 ≤ n
some-byte o x n h = let s = byte o (nat_le 1 n) x h in grind (arith, nat_tests)
  where
    byte : (o s x : Bool) → ((o && s) && x) ≡ true → s ≡ true
    byte true true x h = refl
    byte true false x h = absurd (cc)
    byte false s x h = absurd (cc)
