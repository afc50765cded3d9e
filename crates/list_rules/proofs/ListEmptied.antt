-- A list whose blocks are all taken back: its open members are torn down, and no block is out.
use Rattle.std.proofs.Common.{◌≡◌, refl, sym, ap, subst, ◌∙◌, ℕ, zero, suc, ◌<◌, ◌⊎◌, inl, inr, Bool, true, false, cond, arith, List, [], ◌∷◌, length, get_or, Ok}
use Rattle.space_core.specs.Cells.{Cells}
use Rattle.layer_rules.specs.State.{State, States, order_own, open_with, closed, no_children, child_and, is_open, child, children_of, nth_child}
use Rattle.layer_rules.specs.After.{Opened, opened}
use Rattle.layer_rules.specs.Members.{nth, tags_of}
use Rattle.layer_rules.specs.NullRules.{null_rules}
use Rattle.layer_rules.specs.Rules.{Rules, IsIn, IsLeaf, IsSettled, without_leaves}
use Rattle.layer_laws.specs.Chooses.{EachNumber, HaveOwnTags}
use Rattle.layer_laws.specs.HeldByMembers.{IsOpenGroup, IsAllBack}
use Rattle.layer_laws.specs.Lawful.{IsRegular, IsLawful, NoCell}
use Rattle.layer_laws.proofs.HeldTurns.{shut-none}
use Rattle.layer_laws.proofs.MembersLawful.{in-left, in-right, leaf-in, some-member}
use Rattle.layer_laws.proofs.Tests.{no-cells-from}
use Rattle.layer_laws.proofs.TornDown.{freed-cells}
use Rattle.list_rules.proofs.ListOrder.{IsOrdered, ordered-parts, ordered-test}
use Rattle.list_rules.proofs.ListRegular.{closed-nth}
use Rattle.list_rules.proofs.ListTurns.{fits}
use Rattle.list_rules.specs.ListRules.{all_closed, without_open, child_count, list_rules}

-- ---- the table then

-- a tag is as before and none of an open member, or it was one of the members' and is 0
abbrev IsTorn : List Rules → States → (old new : ℕ) → Type 0
IsTorn es ss old new = ((new ≡ old) × ((j : ℕ) → is_open (nth_child ss j) ≡ true → IsLeaf (nth es j) old → ⊥)) ⊎ ((new ≡ 0) × IsIn (tags_of es) old)

-- the first of the members
first-torn : (x : Bool) (e : Rules) (cells : Cells) (c : ℕ) → ((get_or (cond x (without_leaves e cells) cells).tags c 0 ≡ get_or cells.tags c 0) × (x ≡ true → IsLeaf e (get_or cells.tags c 0) → ⊥))
    ⊎ ((get_or (cond x (without_leaves e cells) cells).tags c 0 ≡ 0) × IsLeaf e (get_or cells.tags c 0))
first-torn false e cells c = inl (refl, λ q l. absurd (cc))
first-torn true e cells c = elim (freed-cells e.leaf_tags cells c) [ inl z ↦ inl (z.0, λ q. z.1) | inr z ↦ inr z ]

none-else : (e : Rules) (es : List Rules) (s : State) (ss : States) (old : ℕ) → (is_open s ≡ true → IsLeaf e old → ⊥) → ((j : ℕ) → is_open (nth_child ss j) ≡ true → IsLeaf (nth es j) old → ⊥)
    → (j : ℕ) → is_open (nth_child (child_and s ss) j) ≡ true → IsLeaf (nth (e ∷ es) j) old → ⊥
none-else e es s ss old f g zero = f
none-else e es s ss old f g (suc j) = g j

then-torn : (e : Rules) (es : List Rules) (s : State) (ss : States) (old mid new : ℕ) → ((mid ≡ old) × (is_open s ≡ true → IsLeaf e old → ⊥)) ⊎ ((mid ≡ 0) × IsLeaf e old) → IsTorn es ss mid new → IsTorn (e ∷ es) (child_and s ss) old new
then-torn e es s ss old mid new (inl x) (inl y) = inl (y.0 ∙ x.0, none-else e es s ss old x.1 (λ j o l. y.1 j o (subst (IsLeaf (nth es j)) (sym x.0) l)))
then-torn e es s ss old mid new (inl x) (inr y) = inr (y.0, in-right e.leaf_tags (tags_of es) old (subst (IsIn (tags_of es)) x.0 y.1))
then-torn e es s ss old mid new (inr x) (inl y) = inr (y.0 ∙ x.0, in-left e.leaf_tags (tags_of es) old x.1)
then-torn e es s ss old mid new (inr x) (inr y) = inr (y.0, in-left e.leaf_tags (tags_of es) old x.1)

torn-cells : (es : List Rules) (ss : States) (cells : Cells) (c : ℕ) → child_count ss ≡ length es → IsTorn es ss (get_or cells.tags c 0) (get_or (without_open es ss cells).tags c 0)
unfolding null_rules
torn-cells [] ss cells c n = inl (refl, λ j o l. l)
torn-cells (e ∷ es) no_children cells c n = absurd (omega arith)
torn-cells (e ∷ es) (child_and s ss) cells c n =
    let mid = cond (is_open s) (without_leaves e cells) cells in
    then-torn e es s ss (get_or cells.tags c 0) (get_or mid.tags c 0) (get_or (without_open es ss mid).tags c 0) (first-torn (is_open s) e cells c) (torn-cells es ss mid c (omega arith))

-- ---- all members are closed

closed-count : (es : List Rules) → child_count (all_closed es) ≡ length es
closed-count [] = refl
closed-count (e ∷ es) = ap suc (closed-count es)

-- the list of closed members
abbrev shut_list : List Rules → State
shut_list es = open_with (order_own []) (all_closed es)

shut-ordered : (es : List Rules) → IsOrdered (length es) (shut_list es)
shut-ordered es = record { form = refl; children = closed-count es; named = tt; once = tt; those_open = λ i l. ap is_open (closed-nth es i) }

-- what is asked of the members: each is regular and lawful and tells what it holds, and no two leaves have one tag
pub record AreListed (es : List Rules) : Type 0 where
  pub own : HaveOwnTags es
  pub owns : (i : ℕ) → i < length es → (nth es i).offers.owns ≡ true
  pub regular : EachNumber IsRegular es
  pub lawful : EachNumber IsLawful es

-- it is sound where no member has a cell
shut-open : (es : List Rules) → AreListed es → (cells : Cells) → ((j : ℕ) → j < length es → NoCell (IsLeaf (nth es j)) cells) → IsOpenGroup es (fits es) (shut_list es) cells
shut-open es w cells none = record {
  is_set = refl;
  in_order = ordered-test (length es) (shut_list es) (shut-ordered es);
  members = λ j l.
      let z : IsSettled (nth es j) closed cells = (w.lawful j).opening.closed_settled cells ∙ no-cells-from (nth es j) cells (λ c i y. none j l c y) in
      subst (λ t. IsSettled (nth es j) t cells) (sym (closed-nth es j)) z;
}

none-left : (es : List Rules) → AreListed es → (s : State) (cells : Cells) → IsOrdered (length es) s → IsOpenGroup es (fits es) s cells → (j : ℕ) → j < length es → NoCell (IsLeaf (nth es j)) (without_open es (children_of s) cells)
none-left es w s cells h k j l c y =
    elim (torn-cells es (children_of s) cells c h.children) [
      | inl z ↦ by-open (is_open (child s j)) refl (subst (IsLeaf (nth es j)) z.0 y) z.1
      | inr z ↦ let k = (some-member es j w.own).least _ y in absurd (omega (arith, z.0))
    ]
  where
    shut-state : (t : State) → is_open t ≡ false → t ≡ closed
    shut-state closed q = refl
    shut-state (open_with own ss) q = absurd (cc)

    by-open : (x : Bool) → is_open (child s j) ≡ x → IsLeaf (nth es j) (get_or cells.tags c 0) → ((j : ℕ) → is_open (child s j) ≡ true → IsLeaf (nth es j) (get_or cells.tags c 0) → ⊥) → ⊥
    by-open true q y f = f j q y
    by-open false q y f = shut-none es w.own w.lawful j cells (subst (λ t. IsSettled (nth es j) t cells) (shut-state (child s j) q) (k.members j l)) c y

pub list-all_back : (es : List Rules) → AreListed es → (s : State) (cells : Cells) → IsOpenGroup es (fits es) s cells → IsAllBack (list_rules es) es (fits es) cells ((list_rules es).deallocate_all s cells)
unfolding list_rules
list-all_back es w s cells k =
    let g = list_rules es in
    let h = ordered-parts (length es) s k.in_order in
    let new = without_open es (children_of s) cells in
    subst (λ u. IsAllBack g es (fits es) cells (g.deallocate_all u cells)) (sym h.form)
    (record {
      open_group = shut-open es w new (none-left es w s cells h k);
      none = λ j b x. let y : is_open closed ≡ true = subst (λ t. is_open t ≡ true) (closed-nth es j) ((w.lawful j).keeping.out_open b (child (shut_list es) j) new x) in cc;
      table = λ c. elim (torn-cells es (children_of s) cells c h.children) [ inl y ↦ inl y.0 | inr y ↦ inr y ];
    })

-- ---- what is set up

pub list-set_up : (es : List Rules) → AreListed es → (need : ℕ) (cells : Cells) (o : Opened) → NoCell (IsLeaf (list_rules es)) cells → (list_rules es).set_up need cells ≡ Ok o → IsOpenGroup es (fits es) o.state o.cells
unfolding list_rules
list-set_up es w need cells o n q =
    let z : opened (shut_list es) cells ≡ o = cc in
    subst (λ o. IsOpenGroup es (fits es) o.state o.cells) z (shut-open es w cells (λ j l c y. n c (leaf-in es j _ y)))
