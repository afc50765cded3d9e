-- A fallback's blocks are held by its two layers: what it shows for that, over layers that are lawful.
use Rattle.std.proofs.Common.{◌≡◌, ◌≢◌, refl, sym, ap, subst, ◌∙◌, ℕ, zero, suc, ◌+◌, ◌<◌, ◌⊎◌, inl, inr, Bool, true, false, ◌&&◌, ◌||◌, cond, arith, List, [], ◌∷◌, ◌++◌, length, get_or, Some, Ok, unwrap_or}
use Rattle.std.proofs.lemmas.Bool.{and_from}
use Rattle.std.proofs.Math.Bool.{and-true}
use Rattle.std.proofs.lemmas.List.{append-nil}
use Rattle.std.specs.Option.{option_map_or}
use Rattle.space_core.specs.Cells.{Cells}
use Rattle.layer_rules.specs.declared.Block.{Block}
use Rattle.layer_rules.specs.Rows.{EachPair}
use Rattle.layer_rules.specs.State.{State, States, nothing, open_with, closed, no_children, child_and, two_children, is_open, child, children_of, nth_child, with_child}
use Rattle.layer_rules.specs.After.{After, after, in_child, Serve, Opened, opened as opened_as, change_child, Reallocated, moved_to, emptied, unmoved}
use Rattle.layer_rules.specs.Allocating.{serve_member}
use Rattle.layer_rules.specs.Fields.{child_fields}
use Rattle.layer_rules.specs.Members.{nth, tags_of, group_settled, empty_each, into_member}
use Rattle.layer_rules.specs.Owning.{is_some_block, is_plausible, may_hold, owns_child_if}
use Rattle.layer_rules.specs.Blocks.{no_block}
use Rattle.layer_rules.specs.Offering.{is_served_size}
use Rattle.layer_rules.specs.Reallocating.{either_reallocate}
use Rattle.layer_rules.specs.Rules.{Rules, IsIn, IsLeaf, IsSettled, HasDistinctTags, HasSomeTags, owns_along}
use Rattle.layer_rules.specs.Testing.{is_nothing, on_open}
use Rattle.layer_laws.proofs.Basics.{and-fst, and-snd}
use Rattle.layer_laws.proofs.Children.{child_count}
use Rattle.layer_laws.proofs.HeldTurns.{with-set, served-asked_for, served-member}
use Rattle.layer_laws.proofs.MembersLawful.{GroupParts, own-form, group-parts, in-left, in-right, distinct-apart, members-emptied, out-some, some-member, kept-taken, all-lawful}
use Rattle.layer_laws.proofs.NullLawful.{null-regular}
use Rattle.layer_laws.proofs.Owners.{may-hold}
use Rattle.layer_laws.proofs.Reallocated.{asked-same}
use Rattle.layer_laws.proofs.StayingOpen.{StaysOpen}
use Rattle.layer_laws.proofs.Steps.{then-ok}
use Rattle.layer_laws.proofs.Tests.{opened}
use Rattle.layer_laws.specs.Chooses.{EachMember, HaveOwnTags}
use Rattle.layer_laws.specs.HeldByMembers.{Holder, TellsByHolder, FindsHolder, WalksIntoMembers, IsOpenGroup, StandsByMembers, IsWithMember, IsCallOfMember, ServedInTurn, AskedInTurn, none_asked, asked_then, MovedInTurn, by_member, declines_then, moved_away, IsAllBack, CallsMembers, HeldByMembers}
use Rattle.layer_laws.specs.Lawful.{IsRegular, IsLawful, NoCell}
use Rattle.fallback_rules.proofs.OrElse.{served-or_else}
use Rattle.fallback_rules.specs.FallbackRules.{fallback_allocate, either_change, or_other, reallocate_or_other, reply_or, or_owns, fallback_rules}

-- what is asked of the two: each is regular and lawful, the primary tells what it holds, and no two leaves have one tag
pub record AreLayers (p f : Rules) : Type 0 where
  pub owns : p.offers.owns ≡ true
  pub distinct : HasDistinctTags (fallback_rules p f)
  pub some : HasSomeTags (fallback_rules p f)
  pub first_regular : IsRegular p
  pub second_regular : IsRegular f
  pub first : IsLawful p
  pub second : IsLawful f

-- the two in a row
abbrev pub both : (p f : Rules) → List Rules
both p f = p ∷ f ∷ []

both-regular : (p f : Rules) → AreLayers p f → (i : ℕ) → IsRegular (nth (both p f) i)
both-regular p f w zero = w.first_regular
both-regular p f w (suc zero) = w.second_regular
both-regular p f w (suc (suc i)) = null-regular

pub each-layer : (P : Rules → Type 0) (p f : Rules) → P p → P f → EachMember P (both p f)
each-layer P p f x y zero l = x
each-layer P p f x y (suc zero) l = y
each-layer P p f x y (suc (suc i)) l = absurd (omega arith)

-- ---- their tags

tags-of_both : (p f : Rules) → tags_of (both p f) ≡ p.leaf_tags ++ f.leaf_tags
tags-of_both p f = ap (λ ys. p.leaf_tags ++ ys) (append-nil f.leaf_tags)

pub own-both : (p f : Rules) → AreLayers p f → HaveOwnTags (both p f)
unfolding fallback_rules
own-both p f w = record {
  distinct = subst (λ ts. EachPair ◌≢◌ ts) (sym (tags-of_both p f)) w.distinct;
  some = λ t l. w.some.least t (subst (λ ts. IsIn ts t) (tags-of_both p f) l);
}

first-apart : (p f : Rules) → AreLayers p f → (t : ℕ) → IsLeaf p t → IsLeaf f t → ⊥
unfolding fallback_rules
first-apart p f w t l r = distinct-apart p.leaf_tags f.leaf_tags t w.distinct l r

-- ---- the holder

abbrev pair_holder : Rules → Holder
pair_holder p b s = cond (p.holds b (child s 0)) (Some 0) (Some 1)

-- what is told by the number of a layer is told by the test
by-number : {A : Type 0} (x : Bool) (f : ℕ → A) (d : A) → cond x (f 0) (f 1) ≡ option_map_or f (cond x (Some 0) (Some 1)) d
by-number true f d = refl
by-number false f d = refl

by-layer : {A : Type 0} (x : Bool) (f : ℕ → A) → cond x (f 0) (f 1) ≡ f (unwrap_or (cond x (Some 0) (Some 1)) 0)
by-layer true f = refl
by-layer false f = refl

by-held : (P : Bool → ℕ → Type 0) (x : Bool) (i : ℕ) → cond x (Some 0) (Some 1) ≡ Some i → P true 0 → P false 1 → P x i
by-held P true i e a b = let q : 0 ≡ i = cc in subst (P true) q a
by-held P false i e a b = let q : 1 ≡ i = cc in subst (P false) q b

fallback-tells : (p f : Rules) → TellsByHolder (fallback_rules p f) (both p f) (pair_holder p)
unfolding fallback_rules
fallback-tells p f = record {
  out = λ b s cells. ap (λ x. is_some_block b s && x) (by-number (p.holds b (child s 0)) (λ i. (nth (both p f) i).is_out b (child s i) cells) false);
  routed = λ b s. ap (λ x. is_plausible b && x) (by-number (p.holds b (child s 0)) (λ i. (nth (both p f) i).is_routed b (child s i)) false);
  route = λ b s. by-number (p.holds b (child s 0)) (λ i. i ∷ (nth (both p f) i).route b (child s i)) [];
  extent = λ b s. by-number (p.holds b (child s 0)) (λ i. (nth (both p f) i).extent b (child s i)) no_block;
  clean = λ b s bytes. by-layer (p.holds b (child s 0)) (λ i. (nth (both p f) i).is_clean b (child s i) bytes);
  marked = λ b s bytes. refl;
}

-- ---- an open pair

-- two open layers, and nothing of its own
abbrev is_pair : State → Bool
is_pair closed = false
is_pair (open_with own no_children) = false
is_pair (open_with own (child_and a no_children)) = false
is_pair (open_with own (child_and a (child_and c no_children))) = is_nothing own && (is_open a && is_open c)
is_pair (open_with own (child_and a (child_and c (child_and u us)))) = false

abbrev pair_of : State → State → State
pair_of a c = open_with nothing (two_children a c)

by-pair : (P : State → Type 0) (s : State) → is_pair s ≡ true → ((a c : State) → is_open a ≡ true → is_open c ≡ true → P (pair_of a c)) → P s
by-pair P closed h k = absurd (cc)
by-pair P (open_with own no_children) h k = absurd (cc)
by-pair P (open_with own (child_and a no_children)) h k = absurd (cc)
by-pair P (open_with own (child_and a (child_and c (child_and u us)))) h k = absurd (cc)
by-pair P (open_with own (child_and a (child_and c no_children))) h k =
    let rest = and-snd (is_nothing own) (is_open a && is_open c) h in
    subst (λ own. P (open_with own (two_children a c))) (sym (own-form own (and-fst (is_nothing own) (is_open a && is_open c) h))) (k a c (and-fst (is_open a) (is_open c) rest) (and-snd (is_open a) (is_open c) rest))

pair-from : (ss : States) → child_count ss ≡ 2 → is_open (child (open_with nothing ss) 0) ≡ true → is_open (child (open_with nothing ss) 1) ≡ true → is_pair (open_with nothing ss) ≡ true
pair-from no_children n a c = absurd (omega arith)
pair-from (child_and x no_children) n a c = absurd (omega arith)
pair-from (child_and x (child_and y no_children)) n a c = and_from _ _ a c
pair-from (child_and x (child_and y (child_and z zs))) n a c = absurd (omega arith)

group-pair : (p f : Rules) (s : State) (cells : Cells) → GroupParts (both p f) s cells → is_pair s ≡ true
group-pair p f s cells g = subst (λ s. is_pair s ≡ true) (sym g.form) (pair-from (children_of s) g.children (g.all_open 0 (omega arith)) (g.all_open 1 (omega arith)))

fallback-opened : (p f : Rules) (s : State) (cells : Cells) → is_open s ≡ true → IsSettled (fallback_rules p f) s cells → GroupParts (both p f) s cells
unfolding fallback_rules
fallback-opened p f s cells o z = group-parts (both p f) s cells (opened s (p.leaf_tags ++ f.leaf_tags) cells (group_settled (both p f) s cells) o z)

fallback-sound : (p f : Rules) (s : State) (cells : Cells) → IsOpenGroup (both p f) is_pair s cells → IsSettled (fallback_rules p f) s cells
unfolding fallback_rules
fallback-sound p f s cells k =
    by-pair (λ s. ((j : ℕ) → j < 2 → IsSettled (nth (both p f) j) (child s j) cells) → IsSettled (fallback_rules p f) s cells) s k.in_order
    (λ a c oa oc h. and_from _ _ oa (and_from _ _ (h 0 (omega arith)) (and_from _ _ oc (and_from _ _ (h 1 (omega arith)) refl)))) (λ j l. k.members j (omega arith))

fallback-stands : (p f : Rules) → StandsByMembers (fallback_rules p f) (both p f) is_pair
unfolding fallback_rules
fallback-stands p f = record {
  parts = λ s cells o z. let g = fallback-opened p f s cells o z in record { is_set = o; in_order = group-pair p f s cells g; members = g.settled };
  sound = fallback-sound p f;
  shut = λ cells. refl;
  own = λ fs. nothing;
  read = λ fs bytes. refl;
  image = λ fs s bytes. ap (λ x. on_open s (p.is_image (child_fields fs 0) (child s 0) bytes && x)) (sym (and-true (f.is_image (child_fields fs 1) (child s 1) bytes)));
}

-- ---- whose a block is

either-holds : (x y : Bool) → (x || y) ≡ true → (x ≡ true) ⊎ (y ≡ true)
either-holds true y h = inl refl
either-holds false y h = inr h

or-second : (x y : Bool) → y ≡ true → (x || y) ≡ true
or-second true y h = refl
or-second false y h = h

fallback-finds : (p f : Rules) → AreLayers p f → FindsHolder (fallback_rules p f) (both p f) (pair_holder p) (Some 1) is_pair
unfolding fallback_rules
fallback-finds p f w = record {
  owns = λ j l. by-place (λ j. ((nth (both p f) j).offers.owns ≡ true) ⊎ (Some 1 ≡ Some j)) j l (inl w.owns) (inr refl);
  one = λ b s j o fit l oj h others.
      by-place (λ j. (nth (both p f) j).holds b (child s j) ≡ true → ((i : ℕ) → (i ≡ j → ⊥) → (nth (both p f) i).holds b (child s i) ≡ false) → pair_holder p b s ≡ Some j) j l
      (λ h others. ap (λ x. cond x (Some 0) (Some 1)) h) (λ h others. ap (λ x. cond x (Some 0) (Some 1)) (others 0 (λ e. absurd (cc)))) h others;
  none = λ b s o fit h. ap (λ x. cond x (Some 0) (Some 1)) (h 0);
  held = λ b s h. let m = may-hold b s (p.holds b (child s 0) || f.holds b (child s 1)) h in elim (either-holds (p.holds b (child s 0)) (f.holds b (child s 1)) m.rest) [ inl x ↦ (0, x) | inr x ↦ (1, x) ];
  holds = λ b s i o fit l size h.
      and_from _ _ (and_from _ _ o size)
      (by-place (λ i. (nth (both p f) i).holds b (child s i) ≡ true → (p.holds b (child s 0) || f.holds b (child s 1)) ≡ true) i l
      (λ h. ap (λ x. x || f.holds b (child s 1)) h) (or-second (p.holds b (child s 0)) (f.holds b (child s 1))) h);
  offered = λ h j l. by-place (λ j. (nth (both p f) j).offers.owns ≡ true) j l (and-fst p.offers.owns f.offers.owns h) (and-snd p.offers.owns f.offers.owns h);
}
  where
    by-place : (P : ℕ → Type 0) (j : ℕ) → j < 2 → P 0 → P 1 → P j
    by-place P zero l x y = x
    by-place P (suc zero) l x y = y
    by-place P (suc (suc j)) l x y = absurd (omega arith)

-- ---- the calls

-- the pair with another layer
with-layer : (i : ℕ) (s t : State) → is_pair s ≡ true → i < 2 → is_open t ≡ true → IsWithMember is_pair i t s (with_child s i t)
with-layer i s t h l o = by-pair (λ s. IsWithMember is_pair i t s (with_child s i t)) s h (go i l)
  where
    go : (i : ℕ) → i < 2 → (a c : State) → is_open a ≡ true → is_open c ≡ true → IsWithMember is_pair i t (pair_of a c) (with_child (pair_of a c) i t)
    go zero l a c oa oc = with-set is_pair 0 nothing nothing (two_children a c) t (omega arith) (and_from _ _ o oc)
    go (suc zero) l a c oa oc = with-set is_pair 1 nothing nothing (two_children a c) t (omega arith) (and_from _ _ oa o)
    go (suc (suc i)) l a c oa oc = absurd (omega arith)

call-child : {A : Type 0} (i : ℕ) (s : State) (r : After A) → is_pair s ≡ true → i < 2 → is_open r.state ≡ true → IsCallOfMember is_pair i s r (in_child s i r)
call-child i s r h l o = record { state = with_child s i r.state; same = refl; changed = with-layer i s r.state h l o }

-- the primary serves, or else the second
pair-serves : (p f : Rules) (serve : ℕ → Serve) → ((i : ℕ) → StaysOpen (serve i)) → (s : State) (cells : Cells) → is_pair s ≡ true → ServedInTurn (both p f) is_pair serve s cells (fallback_allocate (serve 0) (serve 1) s cells)
pair-serves p f serve stays s cells h =
    by-pair (λ s. ServedInTurn (both p f) is_pair serve s cells (fallback_allocate (serve 0) (serve 1) s cells)) s h
    (λ a c oa oc.
    let s = pair_of a c in
    let h : is_pair s ≡ true = and_from _ _ oa oc in
    let r = serve 0 a cells in
    let o = stays 0 a cells ∙ oa in
    served-or_else (both p f) is_pair serve (serve_member (λ b. b) 1 (serve 1)) s cells (serve_member (λ b. b) 0 (serve 0) s cells) refl h
    (served-member (both p f) is_pair serve 0 s cells (omega arith) oa (with-layer 0 s r.state h (omega arith) o))
    (λ k q. served-member (both p f) is_pair serve 1 (pair_of r.state c) r.cells (omega arith) oc (with-layer 1 (pair_of r.state c) (serve 1 c r.cells).state q (omega arith) (stays 1 c r.cells ∙ oc))))

-- the holder reallocates, or the other one serves and the holder gets the old block back
moves-or_other : (p f : Rules) → AreLayers p f → (i j n : ℕ) (b : Block) (s : State) (cells : Cells) → is_pair s ≡ true → i < 2 → j < 2 → is_open (child s i) ≡ true → is_open (child s j) ≡ true → (j ≡ i → ⊥)
    → MovedInTurn (both p f) is_pair i n b s cells (reallocate_or_other i ((nth (both p f) i).reallocate n) j ((nth (both p f) j).allocate n) (nth (both p f) i).deallocate b s cells)
moves-or_other p f w i j n b s cells h li lj oi oj apart = go x.answer refl
  where
    e : Rules
    e = nth (both p f) i

    d : Rules
    d = nth (both p f) j

    x : After Reallocated
    x = e.reallocate n b (child s i) cells

    t : State
    t = with_child s i x.state

    m : IsWithMember is_pair i x.state s t
    m = with-layer i s x.state h li ((both-regular p f w i).openness.reallocate n b (child s i) cells ∙ oi)

    then_moved : MovedInTurn (both p f) is_pair i n b t x.cells (or_other (serve_member (λ c. c) j (d.allocate n)) (change_child i e.deallocate) b (after unmoved t x.cells))
    then_moved =
        let r = d.allocate n (child t j) x.cells in
        let open_j : is_open (child t j) ≡ true = subst (λ u. is_open u ≡ true) (sym (m.others j apart)) oj in
        let open_i : is_open (child t i) ≡ true = subst (λ u. is_open u ≡ true) (sym m.here) ((both-regular p f w i).openness.reallocate n b (child s i) cells ∙ oi) in
        let m' = with-layer j t r.state m.in_order lj ((both-regular p f w j).openness.allocate n (child t j) x.cells ∙ open_j) in
        let u = with_child t j r.state in
        let open_u : is_open (child u i) ≡ true = subst (λ v. is_open v ≡ true) (sym (m'.others i (λ q. apart (sym q)))) open_i in
        moved_away t x.cells (serve_member (λ c. c) j (d.allocate n) t x.cells) (change_child i e.deallocate)
        (served-member (both p f) is_pair (λ k. (nth (both p f) k).allocate n) j t x.cells lj open_j m')
        (call-child i u (e.deallocate b (child u i) r.cells) m'.in_order li ((both-regular p f w i).openness.deallocate b (child u i) r.cells ∙ open_u))

    go : (a : Reallocated) → x.answer ≡ a → MovedInTurn (both p f) is_pair i n b s cells (or_other (serve_member (λ c. c) j (d.allocate n)) (change_child i e.deallocate) b (after a t x.cells))
    go (moved_to c) q = subst (λ a. MovedInTurn (both p f) is_pair i n b s cells (after a t x.cells)) q (by_member s t cells m)
    go emptied q = subst (λ a. MovedInTurn (both p f) is_pair i n b s cells (after a t x.cells)) q (by_member s t cells m)
    go unmoved q = declines_then s t cells _ q m then_moved

-- both are asked, or one, or none
pair-asked : (p f : Rules) → AreLayers p f → (b : Block) (s : State) → is_pair s ≡ true → (fine : Bool) → AskedInTurn (both p f) is_pair b s (or_owns (owns_child_if fine 1 f.owns b) (owns_child_if fine 0 p.owns b s)).state
pair-asked p f w b s h false = none_asked s
pair-asked p f w b s h true = by-pair (λ s. AskedInTurn (both p f) is_pair b s (or_owns (owns_child_if true 1 f.owns b) (owns_child_if true 0 p.owns b s)).state) s h go
  where
    go : (a c : State) → is_open a ≡ true → is_open c ≡ true → AskedInTurn (both p f) is_pair b (pair_of a c) (or_owns (owns_child_if true 1 f.owns b) (owns_child_if true 0 p.owns b (pair_of a c))).state
    go a c oa oc = by-answer (p.owns b a).owned
      where
        t : State
        t = (p.owns b a).state

        ot : is_open t ≡ true
        ot = w.first_regular.openness.owns b a ∙ oa

        first : IsWithMember is_pair 0 t (pair_of a c) (pair_of t c)
        first = with-layer 0 (pair_of a c) t (and_from _ _ oa oc) (omega arith) ot

        by-answer : (x : Bool) → AskedInTurn (both p f) is_pair b (pair_of a c) (reply_or x (owns_child_if true 1 f.owns b) (pair_of t c)).state
        by-answer true = asked_then (pair_of a c) (pair_of t c) (pair_of t c) 0 (omega arith) oa first (none_asked (pair_of t c))
        by-answer false =
            let u = (f.owns b c).state in
            asked_then (pair_of a c) (pair_of t c) (pair_of t u) 0 (omega arith) oa first
            (asked_then (pair_of t c) (pair_of t u) (pair_of t u) 1 (omega arith) oc (with-layer 1 (pair_of t c) u (and_from _ _ ot oc) (omega arith) (w.second_regular.openness.owns b c ∙ oc)) (none_asked (pair_of t u)))

fallback-all_back : (p f : Rules) → AreLayers p f → (s : State) (cells : Cells) → IsOpenGroup (both p f) is_pair s cells → IsAllBack (fallback_rules p f) (both p f) is_pair cells ((fallback_rules p f).deallocate_all s cells)
unfolding fallback_rules empty_each
fallback-all_back p f w s cells k =
    let g = fallback_rules p f in
    let es = both p f in
    by-pair (λ s. ((j : ℕ) → j < length es → IsSettled (nth es j) (child s j) cells) → IsAllBack g es is_pair cells (g.deallocate_all s cells)) s k.in_order
    (λ a c oa oc settled.
    let r = empty_each es 0 (pair_of a c) cells in
    let x = members-emptied es nothing (own-both p f w) (all-lawful es (each-layer IsLawful p f w.first w.second)) (two_children a c) cells refl (each-open a c oa oc) settled in
    subst (λ k. IsAllBack g es is_pair cells (opened_as k r.cells)) (sym x.form)
    (record {
      open_group = record { is_set = refl; in_order = pair-from (children_of r.state) x.whole.count (x.whole.all_open 0 (omega arith)) (x.whole.all_open 1 (omega arith)); members = x.whole.settled };
      none = λ j b o. x.whole.none j (out-some es j b _ r.cells o) b o;
      table = λ c. elim (x.whole.table c) [ inl v ↦ inl v | inr v ↦ inr (v.0, subst (λ ts. IsIn ts (get_or cells.tags c 0)) (tags-of_both p f) v.1) ];
    })) k.members
  where
    each-open : (a c : State) → is_open a ≡ true → is_open c ≡ true → (j : ℕ) → j < 2 → is_open (nth_child (two_children a c) j) ≡ true
    each-open a c oa oc zero l = oa
    each-open a c oa oc (suc zero) l = oc
    each-open a c oa oc (suc (suc j)) l = absurd (omega arith)

fallback-set_up : (p f : Rules) → AreLayers p f → (need : ℕ) (cells : Cells) (o : Opened) → NoCell (IsLeaf (fallback_rules p f)) cells → (fallback_rules p f).set_up need cells ≡ Ok o → IsOpenGroup (both p f) is_pair o.state o.cells
unfolding fallback_rules
fallback-set_up p f w need cells o n e =
    let es = both p f in
    let x = then-ok 1 (p.set_up need cells) _ o e in
    let y = then-ok (1 + p.nodes) (f.set_up 0 x.0.cells) _ o x.2 in
    let a = x.0 in
    let c = y.0 in
    let q : opened_as (pair_of a.state c.state) c.cells ≡ o = (let z = y.2 in cc) in
    let first = w.first.opening.opens need cells a (λ k l. n k (in-left p.leaf_tags f.leaf_tags _ l)) x.1 in
    let taken = w.first_regular.taking.set_up need cells a x.1 in
    let none : NoCell (IsLeaf f) a.cells = λ k l. elim (taken.each k) [ inl z ↦ n k (in-right p.leaf_tags f.leaf_tags _ (subst (IsLeaf f) z l)) | inr z ↦ first-apart p f w _ z.1 l ] in
    let second = w.second.opening.opens 0 a.cells c none y.1 in
    let kept = kept-taken f p a.cells c.cells (some-member es 0 (own-both p f w)) (λ t x y. first-apart p f w t y x) (w.second_regular.taking.set_up 0 a.cells c y.1) in
    subst (λ o. IsOpenGroup es is_pair o.state o.cells) q
    (record {
      is_set = refl;
      in_order = and_from _ _ (w.first_regular.openness.set_up need cells a x.1) (w.second_regular.openness.set_up 0 a.cells c y.1);
      members = each-settled a.state c.state c.cells (w.first.placing.settled_tags a.state a.cells c.cells kept first) second;
    })
  where
    each-settled : (a c : State) (cells : Cells) → IsSettled p a cells → IsSettled f c cells → (j : ℕ) → j < 2 → IsSettled (nth (both p f) j) (child (pair_of a c) j) cells
    each-settled a c cells x y zero l = x
    each-settled a c cells x y (suc zero) l = y
    each-settled a c cells x y (suc (suc j)) l = absurd (omega arith)

fallback-calls : (p f : Rules) → AreLayers p f → CallsMembers (fallback_rules p f) (both p f) (pair_holder p) is_pair
unfolding fallback_rules
fallback-calls p f w =
    let es = both p f in
    let regular = both-regular p f w in
    record {
      allocate = λ n s cells k. served-asked_for es is_pair (λ i. (nth es i).allocate n) n _ s cells (pair-serves p f (λ i. (nth es i).allocate n) (λ i. (regular i).openness.allocate n) s cells k.in_order);
      aligned_allocate = λ n a s cells k. served-asked_for es is_pair (λ i. (nth es i).aligned_allocate n a) n _ s cells (pair-serves p f (λ i. (nth es i).aligned_allocate n a) (λ i. (regular i).openness.aligned_allocate n a) s cells k.in_order);
      deallocate = λ i b s cells k held l o.
          by-held (λ x i. is_open (child s i) ≡ true → IsCallOfMember is_pair i s ((nth es i).deallocate b (child s i) cells) (either_change x (change_child 0 p.deallocate) (change_child 1 f.deallocate) b s cells)) (p.holds b (child s 0)) i held
          (λ o. call-child 0 s (p.deallocate b (child s 0) cells) k.in_order (omega arith) (w.first_regular.openness.deallocate b (child s 0) cells ∙ o))
          (λ o. call-child 1 s (f.deallocate b (child s 1) cells) k.in_order (omega arith) (w.second_regular.openness.deallocate b (child s 1) cells ∙ o)) o;
      expand = λ delta i b s cells k held l o. record {
        change = λ b s. either_change (p.holds b (child s 0)) (change_child 0 (p.expand delta)) (change_child 1 (f.expand delta)) b s;
        guarded = refl;
        by_holder = by-held (λ x i. is_open (child s i) ≡ true → IsCallOfMember is_pair i s ((nth es i).expand delta b (child s i) cells) (either_change x (change_child 0 (p.expand delta)) (change_child 1 (f.expand delta)) b s cells)) (p.holds b (child s 0)) i held
            (λ o. call-child 0 s (p.expand delta b (child s 0) cells) k.in_order (omega arith) (w.first_regular.openness.expand delta b (child s 0) cells ∙ o))
            (λ o. call-child 1 s (f.expand delta b (child s 1) cells) k.in_order (omega arith) (w.second_regular.openness.expand delta b (child s 1) cells ∙ o)) o;
      };
      reallocate = inr (λ n i b s cells k held l o. record {
        move = λ b s.
            either_reallocate (p.holds b (child s 0)) (reallocate_or_other 0 (p.reallocate n) 1 (f.allocate n) p.deallocate) (reallocate_or_other 1 (f.reallocate n) 0 (p.allocate n) f.deallocate) b s;
        guarded = refl;
        by_holder =
            let opens = by-pair (λ s. (is_open (child s 0) ≡ true) × (is_open (child s 1) ≡ true)) s k.in_order (λ a c oa oc. (oa, oc)) in
            by-held (λ x i. MovedInTurn es is_pair i n b s cells (either_reallocate x (reallocate_or_other 0 (p.reallocate n) 1 (f.allocate n) p.deallocate) (reallocate_or_other 1 (f.reallocate n) 0 (p.allocate n) f.deallocate) b s cells))
            (p.holds b (child s 0)) i held
            (moves-or_other p f w 0 1 n b s cells k.in_order (omega arith) (omega arith) opens.0 opens.1 (λ e. absurd (omega arith)))
            (moves-or_other p f w 1 0 n b s cells k.in_order (omega arith) (omega arith) opens.1 opens.0 (λ e. absurd (omega arith)));
      });
      same_length = λ b s cells. asked-same _ _ b s cells;
      owns = λ b s cells k. pair-asked p f w b s k.in_order (may_hold b s);
      deallocate_all = fallback-all_back p f w;
      set_up = fallback-set_up p f w;
    }

-- ---- what is said at a path's end

fallback-walks : (p f : Rules) → WalksIntoMembers (fallback_rules p f) (both p f)
unfolding fallback_rules
fallback-walks p f = record { ends = λ b s. refl; steps = both-step }
  where
    both-step : (i : ℕ) (path : List ℕ) (b : Block) (s : State) → owns_along (fallback_rules p f) (i ∷ path) b s ≡ into_member (both p f) i ((nth (both p f) i).owns_at path (is_served_size b.len) b (child s i))
    both-step zero path b s = refl
    both-step (suc zero) path b s = refl
    both-step (suc (suc i)) path b s = refl

-- ---- the whole

pub fallback-held : (p f : Rules) → AreLayers p f → HeldByMembers (fallback_rules p f) (both p f)
unfolding fallback_rules
fallback-held p f w =
    let most = w.second_regular.telling.aligned.most in
    record {
      holder = pair_holder p;
      otherwise = Some 1;
      fits = is_pair;
      leaves = sym (tags-of_both p f);
      alignment = omega arith;
      tells = fallback-tells p f;
      finds = fallback-finds p f w;
      walks = fallback-walks p f;
      stands = fallback-stands p f;
      calls = fallback-calls p f w;
    }
