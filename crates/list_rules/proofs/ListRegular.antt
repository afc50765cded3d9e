-- A list is regular over members that are.
use Rattle.std.proofs.Common.{arith, ◌≡◌, refl, sym, subst, ◌∙◌, ap, ap₂, ℕ, zero, suc, ◌+◌, ◌≤◌, Bool, true, false, ◌&&◌, ◌||◌, cond, List, [], ◌∷◌, length, Option, Some, None, Ok, find, is_some, unwrap_or, nat_le, zero-add}
use Rattle.std.proofs.lemmas.Bool.{and_from}
use Rattle.std.specs.List.{list_any}
use Rattle.size_round.specs.Sizes.{limit}
use Rattle.space_core.specs.Cells.{Cells}
use Rattle.layer_rules.specs.declared.Block.{Block}
use Rattle.layer_rules.specs.State.{State, closed, open_with, nothing, region_own, bitmap_own, kr_own, cache_own, stats_own, order_own, row_own, States, no_children, child_and, nth_child, is_open, own_of, child, children_of, with_child, with_own, order_of, uncounted}
use Rattle.layer_rules.specs.Steady.{steady, own_steady}
use Rattle.layer_rules.specs.Unread.{unread, unread_each}
use Rattle.layer_rules.specs.Fields.{Fields, kept_of, kept_members, child_fields}
use Rattle.layer_rules.specs.After.{Serve, Opened, opened, Opening, Change, change_child, Reply, Owning}
use Rattle.layer_rules.specs.Allocating.{over_limit_or}
use Rattle.layer_rules.specs.Members.{nth, into_member, have_free_tails, read_each, depth_of}
use Rattle.layer_rules.specs.Offering.{is_served_size}
use Rattle.layer_rules.specs.Owning.{is_plausible, may_hold, owns_child_if, owns_if, at_end}
use Rattle.layer_rules.specs.Reallocating.{general_reallocate}
use Rattle.layer_rules.specs.Rules.{Rules, IsSettled, without_leaves}
use Rattle.layer_laws.proofs.Basics.{and-fst, and-snd}
use Rattle.layer_laws.specs.Chooses.{EachMember, EachNumber}
use Rattle.layer_laws.proofs.MembersLawful.{all-regular, all-unranged, leaf-in, facts-of_each, numbers-of_each, route-of_member, least-is-alignment, tails-at, tails-from}
use Rattle.layer_laws.specs.Lawful.{TellingLaws, ReadingLaws, RefusingLaws, RefusedLaws, UnrangedLaws, TailLaws, OpennessLaws, OwningLaws, TakingLaws, KeepsOnNone, KeepsOnFalse, OnlyOwnCells, yes_if}
use Rattle.layer_laws.proofs.Owners.{KeptOnNo, AsksUnread, owned-if, not_owned-child_if, not_owned-if, steady-child_if, steady-owns_if, asks-child_if, open-may_hold, size-may_hold}
use Rattle.layer_laws.proofs.Reallocations.{keeps-say, keeps-asked_to_expand, keeps-change_child, keeps-asked_to_reallocate, keeps-general_reallocate}
use Rattle.layer_laws.proofs.Requests.{keeps-asked_for, none-asked_for, none-of-some}
use Rattle.layer_laws.proofs.StayingOpen.{open-own, open-children, StaysOpen, StaysOpenBy, stays-asked_for, stays-serve_member, stays-serve_below, stays-say, stays-change_child, stays-asked_to_expand, stays-asked_to_reallocate, stays-general_reallocate, stays-owns_child_if, stays-owns_if, sets-open}
use Rattle.layer_laws.proofs.Takings.{HasLeavesOf, TakesOwn, takes-asked_for, takes-wider, took-opened}
use Rattle.layer_laws.proofs.Tests.{set-up-opens, takes-then, takes-none}
use Rattle.layer_laws.proofs.TornDown.{freed-length}
use Rattle.layer_laws.proofs.Uncounting.{same-child, same-order, same-may_hold, uncounted-child_kept, steady-own_kept}
use Rattle.layer_laws.proofs.Unranged.{regular-unranged, refused-refusing, unranged-regular}
use Rattle.layer_laws.proofs.Unreading.{told-child, unread-order, unread-may_hold, unread-with_own, unread-if_set_up}
use Rattle.layer_laws.proofs.Paths.{along-at_end, along-below, along-into_member, by_path-at_end}
use Rattle.fallback_rules.proofs.EachChild.{OfChildren, of_children-child, of_children-own, of_children-member, after-asked_for}
use Rattle.list_rules.specs.ListRules.{used_last, to_front, holder, list_allocate, members_allocate, change_holder, members_expand, list_deallocate, members_deallocate, list_offers, all_closed, without_open, front_or, owns_members, list_holds, list_owns_at, route_from, extent_from, is_ordered, each_settled, list_rules}
use Rattle.list_rules.proofs.ListServing.{keeps-list_allocate, RefuseBy, none-list_allocate, same-list_refuses, IsKeptBy, after-list_allocate}
use Rattle.list_rules.specs.ListMeanings.{ListIsRegular}

-- ---- telling

-- a route goes one step deeper than in the member that it enters
from-depth : (es : List Rules) → EachNumber TellingLaws es → (b : Block) (s : State) (o : Option ℕ) → length (route_from o (λ i. (nth es i).route b (child s i))) ≤ suc (depth_of es)
from-depth es h b s None = omega arith
from-depth es h b s (Some i) = omega (arith, route-of_member es h i b (child s i))

list-telling : (es : List Rules) → EachNumber TellingLaws es → TellingLaws (list_rules es)
unfolding list_rules
list-telling es h = record {
  enough = (h 0).enough;
  of_nothing = (h 0).of_nothing;
  above_limit = (h 0).above_limit;
  aligned = least-is-alignment es h;
  facts_count = λ s cells. ap suc (facts-of_each es h 0 s cells);
  numbers_count = λ fs. ap suc (numbers-of_each es h 0 fs);
  route_depth = λ b s. from-depth es h b s (holder es b s);
}

-- ---- reading

find-each : (f g : ℕ → Bool) (is : List ℕ) → ((i : ℕ) → f i ≡ g i) → find f is ≡ find g is
find-each f g [] h = refl
find-each f g (i ∷ is) h = ap₂ (λ x r. cond x (Some i) r) (h i) (find-each f g is h)

any-each : (f g : ℕ → Bool) (is : List ℕ) → ((i : ℕ) → f i ≡ g i) → list_any f is ≡ list_any g is
any-each f g [] h = refl
any-each f g (i ∷ is) h = ap₂ (λ x y. x || y) (h i) (any-each f g is h)

read-holder : (es : List Rules) → EachNumber ReadingLaws es → (b : Block) (s : State) → holder es b (unread s) ≡ holder es b s
read-holder es h b s =
    ap (find (λ i. (nth es i).holds b (child (unread s) i))) (unread-order s)
    ∙ find-each (λ i. (nth es i).holds b (child (unread s) i)) (λ i. (nth es i).holds b (child s i)) (order_of s) (λ i. told-child ((nth es i).holds b) s i ((h i).holds b))

read-holds : (es : List Rules) → EachNumber ReadingLaws es → (b : Block) (s : State) → list_holds es b (unread s) ≡ list_holds es b s
read-holds es h b s =
    ap₂ (λ x y. x && y) (unread-may_hold b s)
    (ap (list_any (λ i. (nth es i).holds b (child (unread s) i))) (unread-order s)
    ∙ any-each (λ i. (nth es i).holds b (child (unread s) i)) (λ i. (nth es i).holds b (child s i)) (order_of s) (λ i. told-child ((nth es i).holds b) s i ((h i).holds b)))

route-each : (o : Option ℕ) (f g : ℕ → List ℕ) → ((i : ℕ) → f i ≡ g i) → route_from o f ≡ route_from o g
route-each None f g h = refl
route-each (Some i) f g h = ap (λ z. i ∷ z) (h i)

extent-each : (o : Option ℕ) (f g : ℕ → Block) → ((i : ℕ) → f i ≡ g i) → extent_from o f ≡ extent_from o g
extent-each None f g h = refl
extent-each (Some i) f g h = h i

-- of the holder, where there is one
abbrev at_holder : Option ℕ → (ℕ → Bool) → Bool
at_holder o f = is_some o && f (unwrap_or o 0)

read-routed : (es : List Rules) → EachNumber ReadingLaws es → (b : Block) (s : State) → at_holder (holder es b (unread s)) (λ i. (nth es i).is_routed b (child (unread s) i)) ≡ at_holder (holder es b s) (λ i. (nth es i).is_routed b (child s i))
read-routed es h b s =
    let o = holder es b s in
    let i = unwrap_or o 0 in
    ap (λ x. at_holder x (λ j. (nth es j).is_routed b (child (unread s) j))) (read-holder es h b s)
    ∙ ap (λ z. is_some o && z) (told-child ((nth es i).is_routed b) s i ((h i).routed b))

read-owns_at : (es : List Rules) → EachNumber ReadingLaws es → (path : List ℕ) (possible : Bool) (b : Block) (s : State) → list_owns_at es path possible b (unread s) ≡ list_owns_at es path possible b s
read-owns_at es h [] possible b s = ap (at_end (list_offers es).owns possible) (read-holds es h b s)
read-owns_at es h (i ∷ path) possible b s =
    let fine = possible && is_served_size b.len in ap (into_member es i) (told-child ((nth es i).owns_at path fine b) s i ((h i).owns_at path fine b))

read-each : (es : List Rules) → EachNumber ReadingLaws es → (i : ℕ) (fs : Fields) (x y : List ℕ) → unread_each (read_each es i fs x) ≡ unread_each (read_each es i fs y)
unfolding unread
read-each [] h i fs x y = refl
read-each (e ∷ es) h i fs x y = ap₂ (λ t ts. child_and t ts) ((h 0).read (child_fields fs i) x y) (read-each es (λ j. h (suc j)) (suc i) fs x y)

unread-used_last : (i : ℕ) (s : State) → unread (used_last i s) ≡ used_last i (unread s)
unread-used_last i s = unread-with_own s (order_own (to_front i (order_of s))) ∙ ap (λ order. with_own (unread s) (order_own (to_front i order))) (sym (unread-order s))

-- the member i is asked, and on a no the next one
asks-next : (i : ℕ) (next : State → Reply) → ((t : State) → ((next (unread t)).owned ≡ (next t).owned) × (unread (next t).state ≡ (next (unread t)).state)) → (x y : Bool) → x ≡ y → (t u : State) → unread t ≡ u
    → ((front_or x i next u).owned ≡ (front_or y i next t).owned) × (unread (front_or y i next t).state ≡ (front_or x i next u).state)
asks-next i next h true true q t u w = (refl, unread-used_last i t ∙ ap (used_last i) w)
asks-next i next h false false q t u w = (ap (λ v. (next v).owned) (sym w) ∙ (h t).0, (h t).1 ∙ ap (λ v. (next v).state) w)
asks-next i next h true false q t u w = absurd (cc)
asks-next i next h false true q t u w = absurd (cc)

asks-members : (owns : ℕ → Owning) (is : List ℕ) (b : Block) → ((i : ℕ) (t : State) → AsksUnread (owns i) b t) → (s : State)
    → ((owns_members owns is b (unread s)).owned ≡ (owns_members owns is b s).owned) × (unread (owns_members owns is b s).state ≡ (owns_members owns is b (unread s)).state)
unfolding owns_members
asks-members owns [] b h s = (refl, refl)
asks-members owns (i ∷ is) b h s =
    let first = asks-child_if (λ c t. true) i (owns i) b s refl (h i (child s i)) in
    asks-next i (owns_members owns is b) (asks-members owns is b h) (owns_child_if true i (owns i) b (unread s)).owned (owns_child_if true i (owns i) b s).owned first.owned
    (owns_child_if true i (owns i) b s).state (owns_child_if true i (owns i) b (unread s)).state first.state

asks-if : (owns : Owning) (b : Block) (s : State) → ((owns b (unread s)).owned ≡ (owns b s).owned) × (unread (owns b s).state ≡ (owns b (unread s)).state) → (fine : Bool)
    → ((owns_if fine owns b (unread s)).owned ≡ (owns_if fine owns b s).owned) × (unread (owns_if fine owns b s).state ≡ (owns_if fine owns b (unread s)).state)
asks-if owns b s h true = h
asks-if owns b s h false = (refl, refl)

asks-list : (owns : ℕ → Owning) (b : Block) (s : State) → ((i : ℕ) (t : State) → AsksUnread (owns i) b t) → AsksUnread (λ c t. owns_if (may_hold c t) (owns_members owns (order_of t)) c t) b s
asks-list owns b s h =
    let same = asks-if (owns_members owns (order_of s)) b s (asks-members owns (order_of s) b h s) (may_hold b s) in
    record {
      owned = ap₂ (λ x order. (owns_if x (owns_members owns order) b (unread s)).owned) (unread-may_hold b s) (unread-order s) ∙ same.0;
      state = same.1 ∙ ap₂ (λ x order. (owns_if x (owns_members owns order) b (unread s)).state) (sym (unread-may_hold b s)) (sym (unread-order s));
    }

list-reading : (es : List Rules) → EachNumber ReadingLaws es → ReadingLaws (list_rules es)
unfolding list_rules
list-reading es h =
    let asks : (b : Block) (s : State) → AsksUnread (λ c t. owns_if (may_hold c t) (owns_members (λ i. (nth es i).owns) (order_of t)) c t) b s =
    λ b s. asks-list (λ i. (nth es i).owns) b s (λ i t. record { owned = (h i).owned b t; state = (h i).owns b t }) in
    record {
      opens_as_fields = λ fs bytes. set-up-opens fs (order_own (kept_members (kept_of fs))) (read_each es 0 fs bytes);
      read = λ fs x y.
          unread-if_set_up fs (order_own (kept_members (kept_of fs))) (order_own (kept_members (kept_of fs))) (read_each es 0 fs x) (read_each es 0 fs y) refl (read-each es h 0 fs x y);
      holds = read-holds es h;
      route = λ b s.
          ap (λ o. route_from o (λ i. (nth es i).route b (child (unread s) i))) (read-holder es h b s)
          ∙ route-each (holder es b s) (λ i. (nth es i).route b (child (unread s) i)) (λ i. (nth es i).route b (child s i)) (λ i. told-child ((nth es i).route b) s i ((h i).route b));
      routed = λ b s. ap (λ z. is_plausible b && z) (read-routed es h b s);
      extent = λ b s.
          ap (λ o. extent_from o (λ i. (nth es i).extent b (child (unread s) i))) (read-holder es h b s)
          ∙ extent-each (holder es b s) (λ i. (nth es i).extent b (child (unread s) i)) (λ i. (nth es i).extent b (child s i)) (λ i. told-child ((nth es i).extent b) s i ((h i).extent b));
      owns_at = read-owns_at es h;
      owned = λ b s. (asks b s).owned;
      owns = λ b s. (asks b s).state;
    }

-- ---- tails: those of each member, by its number

abbrev HasTails : List Rules → ℕ → State → Type 0
HasTails es i s = (nth es i).has_free_tails s ≡ true

tails-each : (es : List Rules) (s : State) → have_free_tails es 0 s ≡ true → OfChildren (HasTails es) s
tails-each es s h i = rw zero-add at (tails-at es 0 i s h)

each-tails : (es : List Rules) (s : State) → OfChildren (HasTails es) s → have_free_tails es 0 s ≡ true
each-tails es s h = tails-from es 0 s (λ j l. rw zero-add (h j))

pub closed-nth : (es : List Rules) (i : ℕ) → nth_child (all_closed es) i ≡ closed
closed-nth [] i = refl
closed-nth (e ∷ es) zero = refl
closed-nth (e ∷ es) (suc i) = closed-nth es i

tails-kept : (es : List Rules) (n : ℕ) → EachNumber TailLaws es → IsKeptBy (λ t c. OfChildren (HasTails es) t) (λ i. (nth es i).allocate n) (λ i c. (nth es i).set_up n c)
tails-kept es n h = record {
  member = λ i t c w. of_children-member (HasTails es) (λ b. b) i ((nth es i).allocate n) t c ((h i).allocate n) w;
  front = λ i t c w. of_children-own (HasTails es) t (order_own (to_front i (order_of t))) w;
  fresh = λ i t c o e w. of_children-child (HasTails es) t i ((nth es i).allocate n o.state o.cells).state w ((h i).allocate n o.state o.cells ((h i).set_up n c o e));
}

list-tails : (es : List Rules) → EachNumber TailLaws es → TailLaws (list_rules es)
unfolding list_rules
list-tails es h = record {
  shut = each-tails es closed (λ i. (h i).shut);
  allocate = λ n s cells w.
      let serve = list_allocate true (λ i. (nth es i).allocate n) (λ i c. (nth es i).set_up n c) in
      after-asked_for (λ t. have_free_tails es 0 t ≡ true) n serve s cells w
      (each-tails es (serve s cells).state (after-list_allocate (λ t c. OfChildren (HasTails es) t) true (λ i. (nth es i).allocate n) (λ i c. (nth es i).set_up n c) (tails-kept es n h) s cells (tails-each es s w)));
  set_up = λ need cells o e.
      let q : opened (open_with (order_own []) (all_closed es)) cells ≡ o = cc in
      subst (λ x. have_free_tails es 0 x.state ≡ true) q
      (each-tails es (open_with (order_own []) (all_closed es)) (λ i. subst (λ t. (nth es i).has_free_tails t ≡ true) (sym (closed-nth es i)) (h i).shut));
}

-- ---- refusing

refuse-by : (es : List Rules) (n : ℕ) → 1 ≤ n → EachNumber RefusingLaws es → EachNumber TailLaws es → RefuseBy (HasTails es) (λ i. (nth es i).allocate n) (λ i t. (nth es i).set_up n t) (λ i t. (nth es i).refuses n t)
refuse-by es n l h v = record {
  keeps = λ i. (h i).allocate n;
  none = λ i t cells w. none-of-some n _ _ l ((h i).none n t cells w);
  same = λ i s t cells q. (h i).refuses_uncounted n s t cells q;
  kept = λ i s t q w. sym ((h i).free_tails_uncounted s t q) ∙ w;
  opened = λ i cells o e. (v i).set_up n cells o e;
}

abbrev AnyState : ℕ → State → Type 0
AnyState i s = Unit {0}

refuse-by_aligned : (es : List Rules) (n a : ℕ) → 1 ≤ n → EachNumber RefusingLaws es → RefuseBy AnyState (λ i. (nth es i).aligned_allocate n a) (λ i t. (nth es i).set_up (n + a) t) (λ i t. (nth es i).refuses_aligned n a t)
refuse-by_aligned es n a l h = record {
  keeps = λ i. (h i).aligned_allocate n a;
  none = λ i t cells w. none-of-some n _ _ l ((h i).none_aligned n a t cells);
  same = λ i s t cells q. (h i).refuses_aligned_uncounted n a s t cells q;
  kept = λ i s t q w. tt;
  opened = λ i cells o e. tt;
}

keeps-change_holder : (o : Option ℕ) (change : ℕ → Change) → ((i : ℕ) → KeepsOnFalse (change i)) → KeepsOnFalse (change_holder o change)
keeps-change_holder None change k = keeps-say false
keeps-change_holder (Some i) change k = keeps-change_child i (change i) (k i)

keeps-members_allocate : (es : List Rules) (n : ℕ) → EachNumber RefusedLaws es → KeepsOnNone (members_allocate es n)
keeps-members_allocate es n h =
    keeps-asked_for n (list_allocate true (λ i. (nth es i).allocate n) (λ i t. (nth es i).set_up n t))
    (keeps-list_allocate true (λ i. (nth es i).allocate n) (λ i t. (nth es i).set_up n t) (λ i. (h i).allocate n))

keeps-members_expand : (es : List Rules) (delta : ℕ) → EachNumber RefusedLaws es → KeepsOnFalse (members_expand es delta)
keeps-members_expand es delta h =
    keeps-asked_to_expand delta (λ b s. change_holder (holder es b s) (λ i. (nth es i).expand delta) b s)
    (λ b s. keeps-change_holder (holder es b s) (λ i. (nth es i).expand delta) (λ i. (h i).expand delta) b s)

-- between calls the tails of each member, open or closed, are free
free-each : (es : List Rules) → EachNumber RefusedLaws es → (k : ℕ) (s : State) (cells : Cells) → each_settled es k s cells ≡ true → have_free_tails es k s ≡ true
free-each [] h k s cells w = refl
free-each (e ∷ es) h k s cells w =
    and_from _ _ ((h 0).free_tails (child s k) cells (and-fst (e.is_settled (child s k) cells) (each_settled es (suc k) s cells) w))
    (free-each es (λ i. h (suc i)) (suc k) s cells (and-snd (e.is_settled (child s k) cells) (each_settled es (suc k) s cells) w))

free-when-settled : (es : List Rules) → EachNumber RefusedLaws es → EachNumber TailLaws es → (s : State) (cells : Cells) → IsSettled (list_rules es) s cells → have_free_tails es 0 s ≡ true
unfolding list_rules
free-when-settled es h v closed cells w = each-tails es closed (λ i. (v i).shut)
free-when-settled es h v (open_with own ss) cells w = free-each es h 0 (open_with own ss) cells (and-snd (is_ordered (length es) (open_with own ss)) _ w)

same-tails : (es : List Rules) → EachNumber RefusedLaws es → (k : ℕ) (s t : State) → uncounted s ≡ uncounted t → have_free_tails es k s ≡ have_free_tails es k t
same-tails [] h k s t q = refl
same-tails (e ∷ es) h k s t q = ap₂ (λ x y. x && y) ((h 0).free_tails_uncounted (child s k) (child t k) (same-child s t k q)) (same-tails es (λ i. h (suc i)) (suc k) s t q)

list-refused : (es : List Rules) → EachNumber RefusedLaws es → EachNumber TailLaws es → RefusedLaws (list_rules es)
unfolding list_rules
list-refused es h v = record {
  allocate = λ n. keeps-members_allocate es n h;
  aligned_allocate = λ n a.
      keeps-asked_for n (list_allocate (nat_le (n + a) limit) (λ i. (nth es i).aligned_allocate n a) (λ i t. (nth es i).set_up (n + a) t))
      (keeps-list_allocate (nat_le (n + a) limit) (λ i. (nth es i).aligned_allocate n a) (λ i t. (nth es i).set_up (n + a) t) (λ i. (h i).aligned_allocate n a));
  expand = λ delta. keeps-members_expand es delta h;
  reallocate = λ n.
      keeps-asked_to_reallocate n (members_deallocate es) (general_reallocate n (list_offers es) (λ d. members_expand es d) (members_allocate es n) (members_deallocate es))
      (keeps-general_reallocate n (list_offers es) (λ d. members_expand es d) (members_allocate es n) (members_deallocate es) (λ d. keeps-members_expand es d h) (keeps-members_allocate es n h));
  free_tails = free-when-settled es h v;
  refuses_uncounted = λ n s t cells q.
      ap (over_limit_or n) (same-list_refuses true (λ i u. (nth es i).set_up n u) (λ i u. (nth es i).refuses n u) (λ i u v c. (h i).refuses_uncounted n u v c) s t cells q);
  refuses_aligned_uncounted = λ n a s t cells q.
      ap (over_limit_or n)
      (same-list_refuses (nat_le (n + a) limit) (λ i u. (nth es i).set_up (n + a) u) (λ i u. (nth es i).refuses_aligned n a u) (λ i u v c. (h i).refuses_aligned_uncounted n a u v c) s t cells q);
  free_tails_uncounted = λ s t q. same-tails es h 0 s t q;
}

list-refusing : (es : List Rules) → EachNumber RefusingLaws es → EachNumber TailLaws es → RefusedLaws (list_rules es) → RefusingLaws (list_rules es)
unfolding list_rules
list-refusing es h v k =
    refused-refusing (list_rules es) k
    (λ n s cells w.
    none-asked_for n (list_allocate true (λ i. (nth es i).allocate n) (λ i t. (nth es i).set_up n t)) s cells _
    (λ l m. none-list_allocate (HasTails es) true (λ i. (nth es i).allocate n) (λ i t. (nth es i).set_up n t) (λ i t. (nth es i).refuses n t) (refuse-by es n l h v) s cells (tails-each es s w)))
    (λ n a s cells.
    none-asked_for n (list_allocate (nat_le (n + a) limit) (λ i. (nth es i).aligned_allocate n a) (λ i t. (nth es i).set_up (n + a) t)) s cells _
    (λ l m. none-list_allocate AnyState (nat_le (n + a) limit) (λ i. (nth es i).aligned_allocate n a) (λ i t. (nth es i).set_up (n + a) t) (λ i t. (nth es i).refuses_aligned n a t) (refuse-by_aligned es n a l h) s cells (λ i. tt)))

-- ---- staying open

open-kept : (s : State) (serve : ℕ → Serve) (open_member : ℕ → Cells → Opening) → IsKeptBy (λ t c. is_open t ≡ is_open s) serve open_member
open-kept s serve open_member = record {
  member = λ i t c w. stays-serve_member (λ b. b) i (serve i) t c ∙ w;
  front = λ i t c w. open-own t (order_own (to_front i (order_of t))) ∙ w;
  fresh = λ i t c o e w. stays-serve_below (λ b. b) i (serve i) t o.state o.cells ∙ w;
}

stays-list_allocate : (tried : Bool) (serve : ℕ → Serve) (open_member : ℕ → Cells → Opening) → StaysOpen (list_allocate tried serve open_member)
stays-list_allocate tried serve open_member s cells = after-list_allocate (λ t c. is_open t ≡ is_open s) tried serve open_member (open-kept s serve open_member) s cells refl

stays-change_holder : (o : Option ℕ) (change : ℕ → Change) → StaysOpenBy (change_holder o change)
stays-change_holder None change = stays-say false
stays-change_holder (Some i) change = stays-change_child i (change i)

stays-list_deallocate : (o : Option ℕ) (change : ℕ → Change) → StaysOpenBy (list_deallocate o change)
stays-list_deallocate None change b s cells = refl
stays-list_deallocate (Some i) change b s cells =
    let r = change_child i (change i) b s cells in open-own r.state (order_own (to_front i (order_of r.state))) ∙ stays-change_child i (change i) b s cells

stays-members_allocate : (es : List Rules) (n : ℕ) → StaysOpen (members_allocate es n)
stays-members_allocate es n =
    stays-asked_for n (list_allocate true (λ i. (nth es i).allocate n) (λ i t. (nth es i).set_up n t)) (stays-list_allocate true (λ i. (nth es i).allocate n) (λ i t. (nth es i).set_up n t))

stays-members_expand : (es : List Rules) (delta : ℕ) → StaysOpenBy (members_expand es delta)
stays-members_expand es delta =
    stays-asked_to_expand delta (λ b s. change_holder (holder es b s) (λ i. (nth es i).expand delta) b s) (λ b s. stays-change_holder (holder es b s) (λ i. (nth es i).expand delta) b s)

stays-members_deallocate : (es : List Rules) → StaysOpenBy (members_deallocate es)
stays-members_deallocate es b s = stays-list_deallocate (holder es b s) (λ i. (nth es i).deallocate) b s

stays-front_or : (x : Bool) (i : ℕ) (next : State → Reply) (t : State) → is_open (next t).state ≡ is_open t → is_open (front_or x i next t).state ≡ is_open t
stays-front_or true i next t h = open-own t (order_own (to_front i (order_of t)))
stays-front_or false i next t h = h

stays-owns_members : (owns : ℕ → Owning) (is : List ℕ) (b : Block) (s : State) → is_open (owns_members owns is b s).state ≡ is_open s
unfolding owns_members
stays-owns_members owns [] b s = refl
stays-owns_members owns (i ∷ is) b s =
    let r = owns_child_if true i (owns i) b s in
    stays-front_or r.owned i (owns_members owns is b) r.state (stays-owns_members owns is b r.state) ∙ stays-owns_child_if true i (owns i) b s

list-openness : (es : List Rules) → OpennessLaws (list_rules es)
unfolding list_rules
list-openness es = record {
  allocate = stays-members_allocate es;
  aligned_allocate = λ n a.
      stays-asked_for n (list_allocate (nat_le (n + a) limit) (λ i. (nth es i).aligned_allocate n a) (λ i t. (nth es i).set_up (n + a) t))
      (stays-list_allocate (nat_le (n + a) limit) (λ i. (nth es i).aligned_allocate n a) (λ i t. (nth es i).set_up (n + a) t));
  expand = stays-members_expand es;
  reallocate = λ n.
      stays-asked_to_reallocate n (members_deallocate es) (general_reallocate n (list_offers es) (λ d. members_expand es d) (members_allocate es n) (members_deallocate es)) (stays-members_deallocate es)
      (stays-general_reallocate n (list_offers es) (λ d. members_expand es d) (members_allocate es n) (members_deallocate es) (stays-members_expand es) (stays-members_allocate es n) (stays-members_deallocate es));
  deallocate = stays-members_deallocate es;
  deallocate_all = λ s cells. open-children (with_own s (order_own [])) (all_closed es) ∙ open-own s (order_own []);
  owns = λ b s. stays-owns_if (may_hold b s) (owns_members (λ i. (nth es i).owns) (order_of s)) (stays-owns_members (λ i. (nth es i).owns) (order_of s)) b s;
  set_up = λ need cells. sets-open (order_own []) (all_closed es) cells;
}

-- ---- owning

-- a no of a member leaves all but statistics, so that those behind it hold what they held
any-same : (es : List Rules) → EachNumber OwningLaws es → (is : List ℕ) (b : Block) (s t : State) → uncounted s ≡ uncounted t → list_any (λ i. (nth es i).holds b (child s i)) is ≡ list_any (λ i. (nth es i).holds b (child t i)) is
any-same es h is b s t q = any-each (λ i. (nth es i).holds b (child s i)) (λ i. (nth es i).holds b (child t i)) is (λ i. (h i).holds_uncounted b (child s i) (child t i) (same-child s t i q))

owned-next : (i : ℕ) (next : State → Reply) (t : State) (v x y : Bool) → v ≡ x → (v ≡ false → (next t).owned ≡ y) → (front_or v i next t).owned ≡ (x || y)
owned-next i next t true true y q h = refl
owned-next i next t false false y q h = h refl
owned-next i next t true false y q h = absurd (cc)
owned-next i next t false true y q h = absurd (cc)

owned-members : (es : List Rules) → EachNumber OwningLaws es → (is : List ℕ) (b : Block) (s : State) → (owns_members (λ i. (nth es i).owns) is b s).owned ≡ list_any (λ i. (nth es i).holds b (child s i)) is
unfolding owns_members
owned-members es h [] b s = refl
owned-members es h (i ∷ is) b s =
    let r = (nth es i).owns b (child s i) in
    let new = with_child s i r.state in
    owned-next i (owns_members (λ j. (nth es j).owns) is b) new r.owned ((nth es i).holds b (child s i)) (list_any (λ j. (nth es j).holds b (child s j)) is) ((h i).answer b (child s i))
    (λ e. owned-members es h is b new ∙ any-same es h is b new s (uncounted-child_kept s i r.state ((h i).not_owned b (child s i) e)))

not_owned-front_or : (s : State) (i : ℕ) (next : State → Reply) (x : Bool) (t : State) → (x ≡ false → uncounted t ≡ uncounted s) → KeptOnNo t (next t) → KeptOnNo s (front_or x i next t)
not_owned-front_or s i next true t h k = λ z. absurd (cc)
not_owned-front_or s i next false t h k = λ z. k z ∙ h refl

not_owned-members : (owns : ℕ → Owning) (is : List ℕ) (b : Block) (s : State) → ((i : ℕ) (t : State) → KeptOnNo t (owns i b t)) → KeptOnNo s (owns_members owns is b s)
unfolding owns_members
not_owned-members owns [] b s h = λ z. refl
not_owned-members owns (i ∷ is) b s h =
    let r = owns_child_if true i (owns i) b s in
    not_owned-front_or s i (owns_members owns is b) r.owned r.state (not_owned-child_if true i (owns i) b s (h i (child s i))) (not_owned-members owns is b r.state h)

-- the layer has an order, so that another one is as steady
abbrev HasOrder : State → Type 0
HasOrder s = own_steady (own_of s) ≡ order_own []

own-with_child : (s : State) (i : ℕ) (t : State) → own_of (with_child s i t) ≡ own_of s
own-with_child closed i t = refl
own-with_child (open_with own ss) i t = refl

steady-front_or : (x : Bool) (i : ℕ) (next : State → Reply) (t : State) → HasOrder t → steady (next t).state ≡ steady t → steady (front_or x i next t).state ≡ steady t
steady-front_or true i next t o h = steady-own_kept t (order_own (to_front i (order_of t))) (sym o)
steady-front_or false i next t o h = h

steady-members : (owns : ℕ → Owning) (is : List ℕ) (b : Block) → ((i : ℕ) (t : State) → steady (owns i b t).state ≡ steady t) → (s : State) → HasOrder s → steady (owns_members owns is b s).state ≡ steady s
unfolding owns_members
steady-members owns [] b h s o = refl
steady-members owns (i ∷ is) b h s o =
    let r = owns_child_if true i (owns i) b s in
    let kept : HasOrder r.state = ap own_steady (own-with_child s i (owns i b (child s i)).state) ∙ o in
    steady-front_or r.owned i (owns_members owns is b) r.state kept (steady-members owns is b h r.state kept) ∙ steady-child_if true i (owns i) b s (h i (child s i))

-- a layer without an order asks no member
steady-list : (owns : ℕ → Owning) (b : Block) → ((i : ℕ) (t : State) → steady (owns i b t).state ≡ steady t) → (s : State) → steady (owns_members owns (order_of s) b s).state ≡ steady s
unfolding owns_members
steady-list owns b h closed = refl
steady-list owns b h (open_with (order_own order) ss) = steady-members owns order b h (open_with (order_own order) ss) refl
steady-list owns b h (open_with nothing ss) = refl
steady-list owns b h (open_with (region_own chunk position) ss) = refl
steady-list owns b h (open_with (bitmap_own chunk base units) ss) = refl
steady-list owns b h (open_with (kr_own chunk mode position units) ss) = refl
steady-list owns b h (open_with (cache_own places) ss) = refl
steady-list owns b h (open_with (stats_own counts) ss) = refl
steady-list owns b h (open_with (row_own numbers) ss) = refl

list-along : (es : List Rules) → EachNumber OwningLaws es → (path : List ℕ) (possible : Bool) (b : Block) (s : State) → list_owns_at es path possible b s ≡ yes_if possible (list_owns_at es path true b s)
list-along es h [] possible b s = along-at_end (list_offers es).owns (list_holds es b s) possible
list-along es h (i ∷ path) possible b s =
    let below = λ (x : Bool). (nth es i).owns_at path x b (child s i) in
    let fine = is_served_size b.len in
    along-into_member es i (λ x. below (x && fine)) (along-below fine below (λ x. (h i).along path x b (child s i))) possible

list-by_path : (es : List Rules) → EachNumber OwningLaws es → (path : List ℕ) (b c : Block) (s : State) → list_owns_at es path false b s ≡ list_owns_at es path false c s
list-by_path es h [] b c s = by_path-at_end (list_offers es).owns (list_holds es b s) (list_holds es c s)
list-by_path es h (i ∷ path) b c s = ap (into_member es i) ((h i).by_path path b c (child s i))

list-owning : (es : List Rules) → EachNumber OwningLaws es → OwningLaws (list_rules es)
unfolding list_rules
list-owning es h = record {
  answer = λ b s. owned-if (may_hold b s) (owns_members (λ i. (nth es i).owns) (order_of s)) b s _ (owned-members es h (order_of s) b s);
  rest = λ b s. steady-owns_if (may_hold b s) (owns_members (λ i. (nth es i).owns) (order_of s)) b s (steady-list (λ i. (nth es i).owns) b (λ i t. (h i).rest b t) s);
  not_owned = λ b s. not_owned-if (may_hold b s) (owns_members (λ i. (nth es i).owns) (order_of s)) b s (not_owned-members (λ i. (nth es i).owns) (order_of s) b s (λ i t. (h i).not_owned b t));
  open_holds = λ b s z. open-may_hold b s _ z;
  held_size = λ b s z. size-may_hold b s _ z;
  holds_uncounted = λ b s t q.
      ap₂ (λ x y. x && y) (same-may_hold b s t q) (ap (list_any (λ i. (nth es i).holds b (child s i))) (same-order s t q) ∙ any-same es h (order_of t) b s t q);
  along = list-along es h;
  by_path = list-by_path es h;
}

-- ---- taking

-- what each member takes for its leaves, the list takes for its own
taking-kept : (e : Rules) (es : List Rules) → ((i : ℕ) → HasLeavesOf e (nth es i)) → (cells : Cells) (serve : ℕ → Serve) (open_member : ℕ → Cells → Opening) → ((i : ℕ) → TakesOwn (nth es i) (serve i))
    → ((i : ℕ) (c : Cells) (o : Opened) → open_member i c ≡ Ok o → OnlyOwnCells (nth es i) c o.cells) → IsKeptBy (λ t c. OnlyOwnCells e cells c) serve open_member
taking-kept e es leaves cells serve open_member h k = record {
  member = λ i t c w. takes-then e cells c (serve i (child t i) c).cells w (takes-wider (nth es i) e c (serve i (child t i) c).cells (leaves i) (h i (child t i) c));
  front = λ i t c w. w;
  fresh = λ i t c o q w.
      let taken = takes-then e cells c o.cells w (takes-wider (nth es i) e c o.cells (leaves i) (k i c o q)) in
      takes-then e cells o.cells (serve i o.state o.cells).cells taken (takes-wider (nth es i) e o.cells (serve i o.state o.cells).cells (leaves i) (h i o.state o.cells));
}

takes-list_allocate : (e : Rules) (es : List Rules) → ((i : ℕ) → HasLeavesOf e (nth es i)) → (tried : Bool) (serve : ℕ → Serve) (open_member : ℕ → Cells → Opening) → ((i : ℕ) → TakesOwn (nth es i) (serve i))
    → ((i : ℕ) (c : Cells) (o : Opened) → open_member i c ≡ Ok o → OnlyOwnCells (nth es i) c o.cells) → TakesOwn e (list_allocate tried serve open_member)
takes-list_allocate e es leaves tried serve open_member h k s cells =
    after-list_allocate (λ t c. OnlyOwnCells e cells c) tried serve open_member (taking-kept e es leaves cells serve open_member h k) s cells (takes-none e cells)

-- there are as many cells as before when a block comes back, and when the open members are torn down
count-list_deallocate : (o : Option ℕ) (change : ℕ → Change) (b : Block) (s : State) (cells : Cells) → ((i : ℕ) (t : State) → length (change i b t cells).cells.tags ≡ length cells.tags)
    → length (list_deallocate o change b s cells).cells.tags ≡ length cells.tags
count-list_deallocate None change b s cells h = refl
count-list_deallocate (Some i) change b s cells h = h i (child s i)

count-freed : (x : Bool) (e : Rules) (cells : Cells) → length (cond x (without_leaves e cells) cells).tags ≡ length cells.tags
count-freed true e cells = freed-length e.leaf_tags cells
count-freed false e cells = refl

count-without_open : (es : List Rules) (ss : States) (cells : Cells) → length (without_open es ss cells).tags ≡ length cells.tags
count-without_open [] ss cells = refl
count-without_open (e ∷ es) no_children cells = refl
count-without_open (e ∷ es) (child_and s ss) cells = count-without_open es ss (cond (is_open s) (without_leaves e cells) cells) ∙ count-freed (is_open s) e cells

list-taking : (es : List Rules) → EachNumber TakingLaws es → TakingLaws (list_rules es)
unfolding list_rules
list-taking es h =
    let e = list_rules es in
    let leaves : (i : ℕ) → HasLeavesOf e (nth es i) = λ i t l. leaf-in es i t l in
    record {
      allocate = λ n.
          takes-asked_for e n (list_allocate true (λ i. (nth es i).allocate n) (λ i t. (nth es i).set_up n t))
          (takes-list_allocate e es leaves true (λ i. (nth es i).allocate n) (λ i t. (nth es i).set_up n t) (λ i. (h i).allocate n) (λ i c o q. (h i).set_up n c o q));
      aligned_allocate = λ n a.
          takes-asked_for e n (list_allocate (nat_le (n + a) limit) (λ i. (nth es i).aligned_allocate n a) (λ i t. (nth es i).set_up (n + a) t))
          (takes-list_allocate e es leaves (nat_le (n + a) limit) (λ i. (nth es i).aligned_allocate n a) (λ i t. (nth es i).set_up (n + a) t) (λ i. (h i).aligned_allocate n a) (λ i c o q. (h i).set_up (n + a) c o q));
      set_up = λ need cells. took-opened e (open_with (order_own []) (all_closed es)) cells;
      deallocate_count = λ b s cells. count-list_deallocate (holder es b s) (λ i. (nth es i).deallocate) b s cells (λ i t. (h i).deallocate_count b t cells);
      deallocate_all_count = λ s cells. count-without_open es (children_of s) cells;
      names_a_node = λ need cells k q. absurd (cc);
    }

pub list-unranged : (es : List Rules) → EachMember UnrangedLaws es → UnrangedLaws (list_rules es)
list-unranged es m = let h = all-unranged es m in record {
  reading = list-reading es (λ i. (h i).reading);
  refused = list-refused es (λ i. (h i).refused) (λ i. (h i).tails);
  tails = list-tails es (λ i. (h i).tails);
  openness = list-openness es;
  owning = list-owning es (λ i. (h i).owning);
  taking = list-taking es (λ i. (h i).taking);
}

pub list-regular : ListIsRegular
list-regular es m =
    let h = all-regular es m in
    let u = list-unranged es (λ i l. regular-unranged (nth es i) (m i l)) in
    unranged-regular (list_rules es) u (list-telling es (λ i. (h i).telling)) (list-refusing es (λ i. (h i).refusing) (λ i. (h i).tails) u.refused)
