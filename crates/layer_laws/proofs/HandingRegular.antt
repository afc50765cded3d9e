-- What hands its blocks down is regular over a regular parent.
use Rattle.std.proofs.Common.{◌≡◌, refl, sym, ap, subst, ◌∙◌, ℕ, suc, ◌≤◌, ◌<◌, ◌+◌, ◌-◌, Bool, true, false, ◌&&◌, ◌||◌, not, arith, List, [], ◌∷◌, cond, Option, Some, None, Ok, Err, is_some, nat_eq, nat_le, nat_lt}
use Rattle.std.proofs.lemmas.Bool.Decides.{nat_tests}
use Rattle.size_round.specs.Sizes.{limit}
use Rattle.space_core.specs.Cells.{Cells}
use Rattle.layer_rules.specs.declared.Block.{Block}
use Rattle.layer_rules.specs.Blocks.{no_block}
use Rattle.layer_rules.specs.Fields.{kept_of, child_fields}
use Rattle.layer_rules.specs.State.{State, closed, Own, open_with, no_children, child_and, is_open, own_of, with_own, child, uncounted, without_counts}
use Rattle.layer_rules.specs.After.{after, answering, Placed, Serve, refuse, Change, change_child, Reallocated, moved_to, emptied, unmoved, Reallocate, Opened, Opening}
use Rattle.layer_rules.specs.Allocating.{serve_parent}
use Rattle.layer_rules.specs.Deallocating.{emptied_child}
use Rattle.layer_rules.specs.Expanding.{change_if}
use Rattle.layer_rules.specs.Owning.{at_end, into_parent, may_hold, is_plausible, owns_child_if}
use Rattle.layer_rules.specs.Offering.{is_served_size}
use Rattle.layer_rules.specs.Reallocating.{in_place, asked_to_reallocate, general_reallocate, reallocate_child, either_reallocate}
use Rattle.layer_rules.specs.Setting.{open_parent}
use Rattle.layer_rules.specs.Unread.{unread}
use Rattle.layer_rules.specs.Rules.{Rules, IsSettled}
use Rattle.layer_rules.specs.Handing.{Handing, hand_request, hand_allocate, hand_aligned, hand_refuses, hand_deallocate, hand_expansion, hand_expand, shown_by, hand_move, hand_reallocation, hand_reallocate, hand_owns, hand_holds, hand_owns_at, handing_rules}
use Rattle.layer_laws.specs.Lawful.{TellingLaws, ReadingLaws, KeepsOnNone, KeptOnFalse, KeepsOnFalse, KeepsUnmoved, RefusingLaws, TailLaws, OpennessLaws, OwningLaws, TakingLaws, RefusedLaws, UnrangedLaws, yes_if}
use Rattle.layer_laws.specs.HandsDown.{HandingIsRegular, HandsDown, KeepsWhereRefused}
use Rattle.layer_laws.proofs.Tests.{set-up-opens}
use Rattle.layer_laws.proofs.Steps.{parent-ok, parent-refuses}
use Rattle.layer_laws.proofs.Uncounting.{same-own, same-child}
use Rattle.layer_laws.proofs.StayingOpen.{StaysOpen, StaysOpenBy, StaysOpenMoved, open-own, stays-refuse, stays-serve_parent, stays-change_child, stays-asked_to_reallocate, stays-in_place, stays-general_reallocate, stays-reallocate_child, stays-either_reallocate, stays-emptied_child, stays-own_instead, stays-owns_child_if, sets-parent}
use Rattle.layer_laws.proofs.Requests.{keeps-refuse, keeps-serve_parent, kept-own, is_refusal, none-parent}
use Rattle.layer_laws.proofs.Reallocations.{keeps-say, keeps-change_child, keeps-change_if, kept-own_on_false, keeps-in_place, keeps-asked_to_reallocate, keeps-general_reallocate, keeps-reallocate_child, keeps-either_reallocate, kept-own_unmoved}
use Rattle.layer_laws.proofs.Takings.{HasLeavesOf, TakesOwn, takes-refuse, takes-serve_parent, took-wider, took-parent}
use Rattle.layer_laws.proofs.Owners.{held-same, AsksUnread, owned-child_both, open-may_hold, size-may_hold, not_owned-child_if, not_owned-own, steady-child_if, steady-own, asks-below, asks-child_if, asks-own}
use Rattle.layer_laws.proofs.Unranged.{regular-unranged, refused-refusing, unranged-regular}
use Rattle.layer_laws.proofs.Unreading.{told-child, unread-may_hold, unread-over_parent}
use Rattle.layer_laws.proofs.HandingParts.{hand-opened, if-opens}
use Rattle.layer_laws.proofs.Paths.{along-at_end, along-below, along-into_parent, by_path-at_end}

-- ---- telling

pub hand-telling : (h : Handing) (e : Rules) → HandsDown h e → TellingLaws e → TellingLaws (handing_rules h e)
unfolding handing_rules
hand-telling h e w t = record {
  enough = w.tells.enough;
  of_nothing = w.tells.of_nothing;
  above_limit = w.tells.above_limit;
  aligned = w.tells.aligned;
  facts_count = λ s cells. ap suc (t.facts_count (child s 0) cells);
  numbers_count = λ fs. ap suc (t.numbers_count (child_fields fs 0));
  route_depth = λ b s. omega (arith, t.route_depth (h.down b) (child s 0));
}

-- ---- reading

hand-holds_unread : (h : Handing) (e : Rules) → ReadingLaws e → (b : Block) (s : State) → hand_holds h e b (unread s) ≡ hand_holds h e b s
hand-holds_unread h e p b s = rw (unread-may_hold b s, told-child (e.holds (h.down b)) s 0 (p.holds (h.down b))) refl

hand-owns_at_unread : (h : Handing) (e : Rules) → ReadingLaws e → (path : List ℕ) (possible : Bool) (b : Block) (s : State) → hand_owns_at h e path possible b (unread s) ≡ hand_owns_at h e path possible b s
hand-owns_at_unread h e p [] possible b s = ap (at_end e.offers.owns possible) (hand-holds_unread h e p b s)
hand-owns_at_unread h e p (i ∷ path) possible b s =
    let fine = possible && (is_served_size b.len && h.fits b) in
    ap (into_parent i) (told-child (e.owns_at path fine (h.down b)) s 0 (p.owns_at path fine (h.down b)))

hand-owns_unread : (h : Handing) (e : Rules) → KeepsWhereRefused h → ReadingLaws e → (b : Block) (s : State) → AsksUnread (hand_owns h e) b s
hand-owns_unread h e w p b s =
    let below = λ (c : Block). e.owns (h.down b) in
    let fine = λ (c : Block) (t : State). may_hold c t && h.fits c in
    let r = asks-own (λ c t. owns_child_if (fine c t) 0 below c t) h.owned b s w.owned_unread
    (asks-child_if fine 0 below b s (ap (λ x. x && h.fits b) (unread-may_hold b s)) (asks-below e p (h.down b) b (child s 0))) in
    record { owned = r.owned; state = r.state }

pub hand-reading : (h : Handing) (e : Rules) → KeepsWhereRefused h → ReadingLaws e → ReadingLaws (handing_rules h e)
unfolding handing_rules
hand-reading h e w p =
    record {
      opens_as_fields = λ fs bytes. set-up-opens fs _ _;
      read = λ fs x y. unread-over_parent fs (h.kept (kept_of fs)) (h.kept (kept_of fs)) (e.read (child_fields fs 0) x) (e.read (child_fields fs 0) y) refl (p.read (child_fields fs 0) x y);
      holds = hand-holds_unread h e p;
      route = λ b s. ap (λ r. 0 ∷ r) (told-child (e.route (h.down b)) s 0 (p.route (h.down b)));
      routed = λ b s. ap (λ x. is_plausible b && (h.fits b && x)) (told-child (e.is_routed (h.down b)) s 0 (p.routed (h.down b)));
      extent = λ b s. ap (λ x. cond (h.fits b) x no_block) (told-child (e.extent (h.down b)) s 0 (p.extent (h.down b)));
      owns_at = hand-owns_at_unread h e p;
      owned = λ b s. (hand-owns_unread h e w p b s).owned;
      owns = λ b s. (hand-owns_unread h e w p b s).state;
    }

-- ---- refusing: what a refused call leaves

counted-none : (h : Handing) → KeepsWhereRefused h → (n : ℕ) (o : Option Placed) (own : Own) → o ≡ None → without_counts (h.allocated (is_some o) n own) ≡ without_counts own
counted-none h w n None own q = w.allocated n own
counted-none h w n (Some p) own q = absurd (cc)

keeps-hand_request : (h : Handing) → KeepsWhereRefused h → (empty goes : Bool) (n : ℕ) (serve : Serve) → KeepsOnNone serve → KeepsOnNone (hand_request h empty goes n serve)
keeps-hand_request h w true goes n serve k = keeps-refuse
keeps-hand_request h w false true n serve k = λ s cells.
    let r = serve_parent (h.shown n) serve s cells in
    kept-own s cells r (h.allocated (is_some r.answer) n (own_of r.state)) (counted-none h w n r.answer (own_of r.state)) (keeps-serve_parent (h.shown n) serve k s cells)
keeps-hand_request h w false false n serve k = λ s cells.
    kept-own s cells (refuse s cells) (h.allocated false n (own_of s)) (counted-none h w n None (own_of s)) (keeps-refuse s cells)

keeps-hand_allocate : (h : Handing) → KeepsWhereRefused h → (n : ℕ) (serve : Serve) → KeepsOnNone serve → KeepsOnNone (hand_allocate h n serve)
keeps-hand_allocate h w n serve k s = keeps-hand_request h w (nat_eq n 0) (nat_le n limit && h.admits n (own_of s)) n serve k s

keeps-hand_aligned : (h : Handing) → KeepsWhereRefused h → (handed : Bool) (n : ℕ) (serve : Serve) → KeepsOnNone serve → KeepsOnNone (hand_aligned h handed n serve)
keeps-hand_aligned h w true n serve k = keeps-hand_allocate h w n serve k
keeps-hand_aligned h w false n serve k = keeps-refuse

counted-false : (h : Handing) → KeepsWhereRefused h → (delta : ℕ) (b : Block) (ok : Bool) (own : Own) → ok ≡ false → without_counts (h.expanded ok delta b own) ≡ without_counts own
counted-false h w delta b true own q = absurd (cc)
counted-false h w delta b false own q = w.expanded delta b own

kept-hand_expansion : (h : Handing) → KeepsWhereRefused h → (none goes enough : Bool) (delta : ℕ) (change : Change) (b down : Block) (s : State) (cells : Cells) → KeepsOnFalse change → KeptOnFalse s cells (hand_expansion h none goes enough delta change b down s cells)
kept-hand_expansion h w true goes enough delta change b down s cells k = keeps-say true b s cells
kept-hand_expansion h w false false enough delta change b down s cells k =
    kept-own_on_false s cells (after false s cells) (h.expanded false delta b (own_of s)) (counted-false h w delta b false (own_of s)) (keeps-say false b s cells)
kept-hand_expansion h w false true true delta change b down s cells k =
    kept-own_on_false s cells (after true s cells) (h.expanded true delta b (own_of s)) (counted-false h w delta b true (own_of s)) (keeps-say true b s cells)
kept-hand_expansion h w false true false delta change b down s cells k =
    let r = change_child 0 change down s cells in
    kept-own_on_false s cells r (h.expanded r.answer delta b (own_of r.state)) (counted-false h w delta b r.answer (own_of r.state)) (keeps-change_child 0 change k down s cells)

keeps-hand_expand : (h : Handing) (e : Rules) → KeepsWhereRefused h → RefusedLaws e → (delta : ℕ) → KeepsOnFalse (hand_expand h e delta)
keeps-hand_expand h e w p delta b s cells =
    let d = h.asked (b.len + delta) - h.asked b.len in
    kept-hand_expansion h w (nat_eq delta 0) (nat_le (b.len + delta) limit && h.admits delta (own_of s)) (nat_eq (h.asked b.len) (h.asked (b.len + delta))) delta (change_if h.expands (e.expand d)) b (h.down b) s cells
    (keeps-change_if h.expands (e.expand d) (p.expand d))

unmoved-shown_by : (shown : Block → Block) (r : Reallocated) → shown_by shown r ≡ unmoved → r ≡ unmoved
unmoved-shown_by shown (moved_to b) q = absurd (cc)
unmoved-shown_by shown emptied q = absurd (cc)
unmoved-shown_by shown unmoved q = refl

keeps-hand_move : (h : Handing) (e : Rules) → KeepsWhereRefused h → RefusedLaws e → (n : ℕ) → KeepsUnmoved (hand_move h e n)
keeps-hand_move h e w p n =
    let serve = hand_allocate h n (e.allocate (h.asked n)) in
    let give = hand_deallocate h e.deallocate in
    let parent = e.reallocate (h.asked n) in
    keeps-either_reallocate h.moves (general_reallocate n h.offers (λ d. hand_expand h e d) serve give) (λ b s cells. answering (shown_by (h.shown n)) (reallocate_child 0 parent (h.down b) s cells))
    (keeps-general_reallocate n h.offers (λ d. hand_expand h e d) serve give (λ d. keeps-hand_expand h e w p d) (keeps-hand_allocate h w n (e.allocate (h.asked n)) (p.allocate (h.asked n))))
    (λ b s cells q. keeps-reallocate_child 0 parent (p.reallocate (h.asked n)) (h.down b) s cells (unmoved-shown_by (h.shown n) (reallocate_child 0 parent (h.down b) s cells).answer q))

counted-unmoved : (h : Handing) → KeepsWhereRefused h → (n : ℕ) (b : Block) (r : Reallocated) (own : Own) → r ≡ unmoved → without_counts (h.reallocated n b r own) ≡ without_counts own
counted-unmoved h w n b r own q = subst (λ r. without_counts (h.reallocated n b r own) ≡ without_counts own) (sym q) (w.reallocated n b own)

keeps-hand_reallocation : (h : Handing) → KeepsWhereRefused h → (uncounted_call : Bool) (n : ℕ) (give : Change) (move : Reallocate) → KeepsUnmoved move → KeepsUnmoved (hand_reallocation h uncounted_call n give move)
keeps-hand_reallocation h w true n give move k = keeps-asked_to_reallocate n give move k
keeps-hand_reallocation h w false n give move k = λ b s cells.
    let r = asked_to_reallocate n give move b s cells in
    kept-own_unmoved s cells r (h.reallocated n b r.answer (own_of r.state)) (counted-unmoved h w n b r.answer (own_of r.state)) (keeps-asked_to_reallocate n give move k b s cells)

keeps-hand_reallocate : (h : Handing) (e : Rules) → KeepsWhereRefused h → RefusedLaws e → (n : ℕ) → KeepsUnmoved (hand_reallocate h e n)
keeps-hand_reallocate h e w p n b =
    keeps-hand_reallocation h w (nat_eq n b.len || nat_eq n 0) n (hand_deallocate h e.deallocate) (λ c. either_reallocate (h.in_place c.len n) (in_place n) (hand_move h e n) c)
    (λ c. keeps-either_reallocate (h.in_place c.len n) (in_place n) (hand_move h e n) (keeps-in_place n) (keeps-hand_move h e w p n) c) b

-- ---- refusing: when a request is refused

none-hand_request : (h : Handing) (empty goes : Bool) (n : ℕ) (serve : Serve) (s : State) (cells : Cells) (z : Bool) → nat_eq n 0 ≡ empty → (nat_le n limit && h.admits n (own_of s)) ≡ goes
    → (1 ≤ n → is_refusal (serve_parent (h.shown n) serve s cells) ≡ z) → is_refusal (hand_request h empty goes n serve s cells) ≡ (nat_eq n 0 || (nat_lt limit n || (not (h.admits n (own_of s)) || z)))
none-hand_request h true goes n serve s cells z q x f = rw q refl
none-hand_request h false true n serve s cells z q x f =
    let k : is_refusal (serve_parent (h.shown n) serve s cells) ≡ z = f (grind (arith, nat_tests)) in
    let l : nat_lt limit n ≡ false = grind (arith, nat_tests) in
    let a : h.admits n (own_of s) ≡ true = grind (arith, nat_tests) in
    rw (q, l, a) k
none-hand_request h false false n serve s cells z q x f = refused (nat_eq n 0) (nat_lt limit n) (nat_le n limit) (h.admits n (own_of s)) (grind (arith, nat_tests)) x
  where
    refused : (o l m a : Bool) → l ≡ not m → (m && a) ≡ false → true ≡ (o || (l || (not a || z)))
    refused true l m a p q = refl
    refused false true m a p q = refl
    refused false false m false p q = refl
    refused false false true true p q = absurd (cc)
    refused false false false true p q = absurd (cc)

none-hand_allocate : (h : Handing) (n : ℕ) (serve : Serve) (refuses : State → Cells → Bool) (s : State) (cells : Cells) → (1 ≤ n → is_refusal (serve_parent (h.shown n) serve s cells) ≡ refuses (child s 0) cells)
    → is_refusal (hand_allocate h n serve s cells) ≡ (nat_eq n 0 || hand_refuses h n refuses s cells)
none-hand_allocate h n serve refuses s cells f = none-hand_request h _ _ n serve s cells (refuses (child s 0) cells) refl refl f

none-hand_aligned : (h : Handing) (handed : Bool) (n : ℕ) (serve : Serve) (refuses : State → Cells → Bool) (s : State) (cells : Cells) → (1 ≤ n → is_refusal (serve_parent (h.shown n) serve s cells) ≡ refuses (child s 0) cells)
    → is_refusal (hand_aligned h handed n serve s cells) ≡ (nat_eq n 0 || (not handed || hand_refuses h n refuses s cells))
none-hand_aligned h true n serve refuses s cells f = none-hand_allocate h n serve refuses s cells f
none-hand_aligned h false n serve refuses s cells f = either (nat_eq n 0)
  where
    either : (b : Bool) → true ≡ (b || true)
    either true = refl
    either false = refl

hand-tails : (h : Handing) (e : Rules) → RefusedLaws e → TailLaws e → (s : State) (cells : Cells) → IsSettled (handing_rules h e) s cells → e.has_free_tails (child s 0) ≡ true
hand-tails h e p t closed cells z = t.shut
hand-tails h e p t (open_with own ss) cells z = p.free_tails (child (open_with own ss) 0) cells (hand-opened h e (open_with own ss) cells refl z).below

refuses-same : (h : Handing) → KeepsWhereRefused h → (n : ℕ) (refuses : State → Cells → Bool) (s t : State) (cells : Cells) → uncounted s ≡ uncounted t
    → refuses (child s 0) cells ≡ refuses (child t 0) cells → hand_refuses h n refuses s cells ≡ hand_refuses h n refuses t cells
refuses-same h w n refuses s t cells q r = rw (w.admits n (own_of s) (own_of t) (same-own s t q), r) refl

pub hand-refused : (h : Handing) (e : Rules) → KeepsWhereRefused h → TailLaws e → RefusedLaws e → RefusedLaws (handing_rules h e)
unfolding handing_rules
hand-refused h e w t p =
    record {
      allocate = λ n. keeps-hand_allocate h w n (e.allocate (h.asked n)) (p.allocate (h.asked n));
      aligned_allocate = λ n a. keeps-hand_aligned h w h.aligns n (e.aligned_allocate (h.asked n) a) (p.aligned_allocate (h.asked n) a);
      expand = λ delta. keeps-hand_expand h e w p delta;
      reallocate = λ n. keeps-hand_reallocate h e w p n;
      free_tails = hand-tails h e p t;
      refuses_uncounted = λ n s u cells q. refuses-same h w n (e.refuses (h.asked n)) s u cells q (p.refuses_uncounted (h.asked n) (child s 0) (child u 0) cells (same-child s u 0 q));
      refuses_aligned_uncounted = λ n a s u cells q.
          ap (λ x. not h.aligns || x) (refuses-same h w n (e.refuses_aligned (h.asked n) a) s u cells q (p.refuses_aligned_uncounted (h.asked n) a (child s 0) (child u 0) cells (same-child s u 0 q)));
      free_tails_uncounted = λ s u q. p.free_tails_uncounted (child s 0) (child u 0) (same-child s u 0 q);
    }

pub hand-refusing : (h : Handing) (e : Rules) → HandsDown h e → RefusingLaws e → RefusedLaws (handing_rules h e) → RefusingLaws (handing_rules h e)
unfolding handing_rules
hand-refusing h e w p k =
    refused-refusing (handing_rules h e) k
    (λ n s cells f.
    none-hand_allocate h n (e.allocate (h.asked n)) (e.refuses (h.asked n)) s cells (λ l.
    none-parent (h.shown n) (h.asked n) (e.allocate (h.asked n)) s cells (e.refuses (h.asked n) (child s 0) cells) (w.asked_some n l) (p.none (h.asked n) (child s 0) cells f)))
    (λ n a s cells.
    none-hand_aligned h h.aligns n (e.aligned_allocate (h.asked n) a) (e.refuses_aligned (h.asked n) a) s cells (λ l.
    none-parent (h.shown n) (h.asked n) (e.aligned_allocate (h.asked n) a) s cells (e.refuses_aligned (h.asked n) a (child s 0) cells) (w.asked_some n l) (p.none_aligned (h.asked n) a (child s 0) cells)))

-- ---- tails

tails-served : (h : Handing) (e : Rules) → TailLaws e → (n m : ℕ) (own : Option Placed → Own → Own) (s : State) (cells : Cells) → e.has_free_tails (child s 0) ≡ true
    → e.has_free_tails (child (with_own (serve_parent (h.shown n) (e.allocate m) s cells).state (own (serve_parent (h.shown n) (e.allocate m) s cells).answer (own_of (serve_parent (h.shown n) (e.allocate m) s cells).state))) 0) ≡ true
tails-served h e t n m own closed cells f = f
tails-served h e t n m own (open_with o no_children) cells f = f
tails-served h e t n m own (open_with o (child_and u us)) cells f = t.allocate m u cells f

child-own : (s : State) (own : Own) → child (with_own s own) 0 ≡ child s 0
child-own closed own = refl
child-own (open_with old ss) own = refl

tails-hand_request : (h : Handing) (e : Rules) → TailLaws e → (empty goes : Bool) (n : ℕ) (s : State) (cells : Cells) → e.has_free_tails (child s 0) ≡ true → e.has_free_tails (child (hand_request h empty goes n (e.allocate (h.asked n)) s cells).state 0) ≡ true
tails-hand_request h e t true goes n s cells f = f
tails-hand_request h e t false true n s cells f = tails-served h e t n (h.asked n) (λ o. h.allocated (is_some o) n) s cells f
tails-hand_request h e t false false n s cells f = ap e.has_free_tails (child-own s (h.allocated false n (own_of s))) ∙ f

pub hand-tail_laws : (h : Handing) (e : Rules) → TailLaws e → TailLaws (handing_rules h e)
unfolding handing_rules
hand-tail_laws h e t =
    record {
      shut = t.shut;
      allocate = λ n s cells f. tails-hand_request h e t (nat_eq n 0) (nat_le n limit && h.admits n (own_of s)) n s cells f;
      set_up = λ need cells o q.
          let x = if-opens (open_parent h.first (e.set_up (h.need need) cells)) (Ok o) (h.opens_for need) q (λ k z. absurd (cc)) in
          let y = parent-ok h.first (e.set_up (h.need need) cells) o x in
          subst (λ (o : Opened). e.has_free_tails (child o.state 0) ≡ true) y.2 (t.set_up (h.need need) cells y.0 y.1);
    }

-- ---- staying open

stays-hand_request : (h : Handing) (empty goes : Bool) (n : ℕ) (serve : Serve) → StaysOpen (hand_request h empty goes n serve)
stays-hand_request h true goes n serve = stays-refuse
stays-hand_request h false true n serve = λ s cells. open-own (serve_parent (h.shown n) serve s cells).state _ ∙ stays-serve_parent (h.shown n) serve s cells
stays-hand_request h false false n serve = λ s cells. open-own s _

stays-hand_allocate : (h : Handing) (n : ℕ) (serve : Serve) → StaysOpen (hand_allocate h n serve)
stays-hand_allocate h n serve s = stays-hand_request h (nat_eq n 0) (nat_le n limit && h.admits n (own_of s)) n serve s

stays-hand_aligned : (h : Handing) (handed : Bool) (n : ℕ) (serve : Serve) → StaysOpen (hand_aligned h handed n serve)
stays-hand_aligned h true n serve = stays-hand_allocate h n serve
stays-hand_aligned h false n serve = stays-refuse

stayed-hand_expansion : (h : Handing) (none goes enough : Bool) (delta : ℕ) (change : Change) (b down : Block) (s : State) (cells : Cells) → is_open (hand_expansion h none goes enough delta change b down s cells).state ≡ is_open s
stayed-hand_expansion h true goes enough delta change b down s cells = refl
stayed-hand_expansion h false false enough delta change b down s cells = open-own s _
stayed-hand_expansion h false true true delta change b down s cells = open-own s _
stayed-hand_expansion h false true false delta change b down s cells = open-own (change_child 0 change down s cells).state _ ∙ stays-change_child 0 change down s cells

stays-hand_expand : (h : Handing) (e : Rules) (delta : ℕ) → StaysOpenBy (hand_expand h e delta)
stays-hand_expand h e delta b s cells = stayed-hand_expansion h _ _ _ delta (change_if h.expands (e.expand (h.asked (b.len + delta) - h.asked b.len))) b (h.down b) s cells

stays-hand_deallocate : (h : Handing) (change : Change) → StaysOpenBy (hand_deallocate h change)
stays-hand_deallocate h change b s cells = open-own (change_child 0 change (h.down b) s cells).state _ ∙ stays-change_child 0 change (h.down b) s cells

stays-hand_move : (h : Handing) (e : Rules) (n : ℕ) → StaysOpenMoved (hand_move h e n)
stays-hand_move h e n =
    let serve = hand_allocate h n (e.allocate (h.asked n)) in
    let give = hand_deallocate h e.deallocate in
    let parent = e.reallocate (h.asked n) in
    stays-either_reallocate h.moves (general_reallocate n h.offers (λ d. hand_expand h e d) serve give) (λ b s cells. answering (shown_by (h.shown n)) (reallocate_child 0 parent (h.down b) s cells))
    (stays-general_reallocate n h.offers (λ d. hand_expand h e d) serve give (λ d. stays-hand_expand h e d) (stays-hand_allocate h n (e.allocate (h.asked n))) (stays-hand_deallocate h e.deallocate))
    (λ b s cells. stays-reallocate_child 0 parent (h.down b) s cells)

stays-hand_reallocation : (h : Handing) (uncounted_call : Bool) (n : ℕ) (give : Change) (move : Reallocate) → StaysOpenBy give → StaysOpenMoved move → StaysOpenMoved (hand_reallocation h uncounted_call n give move)
stays-hand_reallocation h true n give move f k = stays-asked_to_reallocate n give move f k
stays-hand_reallocation h false n give move f k = λ b s cells. open-own (asked_to_reallocate n give move b s cells).state _ ∙ stays-asked_to_reallocate n give move f k b s cells

stays-hand_reallocate : (h : Handing) (e : Rules) (n : ℕ) → StaysOpenMoved (hand_reallocate h e n)
stays-hand_reallocate h e n b =
    stays-hand_reallocation h (nat_eq n b.len || nat_eq n 0) n (hand_deallocate h e.deallocate) (λ c. either_reallocate (h.in_place c.len n) (in_place n) (hand_move h e n) c) (stays-hand_deallocate h e.deallocate)
    (λ c. stays-either_reallocate (h.in_place c.len n) (in_place n) (hand_move h e n) (stays-in_place n) (stays-hand_move h e n) c) b

pub hand-openness : (h : Handing) (e : Rules) → OpennessLaws (handing_rules h e)
unfolding handing_rules
hand-openness h e =
    record {
      allocate = λ n. stays-hand_allocate h n (e.allocate (h.asked n));
      aligned_allocate = λ n a. stays-hand_aligned h h.aligns n (e.aligned_allocate (h.asked n) a);
      expand = λ delta. stays-hand_expand h e delta;
      reallocate = λ n. stays-hand_reallocate h e n;
      deallocate = stays-hand_deallocate h e.deallocate;
      deallocate_all = λ s cells. stays-own_instead (λ t. h.all_deallocated (own_of t)) (emptied_child s 0 e.deallocate_all cells) ∙ stays-emptied_child s 0 e.deallocate_all cells;
      owns = λ b s. open-own (owns_child_if (may_hold b s && h.fits b) 0 (λ c. e.owns (h.down b)) b s).state _ ∙ stays-owns_child_if (may_hold b s && h.fits b) 0 (λ c. e.owns (h.down b)) b s;
      set_up = λ need cells o q.
          sets-parent h.first (e.set_up (h.need need) cells) o (if-opens (open_parent h.first (e.set_up (h.need need) cells)) (Ok o) (h.opens_for need) q (λ k z. absurd (cc)));
    }

-- ---- owning

hand-along : (h : Handing) (e : Rules) → OwningLaws e → (path : List ℕ) (possible : Bool) (b : Block) (s : State) → hand_owns_at h e path possible b s ≡ yes_if possible (hand_owns_at h e path true b s)
hand-along h e p [] possible b s = along-at_end e.offers.owns (hand_holds h e b s) possible
hand-along h e p (i ∷ path) possible b s =
    let below = λ (x : Bool). e.owns_at path x (h.down b) (child s 0) in
    let fine = is_served_size b.len && h.fits b in
    along-into_parent i (λ x. below (x && fine)) (along-below fine below (λ x. p.along path x (h.down b) (child s 0))) possible

hand-by_path : (h : Handing) (e : Rules) → OwningLaws e → (path : List ℕ) (b c : Block) (s : State) → hand_owns_at h e path false b s ≡ hand_owns_at h e path false c s
hand-by_path h e p [] b c s = by_path-at_end e.offers.owns (hand_holds h e b s) (hand_holds h e c s)
hand-by_path h e p (i ∷ path) b c s = ap (into_parent i) (p.by_path path (h.down b) (h.down c) (child s 0))

pub hand-owning : (h : Handing) (e : Rules) → KeepsWhereRefused h → OwningLaws e → OwningLaws (handing_rules h e)
unfolding handing_rules
hand-owning h e w p =
    let below = λ (b c : Block). e.owns (h.down b) in
    let asked = λ (b : Block) (s : State). owns_child_if (may_hold b s && h.fits b) 0 (below b) b s in
    record {
      answer = λ b s. owned-child_both (may_hold b s) (h.fits b) 0 (below b) b s (e.holds (h.down b) (child s 0)) (p.answer (h.down b) (child s 0));
      rest = λ b s. steady-own s (asked b s) (h.owned (own_of (asked b s).state)) (w.owned_steady (own_of (asked b s).state)) (steady-child_if (may_hold b s && h.fits b) 0 (below b) b s (p.rest (h.down b) (child s 0)));
      not_owned = λ b s.
          not_owned-own s (asked b s) (h.owned (own_of (asked b s).state)) (w.owned (own_of (asked b s).state)) (not_owned-child_if (may_hold b s && h.fits b) 0 (below b) b s (p.not_owned (h.down b) (child s 0)));
      open_holds = λ b s z. open-may_hold b s _ z;
      held_size = λ b s z. size-may_hold b s _ z;
      holds_uncounted = λ b s t q.
          let c = h.down b in
          held-same b s t (h.fits b && e.holds c (child s 0)) (h.fits b && e.holds c (child t 0)) q (ap (λ x. h.fits b && x) (p.holds_uncounted c (child s 0) (child t 0) (same-child s t 0 q)));
      along = hand-along h e p;
      by_path = hand-by_path h e p;
    }

-- ---- taking

takes-hand_request : (h : Handing) (e f : Rules) → HasLeavesOf f e → (empty goes : Bool) (n : ℕ) (serve : Serve) → TakesOwn e serve → TakesOwn f (hand_request h empty goes n serve)
takes-hand_request h e f l true goes n serve k = takes-refuse f
takes-hand_request h e f l false true n serve k = λ s cells. takes-serve_parent e f (h.shown n) serve l k s cells
takes-hand_request h e f l false false n serve k = λ s cells. takes-refuse f s cells

takes-hand_allocate : (h : Handing) (e f : Rules) → HasLeavesOf f e → (n : ℕ) (serve : Serve) → TakesOwn e serve → TakesOwn f (hand_allocate h n serve)
takes-hand_allocate h e f l n serve k s = takes-hand_request h e f l (nat_eq n 0) (nat_le n limit && h.admits n (own_of s)) n serve k s

takes-hand_aligned : (h : Handing) (e f : Rules) → HasLeavesOf f e → (handed : Bool) (n : ℕ) (serve : Serve) → TakesOwn e serve → TakesOwn f (hand_aligned h handed n serve)
takes-hand_aligned h e f l true n serve k = takes-hand_allocate h e f l n serve k
takes-hand_aligned h e f l false n serve k = takes-refuse f

if-refuses : (x : Opening) (k n : ℕ) (b : Bool) → 1 ≤ n → (x ≡ Err k → k < n) → elim b as (λ _. Opening) [ true ↦ x | false ↦ Err 0 ] ≡ Err k → k < n
if-refuses x k n true h f q = f q
if-refuses x k n false h f q = let z : 0 ≡ k = cc in omega arith

pub hand-taking : (h : Handing) (e : Rules) → TakingLaws e → TakingLaws (handing_rules h e)
unfolding handing_rules
hand-taking h e p =
    let f = handing_rules h e in
    record {
      allocate = λ n. takes-hand_allocate h e f (λ t x. x) n (e.allocate (h.asked n)) (p.allocate (h.asked n));
      aligned_allocate = λ n a. takes-hand_aligned h e f (λ t x. x) h.aligns n (e.aligned_allocate (h.asked n) a) (p.aligned_allocate (h.asked n) a);
      set_up = λ need cells o q.
          let x = e.set_up (h.need need) cells in
          took-parent f h.first x cells (took-wider e f cells x (λ t y. y) (p.set_up (h.need need) cells)) o (if-opens (open_parent h.first x) (Ok o) (h.opens_for need) q (λ k z. absurd (cc)));
      deallocate_count = λ b s cells. p.deallocate_count (h.down b) (child s 0) cells;
      deallocate_all_count = λ s cells. p.deallocate_all_count (child s 0) cells;
      names_a_node = λ need cells k z.
          if-refuses (open_parent h.first (e.set_up (h.need need) cells)) k (suc e.nodes) (h.opens_for need) (omega arith)
          (λ q. let w = parent-refuses h.first (e.set_up (h.need need) cells) k e.nodes (λ j. p.names_a_node (h.need need) cells j) q in omega arith) z;
    }

-- ---- the whole

-- whatever it hands down
pub hand-unranged : (h : Handing) (e : Rules) → KeepsWhereRefused h → UnrangedLaws e → UnrangedLaws (handing_rules h e)
hand-unranged h e w g =
    record {
      reading = hand-reading h e w g.reading;
      refused = hand-refused h e w g.tails g.refused;
      tails = hand-tail_laws h e g.tails;
      openness = hand-openness h e;
      owning = hand-owning h e w g.owning;
      taking = hand-taking h e g.taking;
    }

pub hand-regular : HandingIsRegular
hand-regular h e w g =
    let u = hand-unranged h e w.refused (regular-unranged e g) in
    unranged-regular (handing_rules h e) u (hand-telling h e w g.telling) (hand-refusing h e w g.refusing u.refused)
