-- Choosing by length is regular over regular members.
use Rattle.std.proofs.Common.{◌≡◌, refl, ap, ap₂, subst, ℕ, suc, ◌≤◌, ◌+◌, ◌-◌, Bool, true, false, ◌&&◌, ◌||◌, not, arith, List, [], ◌∷◌, cond, nat_eq, nat_lt, is_none, zero-add}
use Rattle.size_round.specs.Sizes.{limit}
use Rattle.space_core.specs.Cells.{Cells}
use Rattle.layer_rules.specs.declared.Block.{Block}
use Rattle.layer_rules.specs.Blocks.{no_block}
use Rattle.layer_rules.specs.After.{Serve, Change, Reallocated, moved_to, emptied, unmoved, Opened, stay}
use Rattle.layer_rules.specs.Allocating.{served_unless, over_limit_or}
use Rattle.layer_rules.specs.Handing.{shown_by}
use Rattle.layer_rules.specs.Offering.{is_served_size}
use Rattle.layer_rules.specs.Owning.{is_plausible, may_hold, at_end}
use Rattle.layer_rules.specs.Reallocating.{in_place, general_reallocate, either_reallocate, reallocate_child}
use Rattle.layer_rules.specs.State.{State, closed, open_with, nothing, child}
use Rattle.layer_rules.specs.Rules.{Rules, IsSettled}
use Rattle.layer_rules.specs.Unread.{unread}
use Rattle.layer_rules.specs.Members.{nth, offers_of_all, open_each, into_member, have_free_tails, read_each}
use Rattle.layer_rules.specs.Choosing.{Choosing, chosen_down, have_one_member, choose_serve, choose_growth, choose_expand, choose_deallocate, choose_allocate, choose_within, choose_holds, choose_owns_at, choosing_rules}
use Rattle.layer_laws.specs.Chooses.{ChoosingIsRegular, Chooses, EachNumber, EachMember}
use Rattle.layer_laws.specs.Lawful.{TellingLaws, ReadingLaws, RefusingLaws, TailLaws, KeepsOnNone, KeepsOnFalse, KeepsUnmoved, OpennessLaws, OwningLaws, TakingLaws, IsRegular, RefusedLaws, UnrangedLaws, yes_if}
use Rattle.layer_laws.proofs.MembersLawful.{facts-of_each, numbers-of_each, route-of_member, all-regular, leaf-in, group-parts, least-is-alignment, took-each, refuses-each, tails-at, tails-from, tails-uncounted, tails-with_child, tails-opened, count-empty_each, group-ok, unread-read_each, stays-empty_each, all-unranged}
use Rattle.layer_laws.proofs.Owners.{AsksUnread, asks-below, asks-child_if, owned-child_both, open-may_hold, size-may_hold, not_owned-child_if, steady-child_if}
use Rattle.layer_laws.proofs.Reallocations.{keeps-asked_to_expand, keeps-change_child, keeps-change_if, keeps-stay, keeps-in_place, keeps-asked_to_reallocate, keeps-general_reallocate, keeps-reallocate_child, keeps-either_reallocate}
use Rattle.layer_laws.proofs.Requests.{is_refusal, keeps-refuse, keeps-asked_for, keeps-serve_member, none-asked_for, none-member}
use Rattle.layer_laws.proofs.StayingOpen.{StaysOpen, StaysOpenBy, StaysOpenMoved, stays-asked_for, stays-serve_member, stays-change_child, stays-asked_to_expand, stays-change_if, stays-stay, stays-in_place, stays-asked_to_reallocate, stays-general_reallocate, stays-reallocate_child, stays-either_reallocate, stays-owns_child_if, sets-group}
use Rattle.layer_laws.proofs.Steps.{group-refuses}
use Rattle.layer_laws.proofs.Takings.{TakesOwn, takes-refuse, takes-asked_for, takes-serve_member, took-group}
use Rattle.layer_laws.proofs.Tests.{set-up-opens}
use Rattle.layer_laws.proofs.Uncounting.{same-child, same-may_hold}
use Rattle.layer_laws.proofs.Unranged.{regular-unranged, refused-refusing, unranged-regular}
use Rattle.layer_laws.proofs.Unreading.{told-child, unread-may_hold, unread-if_set_up}
use Rattle.layer_laws.proofs.Paths.{along-at_end, along-below, along-into_member, by_path-at_end}

-- ---- telling

choosing-telling : (h : Choosing) (es : List Rules) → Chooses h es → EachNumber IsRegular es → TellingLaws (choosing_rules h es)
unfolding choosing_rules
choosing-telling h es c w = record {
  enough = c.good;
  of_nothing = c.of_nothing;
  above_limit = c.above_limit;
  aligned = least-is-alignment es (λ j. (w j).telling);
  facts_count = λ s cells. ap suc (facts-of_each es (λ i. (w i).telling) 0 s cells);
  numbers_count = λ fs. ap suc (numbers-of_each es (λ i. (w i).telling) 0 fs);
  route_depth = λ b s. let i = h.chosen b.len in omega (arith, route-of_member es (λ i. (w i).telling) i (chosen_down h b) (child s i));
}

-- ---- reading

asks-unread : (h : Choosing) (es : List Rules) → EachNumber UnrangedLaws es → (b : Block) (s : State) → AsksUnread (choosing_rules h es).owns b s
unfolding choosing_rules
asks-unread h es w b s =
    let i = h.chosen b.len in
    let c = chosen_down h b in
    let r = asks-child_if (λ d t. may_hold b t && h.fits b.len) i (λ d. (nth es i).owns c) b s (ap (λ x. x && h.fits b.len) (unread-may_hold b s)) (asks-below (nth es i) (w i).reading c b (child s i)) in
    record { owned = r.owned; state = r.state }

choosing-holds : (h : Choosing) (es : List Rules) → EachNumber UnrangedLaws es → (b : Block) (s : State) → choose_holds h es b (unread s) ≡ choose_holds h es b s
choosing-holds h es w b s =
    let i = h.chosen b.len in
    ap₂ (λ x y. x && (h.fits b.len && y)) (unread-may_hold b s) (told-child ((nth es i).holds (chosen_down h b)) s i (λ t. (w i).reading.holds (chosen_down h b) t))

choosing-owns_at : (h : Choosing) (es : List Rules) → EachNumber UnrangedLaws es → (path : List ℕ) (possible : Bool) (b : Block) (s : State) → choose_owns_at h es path possible b (unread s) ≡ choose_owns_at h es path possible b s
choosing-owns_at h es w [] possible b s = ap (at_end (offers_of_all es).owns possible) (choosing-holds h es w b s)
choosing-owns_at h es w (i ∷ path) possible b s =
    let able = possible && (is_served_size b.len && h.fits b.len) in
    let c = chosen_down h b in
    ap (into_member es i) (told-child ((nth es i).owns_at path able c) s i (λ t. (w i).reading.owns_at path able c t))

choosing-reading : (h : Choosing) (es : List Rules) → EachNumber UnrangedLaws es → ReadingLaws (choosing_rules h es)
unfolding choosing_rules
choosing-reading h es w = record {
  opens_as_fields = λ fs bytes. set-up-opens fs _ _;
  read = λ fs x y. unread-if_set_up fs nothing nothing (read_each es 0 fs x) (read_each es 0 fs y) refl (unread-read_each es 0 fs x y (λ i. (w i).reading));
  holds = choosing-holds h es w;
  route = λ b s. let i = h.chosen b.len in ap (λ r. i ∷ r) (told-child ((nth es i).route (chosen_down h b)) s i (λ t. (w i).reading.route (chosen_down h b) t));
  routed = λ b s. let i = h.chosen b.len in ap (λ x. is_plausible b && (h.fits b.len && x)) (told-child ((nth es i).is_routed (chosen_down h b)) s i (λ t. (w i).reading.routed (chosen_down h b) t));
  extent = λ b s. let i = h.chosen b.len in ap (λ x. cond (h.fits b.len) x no_block) (told-child ((nth es i).extent (chosen_down h b)) s i (λ t. (w i).reading.extent (chosen_down h b) t));
  owns_at = choosing-owns_at h es w;
  owned = λ b s. (asks-unread h es w b s).owned;
  owns = λ b s. (asks-unread h es w b s).state;
}

-- ---- refusing

keeps-choose_serve : (q : Bool) (shown : Block → Block) (i : ℕ) (serve : Serve) → KeepsOnNone serve → KeepsOnNone (choose_serve q shown i serve)
keeps-choose_serve true shown i serve k s cells = keeps-serve_member shown i serve k s cells
keeps-choose_serve false shown i serve k s cells = keeps-refuse s cells

keeps-choose_growth : (q : Bool) (i : ℕ) (change : Change) → KeepsOnFalse change → KeepsOnFalse (choose_growth q i change)
keeps-choose_growth true i change k b s cells e = absurd (cc)
keeps-choose_growth false i change k b s cells e = keeps-change_child i change k b s cells e

keeps-choose_allocate : (h : Choosing) (es : List Rules) → EachNumber UnrangedLaws es → (n : ℕ) → KeepsOnNone (choose_allocate h es n)
keeps-choose_allocate h es w n =
    let i = h.chosen n in
    keeps-asked_for n _ (keeps-choose_serve (h.fits n) (h.shown n) i ((nth es i).allocate (h.asked n)) ((w i).refused.allocate (h.asked n)))

keeps-choose_aligned : (h : Choosing) (es : List Rules) → EachNumber UnrangedLaws es → (n a : ℕ) → KeepsOnNone ((choosing_rules h es).aligned_allocate n a)
unfolding choosing_rules
keeps-choose_aligned h es w n a =
    let i = h.chosen n in
    keeps-asked_for n _ (keeps-choose_serve (h.fits n) (h.shown n) i ((nth es i).aligned_allocate (h.asked n) a) ((w i).refused.aligned_allocate (h.asked n) a))

keeps-choose_expand : (h : Choosing) (es : List Rules) → EachNumber UnrangedLaws es → (delta : ℕ) → KeepsOnFalse (choose_expand h es delta)
keeps-choose_expand h es w delta b s cells =
    keeps-asked_to_expand delta _ (λ b s cells.
    let i = h.chosen b.len in
    let less = h.asked b.len in
    let more = h.asked (b.len + delta) in
    keeps-change_if (have_one_member h b.len (b.len + delta)) (choose_growth (nat_eq less more) i ((nth es i).expand (more - less)))
    (keeps-choose_growth (nat_eq less more) i ((nth es i).expand (more - less)) ((w i).refused.expand (more - less))) (chosen_down h b) s cells) b s cells

unmoved-shown_by : (shown : Block → Block) (r : Reallocated) → shown_by shown r ≡ unmoved → r ≡ unmoved
unmoved-shown_by shown (moved_to b) e = absurd (cc)
unmoved-shown_by shown emptied e = absurd (cc)
unmoved-shown_by shown unmoved e = refl

keeps-choose_within : (h : Choosing) (es : List Rules) → EachNumber UnrangedLaws es → (n : ℕ) → KeepsUnmoved (choose_within h es n)
keeps-choose_within h es w n b s cells e =
    let i = h.chosen b.len in
    let move = (nth es i).reallocate (h.asked n) in
    let r = reallocate_child i move (chosen_down h b) s cells in
    keeps-reallocate_child i move ((w i).refused.reallocate (h.asked n)) (chosen_down h b) s cells (unmoved-shown_by (h.shown n) r.answer e)

keeps-choose_reallocate : (h : Choosing) (es : List Rules) → EachNumber UnrangedLaws es → (n : ℕ) → KeepsUnmoved ((choosing_rules h es).reallocate n)
unfolding choosing_rules
keeps-choose_reallocate h es w n b s cells =
    keeps-asked_to_reallocate n (choose_deallocate h es) _ (λ b s cells.
    let within = either_reallocate (nat_eq (h.asked n) (h.asked b.len)) (in_place n) (choose_within h es n) in
    let general = general_reallocate n (offers_of_all es) (choose_expand h es) (choose_allocate h es n) (choose_deallocate h es) in
    keeps-either_reallocate (h.fits n) (either_reallocate (have_one_member h b.len n) within general) stay
    (keeps-either_reallocate (have_one_member h b.len n) within general
    (keeps-either_reallocate (nat_eq (h.asked n) (h.asked b.len)) (in_place n) (choose_within h es n) (keeps-in_place n) (keeps-choose_within h es w n))
    (keeps-general_reallocate n (offers_of_all es) (choose_expand h es) (choose_allocate h es n) (choose_deallocate h es) (λ d. keeps-choose_expand h es w d) (keeps-choose_allocate h es w n)))
    keeps-stay b s cells) b s cells

-- a length is asked of its member as one that is at least as long, so at least 1 byte
asked-some : (h : Choosing) (es : List Rules) → Chooses h es → (n : ℕ) → h.fits n ≡ true → 1 ≤ n → 1 ≤ h.asked n
asked-some h es c n f l = let k = c.enough n f in omega arith

none-case : (h : Choosing) (es : List Rules) → Chooses h es → (n : ℕ) (serve : Serve) (s : State) (cells : Cells) (q x : Bool) → h.fits n ≡ q → 1 ≤ n → is_refusal (serve (child s (h.chosen n)) cells) ≡ (nat_eq (h.asked n) 0 || x)
    → is_refusal (choose_serve q (h.shown n) (h.chosen n) serve s cells) ≡ (not q || x)
none-case h es c n serve s cells true x f l e = none-member (h.shown n) (h.chosen n) (h.asked n) serve s cells x (asked-some h es c n f l) e
none-case h es c n serve s cells false x f l e = refl

-- the tails of the member with this number
tails-member : (es : List Rules) (i : ℕ) (s : State) → have_free_tails es 0 s ≡ true → (nth es i).has_free_tails (child s i) ≡ true
tails-member es i s t = rw zero-add at (tails-at es 0 i s t)

choosing-none : (h : Choosing) (es : List Rules) → Chooses h es → EachNumber IsRegular es → (n : ℕ) (s : State) (cells : Cells) → (choosing_rules h es).has_free_tails s ≡ true
    → is_none ((choosing_rules h es).allocate n s cells).answer ≡ (nat_eq n 0 || (choosing_rules h es).refuses n s cells)
unfolding choosing_rules
choosing-none h es c w n s cells t =
    let i = h.chosen n in
    let e = nth es i in
    let z = not (h.fits n) || e.refuses (h.asked n) (child s i) cells in
    none-asked_for n (choose_serve (h.fits n) (h.shown n) i (e.allocate (h.asked n))) s cells z (λ l m.
    none-case h es c n (e.allocate (h.asked n)) s cells (h.fits n) (e.refuses (h.asked n) (child s i) cells) refl l ((w i).refusing.none (h.asked n) (child s i) cells (tails-member es i s t)))

choosing-none_aligned : (h : Choosing) (es : List Rules) → Chooses h es → EachNumber IsRegular es → (n a : ℕ) (s : State) (cells : Cells)
    → is_none ((choosing_rules h es).aligned_allocate n a s cells).answer ≡ (nat_eq n 0 || (choosing_rules h es).refuses_aligned n a s cells)
unfolding choosing_rules
choosing-none_aligned h es c w n a s cells =
    let i = h.chosen n in
    let e = nth es i in
    let z = not (h.fits n) || e.refuses_aligned (h.asked n) a (child s i) cells in
    none-asked_for n (choose_serve (h.fits n) (h.shown n) i (e.aligned_allocate (h.asked n) a)) s cells z (λ l m.
    none-case h es c n (e.aligned_allocate (h.asked n) a) s cells (h.fits n) (e.refuses_aligned (h.asked n) a (child s i) cells) refl l ((w i).refusing.none_aligned (h.asked n) a (child s i) cells))

choosing-free_tails : (h : Choosing) (es : List Rules) → EachNumber UnrangedLaws es → (s : State) (cells : Cells) → IsSettled (choosing_rules h es) s cells → (choosing_rules h es).has_free_tails s ≡ true
unfolding choosing_rules
choosing-free_tails h es w closed cells z = tails-from es 0 closed (λ j l. (w j).tails.shut)
choosing-free_tails h es w (open_with own ss) cells z =
    let p = group-parts es (open_with own ss) cells z in
    tails-from es 0 (open_with own ss) (λ j l. rw zero-add ((w j).refused.free_tails (child (open_with own ss) j) cells (p.settled j l)))

choosing-refused : (h : Choosing) (es : List Rules) → EachNumber UnrangedLaws es → RefusedLaws (choosing_rules h es)
unfolding choosing_rules
choosing-refused h es w = record {
  allocate = keeps-choose_allocate h es w;
  aligned_allocate = keeps-choose_aligned h es w;
  expand = keeps-choose_expand h es w;
  reallocate = keeps-choose_reallocate h es w;
  free_tails = choosing-free_tails h es w;
  refuses_uncounted = λ n s t cells q.
      let i = h.chosen n in
      ap (λ x. over_limit_or n (not (h.fits n) || x)) ((w i).refused.refuses_uncounted (h.asked n) (child s i) (child t i) cells (same-child s t i q));
  refuses_aligned_uncounted = λ n a s t cells q.
      let i = h.chosen n in
      ap (λ x. over_limit_or n (not (h.fits n) || x)) ((w i).refused.refuses_aligned_uncounted (h.asked n) a (child s i) (child t i) cells (same-child s t i q));
  free_tails_uncounted = λ s t q. tails-uncounted es 0 s t (λ i. (w i).refused) q;
}

choosing-refusing : (h : Choosing) (es : List Rules) → Chooses h es → EachNumber IsRegular es → RefusedLaws (choosing_rules h es) → RefusingLaws (choosing_rules h es)
choosing-refusing h es c w k = refused-refusing (choosing_rules h es) k (choosing-none h es c w) (choosing-none_aligned h es c w)

-- ---- tails

tails-choose_serve : (es : List Rules) (q : Bool) (shown : Block → Block) (i : ℕ) (serve : Serve) (s : State) (cells : Cells) → have_free_tails es 0 s ≡ true → (nth es i).has_free_tails (serve (child s i) cells).state ≡ true
    → have_free_tails es 0 (choose_serve q shown i serve s cells).state ≡ true
tails-choose_serve es true shown i serve s cells h k = tails-with_child es s i (serve (child s i) cells).state h k
tails-choose_serve es false shown i serve s cells h k = h

tails-served_unless : (es : List Rules) (x y : Bool) (serve : Serve) (s : State) (cells : Cells) → have_free_tails es 0 s ≡ true → have_free_tails es 0 (serve s cells).state ≡ true → have_free_tails es 0 (served_unless x y serve s cells).state ≡ true
tails-served_unless es true y serve s cells h k = h
tails-served_unless es false true serve s cells h k = h
tails-served_unless es false false serve s cells h k = k

choosing-tails : (h : Choosing) (es : List Rules) → EachNumber UnrangedLaws es → TailLaws (choosing_rules h es)
unfolding choosing_rules
choosing-tails h es w = record {
  shut = tails-from es 0 closed (λ j l. (w j).tails.shut);
  allocate = λ n s cells t.
      let i = h.chosen n in
      let serve = (nth es i).allocate (h.asked n) in
      tails-served_unless es (nat_eq n 0) (nat_lt limit n) (choose_serve (h.fits n) (h.shown n) i serve) s cells t
      (tails-choose_serve es (h.fits n) (h.shown n) i serve s cells t ((w i).tails.allocate (h.asked n) (child s i) cells (tails-member es i s t)));
  set_up = λ need cells o q.
      let x = group-ok nothing (open_each es (h.need need) 0 1 cells) o q in
      subst (λ (p : Opened). have_free_tails es 0 p.state ≡ true) x.2 (tails-from es 0 (open_with nothing x.0.0) (λ j l. rw zero-add (tails-opened es (λ i. (w i).tails) (h.need need) 0 1 cells x.0 x.1 j l)));
}

-- ---- staying open

stays-choose_serve : (q : Bool) (shown : Block → Block) (i : ℕ) (serve : Serve) → StaysOpen (choose_serve q shown i serve)
stays-choose_serve true shown i serve s cells = stays-serve_member shown i serve s cells
stays-choose_serve false shown i serve s cells = refl

stays-choose_growth : (q : Bool) (i : ℕ) (change : Change) → StaysOpenBy (choose_growth q i change)
stays-choose_growth true i change b s cells = refl
stays-choose_growth false i change b s cells = stays-change_child i change b s cells

stays-choose_allocate : (h : Choosing) (es : List Rules) (n : ℕ) → StaysOpen (choose_allocate h es n)
stays-choose_allocate h es n = stays-asked_for n _ (stays-choose_serve (h.fits n) (h.shown n) (h.chosen n) ((nth es (h.chosen n)).allocate (h.asked n)))

stays-choose_expand : (h : Choosing) (es : List Rules) (delta : ℕ) → StaysOpenBy (choose_expand h es delta)
stays-choose_expand h es delta b s cells =
    stays-asked_to_expand delta _ (λ b s cells.
    let i = h.chosen b.len in
    let less = h.asked b.len in
    let more = h.asked (b.len + delta) in
    stays-change_if (have_one_member h b.len (b.len + delta)) (choose_growth (nat_eq less more) i ((nth es i).expand (more - less)))
    (stays-choose_growth (nat_eq less more) i ((nth es i).expand (more - less))) (chosen_down h b) s cells) b s cells

stays-choose_deallocate : (h : Choosing) (es : List Rules) → StaysOpenBy (choose_deallocate h es)
stays-choose_deallocate h es b s cells = stays-change_child (h.chosen b.len) (nth es (h.chosen b.len)).deallocate (chosen_down h b) s cells

stays-choose_within : (h : Choosing) (es : List Rules) (n : ℕ) → StaysOpenMoved (choose_within h es n)
stays-choose_within h es n b s cells = stays-reallocate_child (h.chosen b.len) ((nth es (h.chosen b.len)).reallocate (h.asked n)) (chosen_down h b) s cells

stays-choose_reallocate : (h : Choosing) (es : List Rules) (n : ℕ) → StaysOpenMoved ((choosing_rules h es).reallocate n)
unfolding choosing_rules
stays-choose_reallocate h es n b s cells =
    stays-asked_to_reallocate n (choose_deallocate h es) _ (stays-choose_deallocate h es) (λ b s cells.
    let within = either_reallocate (nat_eq (h.asked n) (h.asked b.len)) (in_place n) (choose_within h es n) in
    let general = general_reallocate n (offers_of_all es) (choose_expand h es) (choose_allocate h es n) (choose_deallocate h es) in
    stays-either_reallocate (h.fits n) (either_reallocate (have_one_member h b.len n) within general) stay
    (stays-either_reallocate (have_one_member h b.len n) within general
    (stays-either_reallocate (nat_eq (h.asked n) (h.asked b.len)) (in_place n) (choose_within h es n) (stays-in_place n) (stays-choose_within h es n))
    (stays-general_reallocate n (offers_of_all es) (choose_expand h es) (choose_allocate h es n) (choose_deallocate h es) (λ d. stays-choose_expand h es d) (stays-choose_allocate h es n) (stays-choose_deallocate h es)))
    stays-stay b s cells) b s cells

choosing-openness : (h : Choosing) (es : List Rules) → OpennessLaws (choosing_rules h es)
unfolding choosing_rules
choosing-openness h es = record {
  allocate = stays-choose_allocate h es;
  aligned_allocate = λ n a. stays-asked_for n _ (stays-choose_serve (h.fits n) (h.shown n) (h.chosen n) ((nth es (h.chosen n)).aligned_allocate (h.asked n) a));
  expand = stays-choose_expand h es;
  reallocate = stays-choose_reallocate h es;
  deallocate = stays-choose_deallocate h es;
  deallocate_all = λ s cells. stays-empty_each es 0 s cells;
  owns = λ b s. stays-owns_child_if (may_hold b s && h.fits b.len) (h.chosen b.len) (λ c. (nth es (h.chosen b.len)).owns (chosen_down h b)) b s;
  set_up = λ need cells o q. sets-group nothing (open_each es (h.need need) 0 1 cells) o q;
}

-- ---- owning

choosing-along : (h : Choosing) (es : List Rules) → EachNumber UnrangedLaws es → (path : List ℕ) (possible : Bool) (b : Block) (s : State) → choose_owns_at h es path possible b s ≡ yes_if possible (choose_owns_at h es path true b s)
choosing-along h es w [] possible b s = along-at_end (offers_of_all es).owns (choose_holds h es b s) possible
choosing-along h es w (i ∷ path) possible b s =
    let below = λ (x : Bool). (nth es i).owns_at path x (chosen_down h b) (child s i) in
    let fine = is_served_size b.len && h.fits b.len in
    along-into_member es i (λ x. below (x && fine)) (along-below fine below (λ x. (w i).owning.along path x (chosen_down h b) (child s i))) possible

choosing-by_path : (h : Choosing) (es : List Rules) → EachNumber UnrangedLaws es → (path : List ℕ) (b c : Block) (s : State) → choose_owns_at h es path false b s ≡ choose_owns_at h es path false c s
choosing-by_path h es w [] b c s = by_path-at_end (offers_of_all es).owns (choose_holds h es b s) (choose_holds h es c s)
choosing-by_path h es w (i ∷ path) b c s = ap (into_member es i) ((w i).owning.by_path path (chosen_down h b) (chosen_down h c) (child s i))

choosing-owning : (h : Choosing) (es : List Rules) → EachNumber UnrangedLaws es → OwningLaws (choosing_rules h es)
unfolding choosing_rules
choosing-owning h es w = record {
  answer = λ b s.
      let i = h.chosen b.len in
      let c = chosen_down h b in
      owned-child_both (may_hold b s) (h.fits b.len) i (λ d. (nth es i).owns c) b s ((nth es i).holds c (child s i)) ((w i).owning.answer c (child s i));
  rest = λ b s.
      let i = h.chosen b.len in
      steady-child_if (may_hold b s && h.fits b.len) i (λ d. (nth es i).owns (chosen_down h b)) b s ((w i).owning.rest (chosen_down h b) (child s i));
  not_owned = λ b s.
      let i = h.chosen b.len in
      not_owned-child_if (may_hold b s && h.fits b.len) i (λ d. (nth es i).owns (chosen_down h b)) b s ((w i).owning.not_owned (chosen_down h b) (child s i));
  holds_uncounted = λ b s t q.
      let i = h.chosen b.len in
      ap₂ (λ x y. x && (h.fits b.len && y)) (same-may_hold b s t q) ((w i).owning.holds_uncounted (chosen_down h b) (child s i) (child t i) (same-child s t i q));
  open_holds = λ b s o. open-may_hold b s (h.fits b.len && (nth es (h.chosen b.len)).holds (chosen_down h b) (child s (h.chosen b.len))) o;
  held_size = λ b s o. size-may_hold b s (h.fits b.len && (nth es (h.chosen b.len)).holds (chosen_down h b) (child s (h.chosen b.len))) o;
  along = choosing-along h es w;
  by_path = choosing-by_path h es w;
}

-- ---- taking

takes-choose_serve : (h : Choosing) (es : List Rules) (q : Bool) (shown : Block → Block) (i : ℕ) (serve : Serve) → TakesOwn (nth es i) serve → TakesOwn (choosing_rules h es) (choose_serve q shown i serve)
unfolding choosing_rules
takes-choose_serve h es true shown i serve k = takes-serve_member (nth es i) (choosing_rules h es) shown i serve (λ t l. leaf-in es i t l) k
takes-choose_serve h es false shown i serve k = takes-refuse (choosing_rules h es)

pub choosing-taking : (h : Choosing) (es : List Rules) → EachNumber UnrangedLaws es → TakingLaws (choosing_rules h es)
unfolding choosing_rules
choosing-taking h es w = record {
  allocate = λ n.
      let i = h.chosen n in
      takes-asked_for (choosing_rules h es) n _ (takes-choose_serve h es (h.fits n) (h.shown n) i ((nth es i).allocate (h.asked n)) ((w i).taking.allocate (h.asked n)));
  aligned_allocate = λ n a.
      let i = h.chosen n in
      takes-asked_for (choosing_rules h es) n _ (takes-choose_serve h es (h.fits n) (h.shown n) i ((nth es i).aligned_allocate (h.asked n) a) ((w i).taking.aligned_allocate (h.asked n) a));
  set_up = λ need cells. took-group (choosing_rules h es) nothing (open_each es (h.need need) 0 1 cells) cells (took-each (choosing_rules h es) es (λ t l. l) (λ i. (w i).taking) (h.need need) 0 1 cells);
  deallocate_count = λ b s cells. let i = h.chosen b.len in (w i).taking.deallocate_count (chosen_down h b) (child s i) cells;
  deallocate_all_count = λ s cells. count-empty_each es (λ i. (w i).taking) 0 s cells;
  names_a_node = λ need cells k q. let v = refuses-each es (λ i. (w i).taking) (h.need need) 0 1 cells k (group-refuses nothing _ k q) in omega arith;
}

-- ---- the whole

-- whatever it chooses
pub choosing-unranged : (h : Choosing) (es : List Rules) → EachMember UnrangedLaws es → UnrangedLaws (choosing_rules h es)
choosing-unranged h es each =
    let w = all-unranged es each in
    record {
      reading = choosing-reading h es w;
      refused = choosing-refused h es w;
      tails = choosing-tails h es w;
      openness = choosing-openness h es;
      owning = choosing-owning h es w;
      taking = choosing-taking h es w;
    }

pub choosing-regular : ChoosingIsRegular
choosing-regular h es c each =
    let w = all-regular es each in
    let u = choosing-unranged h es (λ i l. regular-unranged (nth es i) (each i l)) in
    unranged-regular (choosing_rules h es) u (choosing-telling h es c w) (choosing-refusing h es c w u.refused)
