-- A free list is regular over a regular parent.
use Rattle.std.proofs.Common.{◌≡◌, refl, ap, subst, ◌∙◌, ℕ, suc, ◌+◌, ◌≤◌, Bool, true, false, ◌&&◌, ◌||◌, arith, List, [], ◌∷◌, Option, Some, cond, nat_eq, nat_lt, length}
use Rattle.std.proofs.lemmas.Bool.Decides.{nat_tests}
use Rattle.size_round.specs.Sizes.{is_between, limit}
use Rattle.space_core.specs.Cells.{Cells}
use Rattle.layer_rules.specs.declared.Block.{Block}
use Rattle.layer_rules.specs.Blocks.{block}
use Rattle.layer_rules.specs.State.{State, Own, closed, open_with, no_children, child_and, cache_own, is_open, child, cached_of, with_child, with_own}
use Rattle.layer_rules.specs.Fields.{child_fields}
use Rattle.layer_rules.specs.Unread.{unread}
use Rattle.layer_rules.specs.After.{After, after, placed, Placed, Serve, Change, Opened}
use Rattle.layer_rules.specs.Allocating.{truncated, serve_parent, served_unless}
use Rattle.layer_rules.specs.Deallocating.{emptied_child}
use Rattle.layer_rules.specs.Expanding.{expand_by_lack}
use Rattle.layer_rules.specs.Offering.{is_served_size}
use Rattle.layer_rules.specs.Owning.{is_plausible, may_hold, at_end, into_parent}
use Rattle.layer_rules.specs.Rules.{Rules, IsSettled}
use Rattle.layer_laws.proofs.GoodSizes.{served-enough, unserved-zero, unserved-above}
use Rattle.layer_laws.specs.Lawful.{TellingLaws, ReadingLaws, RefusingLaws, RefusedLaws, UnrangedLaws, TailLaws, OpennessLaws, OwningLaws, TakingLaws, IsRegular, KeptOnNone, KeepsOnNone, OnlyOwnCells, yes_if}
use Rattle.layer_laws.proofs.Steps.{parent-ok, parent-refuses}
use Rattle.layer_laws.proofs.Tests.{set-up-opens, takes-none}
use Rattle.layer_laws.proofs.Uncounting.{same-child, same-cached}
use Rattle.layer_laws.proofs.StayingOpen.{open-own, open-child, StayedOpen, StaysOpen, StaysOpenBy, stays-refuse, stays-asked_for, stays-serve_parent, stays-asked_to_expand, stays-expand_by_lack, stays-asked_to_reallocate, stays-general_reallocate, stays-emptied_child, stays-own_instead, stays-owns_child_if, sets-parent}
use Rattle.layer_laws.proofs.Requests.{keeps-refuse, keeps-asked_for, keeps-serve_parent, is_refusal, none-asked_for, none-refuse, none-parent}
use Rattle.layer_laws.proofs.Reallocations.{keeps-asked_to_expand, keeps-expand_by_lack, keeps-asked_to_reallocate, keeps-general_reallocate}
use Rattle.layer_laws.proofs.Takings.{TakesOwn, takes-refuse, takes-asked_for, takes-serve_parent, HasLeavesOf, took-wider, took-parent}
use Rattle.layer_laws.proofs.Owners.{held-same, AsksUnread, owned-child, open-may_hold, size-may_hold, not_owned-child_if, steady-child_if, asks-below, asks-child_if}
use Rattle.layer_laws.proofs.Unranged.{regular-unranged, refused-refusing, unranged-regular}
use Rattle.layer_laws.proofs.Unreading.{told-child, unread-may_hold, unread-over_parent}
use Rattle.layer_laws.proofs.Paths.{along-at_end, along-below, along-into_parent, by_path-at_end}
use Rattle.free_list_rules.specs.FreeListRules.{cache_size, cache_down, cache_need, cache_allocate, cache_deallocate, cache_expand, cache_is_empty, is_empty, cache_holds, cache_owns_at, free_list_allocate, free_list_offers, free_list_rules}
use Rattle.free_list_rules.proofs.CacheParts.{cache-opened}

-- ---- telling

range-case : (least greatest n m : ℕ) (b : Bool) → is_between least greatest n ≡ b → n ≤ m → n ≤ elim b as (λ _. ℕ) [ true ↦ greatest | false ↦ m ]
range-case least greatest n m true e h = grind (arith, nat_tests)
range-case least greatest n m false e h = h

pub free_list-telling : (least greatest : ℕ) (e : Rules) → TellingLaws e → TellingLaws (free_list_rules least greatest e)
unfolding free_list_rules
free_list-telling least greatest e p =
    let g = λ (m : ℕ). elim (is_between least greatest m) as (λ _. ℕ) [ true ↦ greatest | false ↦ e.good_alloc_size m ] in
    record {
      enough = λ n. served-enough g n (range-case least greatest n (e.good_alloc_size n) (is_between least greatest n) refl (p.enough n));
      of_nothing = unserved-zero g;
      above_limit = unserved-above g;
      aligned = p.aligned;
      facts_count = λ s cells. ap suc (p.facts_count (child s 0) cells);
      numbers_count = λ fs. ap suc (p.numbers_count (child_fields fs 0));
      route_depth = λ b s. omega (arith, p.route_depth (cache_down least greatest b) (child s 0));
    }

-- ---- reading

both-same : (a b c d : Bool) → a ≡ b → c ≡ d → (a && c) ≡ (b && d)
both-same a b c d h k = cc

holds-unread : (least greatest : ℕ) (e : Rules) → ReadingLaws e → (b : Block) (s : State) → cache_holds least greatest e b (unread s) ≡ cache_holds least greatest e b s
holds-unread least greatest e p b s =
    let c = cache_down least greatest b in
    both-same (may_hold b (unread s)) (may_hold b s) (e.holds c (child (unread s) 0)) (e.holds c (child s 0)) (unread-may_hold b s) (told-child (e.holds c) s 0 (p.holds c))

owns_at-unread : (least greatest : ℕ) (e : Rules) → ReadingLaws e → (path : List ℕ) (possible : Bool) (b : Block) (s : State) → cache_owns_at least greatest e path possible b (unread s) ≡ cache_owns_at least greatest e path possible b s
owns_at-unread least greatest e p [] possible b s = ap (at_end e.offers.owns possible) (holds-unread least greatest e p b s)
owns_at-unread least greatest e p (i ∷ path) possible b s =
    let c = cache_down least greatest b in
    ap (into_parent i) (told-child (e.owns_at path (possible && is_served_size b.len) c) s 0 (p.owns_at path (possible && is_served_size b.len) c))

owns-unread : (least greatest : ℕ) (e : Rules) → ReadingLaws e → (b : Block) (s : State) → AsksUnread (free_list_rules least greatest e).owns b s
unfolding free_list_rules
owns-unread least greatest e p b s =
    let c = cache_down least greatest b in
    let r = asks-child_if may_hold 0 (λ d. e.owns c) b s (unread-may_hold b s) (asks-below e p c b (child s 0)) in
    record { owned = r.owned; state = r.state }

pub free_list-reading : (least greatest : ℕ) (e : Rules) → ReadingLaws e → ReadingLaws (free_list_rules least greatest e)
unfolding free_list_rules
free_list-reading least greatest e p =
    record {
      opens_as_fields = λ fs bytes. set-up-opens fs _ _;
      read = λ fs x y. unread-over_parent fs _ _ (e.read (child_fields fs 0) x) (e.read (child_fields fs 0) y) refl (p.read (child_fields fs 0) x y);
      holds = holds-unread least greatest e p;
      route = λ b s. let c = cache_down least greatest b in ap (λ r. 0 ∷ r) (told-child (e.route c) s 0 (p.route c));
      routed = λ b s. let c = cache_down least greatest b in ap (λ z. is_plausible b && z) (told-child (e.is_routed c) s 0 (p.routed c));
      extent = λ b s. let c = cache_down least greatest b in told-child (e.extent c) s 0 (p.extent c);
      owns_at = owns_at-unread least greatest e p;
      owned = λ b s. (owns-unread least greatest e p b s).owned;
      owns = λ b s. (owns-unread least greatest e p b s).state;
    }

-- ---- refusing

-- the front of these places, and else what serves
abbrev Front : (n : ℕ) (route_of : ℕ → List ℕ) (serve : Serve) → State → Cells → List ℕ → After (Option Placed)
Front n route_of serve s cells ps = elim ps [ [] ↦ serve s cells | p ∷ qs ↦ after (Some (placed (block p n) (0 ∷ route_of p))) (with_own s (cache_own qs)) cells ]

front-keeps : (n : ℕ) (route_of : ℕ → List ℕ) (serve : Serve) (s : State) (cells : Cells) (ps : List ℕ) → KeptOnNone s cells (serve s cells) → KeptOnNone s cells (Front n route_of serve s cells ps)
front-keeps n route_of serve s cells [] k = k
front-keeps n route_of serve s cells (p ∷ ps) k = λ q. absurd (cc)

keeps-cache_allocate : (is_cached : Bool) (n : ℕ) (route_of : State → ℕ → List ℕ) (whole exact : Serve) → KeepsOnNone whole → KeepsOnNone exact → KeepsOnNone (cache_allocate is_cached n route_of whole exact)
keeps-cache_allocate true n route_of whole exact k l = λ s cells. front-keeps n (route_of s) (serve_parent (truncated n) whole) s cells (cached_of s) (keeps-serve_parent (truncated n) whole k s cells)
keeps-cache_allocate false n route_of whole exact k l = keeps-serve_parent (λ b. b) exact l

front-none : (n : ℕ) (route_of : ℕ → List ℕ) (serve : Serve) (s : State) (cells : Cells) (z : Bool) (ps : List ℕ) → is_refusal (serve s cells) ≡ z → is_refusal (Front n route_of serve s cells ps) ≡ (is_empty ps && z)
front-none n route_of serve s cells z [] h = h
front-none n route_of serve s cells z (p ∷ ps) h = refl

none-cache_allocate : (is_cached : Bool) (m n : ℕ) (route_of : State → ℕ → List ℕ) (whole exact : Serve) (s : State) (cells : Cells) (x y : Bool) → (is_cached ≡ true → 1 ≤ m) → 1 ≤ n
    → is_refusal (whole (child s 0) cells) ≡ (nat_eq m 0 || x) → is_refusal (exact (child s 0) cells) ≡ (nat_eq n 0 || y)
    → is_refusal (cache_allocate is_cached n route_of whole exact s cells) ≡ cond is_cached (cache_is_empty s && x) y
none-cache_allocate true m n route_of whole exact s cells x y l o h k =
    front-none n (route_of s) (serve_parent (truncated n) whole) s cells x (cached_of s) (none-parent (truncated n) m whole s cells x (l refl) h)
none-cache_allocate false m n route_of whole exact s cells x y l o h k = none-parent (λ b. b) n exact s cells y o k

settled-tails : (least greatest : ℕ) (e : Rules) → TailLaws e → RefusedLaws e → (s : State) (cells : Cells) → IsSettled (free_list_rules least greatest e) s cells → e.has_free_tails (child s 0) ≡ true
unfolding free_list_rules
settled-tails least greatest e w p closed cells h = w.shut
settled-tails least greatest e w p (open_with own ss) cells h = p.free_tails (child (open_with own ss) 0) cells (cache-opened least greatest e (open_with own ss) cells refl h).below

pub free_list-refused : (least greatest : ℕ) (e : Rules) → TailLaws e → RefusedLaws e → RefusedLaws (free_list_rules least greatest e)
unfolding free_list_rules
free_list-refused least greatest e w p =
    let serve = λ (n : ℕ). cache_allocate (is_between least greatest n) n (λ s p. e.route (block p greatest) (child s 0)) (e.allocate greatest) (e.allocate n) in
    let allocates = λ (n : ℕ). keeps-asked_for n (serve n) (keeps-cache_allocate (is_between least greatest n) n (λ s p. e.route (block p greatest) (child s 0)) (e.allocate greatest) (e.allocate n) (p.allocate greatest) (p.allocate n)) in
    let expands = λ (d : ℕ). keeps-asked_to_expand d (λ b. expand_by_lack (cache_size least greatest b.len) (cache_size least greatest (b.len + d)) e.expand (cache_down least greatest b))
    (λ b. keeps-expand_by_lack (cache_size least greatest b.len) (cache_size least greatest (b.len + d)) e.expand p.expand (cache_down least greatest b)) in
    let give = cache_deallocate least greatest e.deallocate in
    record {
      allocate = allocates;
      aligned_allocate = λ n a. keeps-refuse;
      expand = expands;
      reallocate = λ n. keeps-asked_to_reallocate n give _ (keeps-general_reallocate n (free_list_offers e.offers) (cache_expand least greatest e.expand) (free_list_allocate least greatest e n) give expands (allocates n));
      free_tails = settled-tails least greatest e w p;
      refuses_uncounted = λ n s t cells q.
          rw (same-cached s t q, p.refuses_uncounted greatest (child s 0) (child t 0) cells (same-child s t 0 q), p.refuses_uncounted n (child s 0) (child t 0) cells (same-child s t 0 q)) refl;
      refuses_aligned_uncounted = λ n a s t cells q. refl;
      free_tails_uncounted = λ s t q. p.free_tails_uncounted (child s 0) (child t 0) (same-child s t 0 q);
    }

-- a range with a length of at least 1 byte has such a greatest one
greatest-some : (least greatest n : ℕ) → 1 ≤ n → is_between least greatest n ≡ true → 1 ≤ greatest
greatest-some least greatest n l h = grind (arith, nat_tests)

pub free_list-refusing : (least greatest : ℕ) (e : Rules) → RefusingLaws e → RefusedLaws (free_list_rules least greatest e) → RefusingLaws (free_list_rules least greatest e)
unfolding free_list_rules
free_list-refusing least greatest e p k =
    let serve = λ (n : ℕ). cache_allocate (is_between least greatest n) n (λ s p. e.route (block p greatest) (child s 0)) (e.allocate greatest) (e.allocate n) in
    refused-refusing (free_list_rules least greatest e) k
    (λ n s cells t. none-asked_for n (serve n) s cells _ (λ l m.
    none-cache_allocate (is_between least greatest n) greatest n (λ s p. e.route (block p greatest) (child s 0)) (e.allocate greatest) (e.allocate n) s cells (e.refuses greatest (child s 0) cells) (e.refuses n (child s 0) cells)
    (greatest-some least greatest n l) l (p.none greatest (child s 0) cells t) (p.none n (child s 0) cells t)))
    (λ n a s cells. none-refuse n)

-- ---- the parent's tails

-- those of the parent are free
abbrev Free : Rules → State → Type 0
Free e s = e.has_free_tails (child s 0) ≡ true

free-child : (e : Rules) (s t : State) → Free e s → e.has_free_tails t ≡ true → Free e (with_child s 0 t)
free-child e closed t h k = h
free-child e (open_with own no_children) t h k = h
free-child e (open_with own (child_and u ss)) t h k = k

free-own : (e : Rules) (s : State) (own : Own) → Free e s → Free e (with_own s own)
free-own e closed own h = h
free-own e (open_with old ss) own h = h

-- so a request leaves them
abbrev KeepsFree : Rules → Serve → Type 0
KeepsFree e serve = (s : State) (cells : Cells) → Free e s → Free e (serve s cells).state

parent-frees : (e : Rules) (shown : Block → Block) (n : ℕ) → TailLaws e → KeepsFree e (serve_parent shown (e.allocate n))
parent-frees e shown n p s cells h = free-child e s (e.allocate n (child s 0) cells).state h (p.allocate n (child s 0) cells h)

front-frees : (e : Rules) (n : ℕ) (route_of : ℕ → List ℕ) (serve : Serve) (s : State) (cells : Cells) (ps : List ℕ) → KeepsFree e serve → Free e s → Free e (Front n route_of serve s cells ps).state
front-frees e n route_of serve s cells [] k h = k s cells h
front-frees e n route_of serve s cells (p ∷ ps) k h = free-own e s (cache_own ps) h

cache-frees : (e : Rules) (is_cached : Bool) (m n : ℕ) (route_of : State → ℕ → List ℕ) → TailLaws e → KeepsFree e (cache_allocate is_cached n route_of (e.allocate m) (e.allocate n))
cache-frees e true m n route_of p s cells h = front-frees e n (route_of s) (serve_parent (truncated n) (e.allocate m)) s cells (cached_of s) (parent-frees e (truncated n) m p) h
cache-frees e false m n route_of p s cells h = parent-frees e (λ b. b) n p s cells h

unless-frees : (e : Rules) (empty too_long : Bool) (serve : Serve) → KeepsFree e serve → KeepsFree e (served_unless empty too_long serve)
unless-frees e true too_long serve k s cells h = h
unless-frees e false true serve k s cells h = h
unless-frees e false false serve k s cells h = k s cells h

pub free_list-tails : (least greatest : ℕ) (e : Rules) → TailLaws e → TailLaws (free_list_rules least greatest e)
unfolding free_list_rules
free_list-tails least greatest e p =
    record {
      shut = p.shut;
      allocate = λ n. unless-frees e (nat_eq n 0) (nat_lt limit n) _ (cache-frees e (is_between least greatest n) greatest n (λ s p. e.route (block p greatest) (child s 0)) p);
      set_up = λ need cells o q.
          let y = parent-ok (cache_own []) (e.set_up (cache_need least greatest need) cells) o q in
          subst (λ (o : Opened). Free e o.state) y.2 (p.set_up (cache_need least greatest need) cells y.0 y.1);
    }

-- ---- staying open

front-open : (n : ℕ) (route_of : ℕ → List ℕ) (serve : Serve) (s : State) (cells : Cells) (ps : List ℕ) → StayedOpen s (serve s cells) → StayedOpen s (Front n route_of serve s cells ps)
front-open n route_of serve s cells [] k = k
front-open n route_of serve s cells (p ∷ ps) k = open-own s (cache_own ps)

stays-cache_allocate : (is_cached : Bool) (n : ℕ) (route_of : State → ℕ → List ℕ) (whole exact : Serve) → StaysOpen (cache_allocate is_cached n route_of whole exact)
stays-cache_allocate true n route_of whole exact = λ s cells. front-open n (route_of s) (serve_parent (truncated n) whole) s cells (cached_of s) (stays-serve_parent (truncated n) whole s cells)
stays-cache_allocate false n route_of whole exact = stays-serve_parent (λ b. b) exact

give-open : (parent : Change) (b : Block) (s : State) (cells : Cells) (q : Bool)
    → is_open (elim q as (λ _. After Bool) [ true ↦ after true (with_own s (cache_own (b.place ∷ cached_of s))) cells | false ↦ after (parent b (child s 0) cells).answer (with_child s 0 (parent b (child s 0) cells).state) (parent b (child s 0) cells).cells ]).state ≡ is_open s
give-open parent b s cells true = open-own s (cache_own (b.place ∷ cached_of s))
give-open parent b s cells false = open-child s 0 (parent b (child s 0) cells).state

stays-cache_deallocate : (least greatest : ℕ) (parent : Change) → StaysOpenBy (cache_deallocate least greatest parent)
stays-cache_deallocate least greatest parent b s cells = give-open parent b s cells (is_between least greatest b.len)

pub free_list-openness : (least greatest : ℕ) (e : Rules) → OpennessLaws (free_list_rules least greatest e)
unfolding free_list_rules
free_list-openness least greatest e =
    let serve = λ (n : ℕ). cache_allocate (is_between least greatest n) n (λ s p. e.route (block p greatest) (child s 0)) (e.allocate greatest) (e.allocate n) in
    let allocates = λ (n : ℕ). stays-asked_for n (serve n) (stays-cache_allocate (is_between least greatest n) n (λ s p. e.route (block p greatest) (child s 0)) (e.allocate greatest) (e.allocate n)) in
    let expands = λ (d : ℕ). stays-asked_to_expand d (λ b. expand_by_lack (cache_size least greatest b.len) (cache_size least greatest (b.len + d)) e.expand (cache_down least greatest b))
    (λ b. stays-expand_by_lack (cache_size least greatest b.len) (cache_size least greatest (b.len + d)) e.expand (cache_down least greatest b)) in
    let give = cache_deallocate least greatest e.deallocate in
    let gives = stays-cache_deallocate least greatest e.deallocate in
    record {
      allocate = allocates;
      aligned_allocate = λ n a. stays-refuse;
      expand = expands;
      reallocate = λ n. stays-asked_to_reallocate n give _ gives (stays-general_reallocate n (free_list_offers e.offers) (cache_expand least greatest e.expand) (free_list_allocate least greatest e n) give expands (allocates n) gives);
      deallocate = gives;
      deallocate_all = λ s cells. stays-own_instead (λ t. cache_own []) (emptied_child s 0 e.deallocate_all cells) ∙ stays-emptied_child s 0 e.deallocate_all cells;
      owns = λ b s. stays-owns_child_if (may_hold b s) 0 (λ c. e.owns (cache_down least greatest b)) b s;
      set_up = λ need cells. sets-parent (cache_own []) (e.set_up (cache_need least greatest need) cells);
    }

-- ---- owning

free_list-along : (least greatest : ℕ) (e : Rules) → OwningLaws e → (path : List ℕ) (possible : Bool) (b : Block) (s : State) → cache_owns_at least greatest e path possible b s ≡ yes_if possible (cache_owns_at least greatest e path true b s)
free_list-along least greatest e p [] possible b s = along-at_end e.offers.owns (cache_holds least greatest e b s) possible
free_list-along least greatest e p (i ∷ path) possible b s =
    let c = cache_down least greatest b in
    let below = λ (x : Bool). e.owns_at path x c (child s 0) in
    let fine = is_served_size b.len in
    along-into_parent i (λ x. below (x && fine)) (along-below fine below (λ x. p.along path x c (child s 0))) possible

free_list-by_path : (least greatest : ℕ) (e : Rules) → OwningLaws e → (path : List ℕ) (b c : Block) (s : State) → cache_owns_at least greatest e path false b s ≡ cache_owns_at least greatest e path false c s
free_list-by_path least greatest e p [] b c s = by_path-at_end e.offers.owns (cache_holds least greatest e b s) (cache_holds least greatest e c s)
free_list-by_path least greatest e p (i ∷ path) b c s = ap (into_parent i) (p.by_path path (cache_down least greatest b) (cache_down least greatest c) (child s 0))

pub free_list-owning : (least greatest : ℕ) (e : Rules) → OwningLaws e → OwningLaws (free_list_rules least greatest e)
unfolding free_list_rules
free_list-owning least greatest e p =
    record {
      answer = λ b s. let c = cache_down least greatest b in owned-child (may_hold b s) 0 (λ d. e.owns c) b s (e.holds c (child s 0)) (p.answer c (child s 0));
      rest = λ b s. let c = cache_down least greatest b in steady-child_if (may_hold b s) 0 (λ d. e.owns c) b s (p.rest c (child s 0));
      not_owned = λ b s. let c = cache_down least greatest b in not_owned-child_if (may_hold b s) 0 (λ d. e.owns c) b s (p.not_owned c (child s 0));
      open_holds = λ b s h. open-may_hold b s (e.holds (cache_down least greatest b) (child s 0)) h;
      held_size = λ b s h. size-may_hold b s (e.holds (cache_down least greatest b) (child s 0)) h;
      holds_uncounted = λ b s t q. let c = cache_down least greatest b in held-same b s t (e.holds c (child s 0)) (e.holds c (child t 0)) q (p.holds_uncounted c (child s 0) (child t 0) (same-child s t 0 q));
      along = free_list-along least greatest e p;
      by_path = free_list-by_path least greatest e p;
    }

-- ---- taking

front-takes : (f : Rules) (n : ℕ) (route_of : ℕ → List ℕ) (serve : Serve) (s : State) (cells : Cells) (ps : List ℕ) → OnlyOwnCells f cells (serve s cells).cells → OnlyOwnCells f cells (Front n route_of serve s cells ps).cells
front-takes f n route_of serve s cells [] k = k
front-takes f n route_of serve s cells (p ∷ ps) k = takes-none f cells

takes-cache_allocate : (e f : Rules) (is_cached : Bool) (n : ℕ) (route_of : State → ℕ → List ℕ) (whole exact : Serve) → HasLeavesOf f e → TakesOwn e whole → TakesOwn e exact → TakesOwn f (cache_allocate is_cached n route_of whole exact)
takes-cache_allocate e f true n route_of whole exact w k l =
    λ s cells. front-takes f n (route_of s) (serve_parent (truncated n) whole) s cells (cached_of s) (takes-serve_parent e f (truncated n) whole w k s cells)
takes-cache_allocate e f false n route_of whole exact w k l = takes-serve_parent e f (λ b. b) exact w l

-- as many cells as before where a block comes back
give-counts : (parent : Change) (b : Block) (s : State) (cells : Cells) (q : Bool) → length (parent b (child s 0) cells).cells.tags ≡ length cells.tags
    → length (elim q as (λ _. After Bool) [ true ↦ after true (with_own s (cache_own (b.place ∷ cached_of s))) cells | false ↦ after (parent b (child s 0) cells).answer (with_child s 0 (parent b (child s 0) cells).state) (parent b (child s 0) cells).cells ]).cells.tags ≡ length cells.tags
give-counts parent b s cells true h = refl
give-counts parent b s cells false h = h

pub free_list-taking : (least greatest : ℕ) (e : Rules) → TakingLaws e → TakingLaws (free_list_rules least greatest e)
unfolding free_list_rules
free_list-taking least greatest e p =
    let f = free_list_rules least greatest e in
    let w : HasLeavesOf f e = λ t l. l in
    record {
      allocate = λ n. takes-asked_for f n _
          (takes-cache_allocate e f (is_between least greatest n) n (λ s p. e.route (block p greatest) (child s 0)) (e.allocate greatest) (e.allocate n) w (p.allocate greatest) (p.allocate n));
      aligned_allocate = λ n a. takes-refuse f;
      set_up = λ need cells.
          let x = e.set_up (cache_need least greatest need) cells in took-parent f (cache_own []) x cells (took-wider e f cells x w (p.set_up (cache_need least greatest need) cells));
      names_a_node = λ need cells k h.
          let m = cache_need least greatest need in
          let q = parent-refuses (cache_own []) (e.set_up m cells) k e.nodes (λ j. p.names_a_node m cells j) h in omega arith;
      deallocate_count = λ b s cells. give-counts e.deallocate b s cells (is_between least greatest b.len) (p.deallocate_count b (child s 0) cells);
      deallocate_all_count = λ s cells. p.deallocate_all_count (child s 0) cells;
    }

-- ---- the families

pub free_list-unranged : (least greatest : ℕ) (e : Rules) → UnrangedLaws e → UnrangedLaws (free_list_rules least greatest e)
free_list-unranged least greatest e p =
    record {
      reading = free_list-reading least greatest e p.reading;
      refused = free_list-refused least greatest e p.tails p.refused;
      tails = free_list-tails least greatest e p.tails;
      openness = free_list-openness least greatest e;
      owning = free_list-owning least greatest e p.owning;
      taking = free_list-taking least greatest e p.taking;
    }

pub free_list-regular : (least greatest : ℕ) (e : Rules) → IsRegular e → IsRegular (free_list_rules least greatest e)
free_list-regular least greatest e p =
    let u = free_list-unranged least greatest e (regular-unranged e p) in
    unranged-regular (free_list_rules least greatest e) u (free_list-telling least greatest e p.telling) (free_list-refusing least greatest e p.refusing u.refused)
