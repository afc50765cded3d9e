-- A fallback is regular over two layers that are.
use Rattle.std.proofs.Common.{length-append, ◌≡◌, refl, sym, subst, ◌∙◌, ap, ap₂, ℕ, zero, suc, ◌+◌, ◌≤◌, ◌<◌, Bool, true, false, ◌&&◌, ◌||◌, cond, List, [], ◌∷◌, length, Ok, Err, arith, max}
use Rattle.std.proofs.lemmas.Bool.{and_from}
use Rattle.space_core.specs.Cells.{Cells}
use Rattle.layer_rules.specs.declared.Block.{Block}
use Rattle.layer_rules.specs.State.{State, closed, open_with, nothing, no_children, child_and, two_children, is_open, child, with_child, uncounted}
use Rattle.layer_rules.specs.Steady.{steady}
use Rattle.layer_rules.specs.Unread.{unread}
use Rattle.layer_rules.specs.Fields.{child_fields}
use Rattle.layer_rules.specs.After.{after, Serve, Opened, opened, Opening, Change, change_child, Reallocated, moved_to, emptied, unmoved, Reallocate, Reply, Owning}
use Rattle.layer_rules.specs.Allocating.{serve_member, over_limit_or}
use Rattle.layer_rules.specs.Deallocating.{emptied_child}
use Rattle.layer_rules.specs.Members.{nth}
use Rattle.layer_rules.specs.NullRules.{null_rules}
use Rattle.layer_rules.specs.Offering.{both_offer, is_served_size}
use Rattle.layer_rules.specs.Owning.{may_hold, owns_child_if, at_end, is_plausible}
use Rattle.layer_rules.specs.Reallocating.{move_to, either_reallocate, reallocate_child}
use Rattle.layer_rules.specs.Rules.{Rules, IsSettled}
use Rattle.layer_rules.specs.Setting.{then_open}
use Rattle.layer_laws.proofs.Basics.{and-fst, and-snd}
use Rattle.layer_laws.specs.Lawful.{TellingLaws, ReadingLaws, RefusingLaws, RefusedLaws, UnrangedLaws, TailLaws, OpennessLaws, OwningLaws, TakingLaws, IsRegular, KeepsOnNone, KeepsOnFalse, KeptUnmoved, KeepsUnmoved, OnlyOwnCells, yes_if}
use Rattle.layer_laws.proofs.MembersLawful.{in-left, in-right, group-parts, least-of_two}
use Rattle.layer_laws.proofs.Owners.{KeptOnNo, AsksUnread, not_owned-child_if, not_owned-next, steady-child_if, asks-child_if, open-may_hold, size-may_hold}
use Rattle.layer_laws.proofs.Reallocations.{keeps-asked_to_expand, keeps-change_child, keeps-asked_to_reallocate, keeps-move_to, kept-then_move, keeps-reallocate_child, keeps-either_reallocate}
use Rattle.layer_laws.proofs.Requests.{is_refusal, keeps-asked_for, keeps-serve_member, none-asked_for, none-of-some, none-serve_member}
use Rattle.layer_laws.proofs.StayingOpen.{StayedOpen, StaysOpen, StaysOpenBy, StaysOpenMoved, stays-asked_for, stays-serve_member, stays-change_child, stays-asked_to_expand, stays-asked_to_reallocate, stays-move_to, stays-reallocate_child, stays-either_reallocate, stays-emptied_child, stays-owns_child_if, sets-open, sets-then}
use Rattle.layer_laws.proofs.Steps.{then-ok}
use Rattle.layer_laws.proofs.Takings.{HasLeavesOf, TakesOwn, takes-asked_for, takes-serve_member, takes-next, took-wider, took-then, took-opened}
use Rattle.layer_laws.proofs.Tests.{set-up-opens}
use Rattle.layer_laws.proofs.Uncounting.{same-child, same-may_hold}
use Rattle.layer_laws.proofs.Unranged.{regular-unranged, refused-refusing, unranged-regular}
use Rattle.layer_laws.proofs.Unreading.{told-child, unread-may_hold, unread-if_set_up}
use Rattle.layer_laws.proofs.Paths.{along-at_end, along-below, along-no_layer, by_path-at_end}
use Rattle.fallback_rules.specs.FallbackRules.{fallback_allocate, fallback_set_up, either_change, fallback_deallocate, or_other, reallocate_or_other, fallback_reallocate, reply_or, or_owns, fallback_owns, fallback_holds, fallback_owns_at, fallback_rules}
use Rattle.fallback_rules.proofs.EachChild.{OfChildren, of_children-member, after-asked_for}
use Rattle.fallback_rules.proofs.OrElse.{after-or_else, keeps-or_else, none-or_else}

-- ---- telling

-- a route goes one step deeper than in the layer that it enters
holder-depth : (p f : Rules) (b : Block) (s : State) (q : Bool) → length (p.route b (child s 0)) ≤ p.depth → length (f.route b (child s 1)) ≤ f.depth
    → length (cond q (0 ∷ p.route b (child s 0)) (1 ∷ f.route b (child s 1))) ≤ suc (max p.depth f.depth)
holder-depth p f b s true x y = omega arith
holder-depth p f b s false x y = omega arith

fallback-telling : (p f : Rules) → TellingLaws p → TellingLaws f → TellingLaws (fallback_rules p f)
unfolding fallback_rules
fallback-telling p f h k =
    record {
      enough = h.enough;
      of_nothing = h.of_nothing;
      above_limit = h.above_limit;
      aligned = least-of_two p.alignment f.alignment h.aligned k.aligned;
      facts_count = λ s cells.
          ap suc (length-append (p.facts (child s 0) cells) (f.facts (child s 1) cells) ∙ ap₂ (λ x y. x + y) (h.facts_count (child s 0) cells) (k.facts_count (child s 1) cells));
      numbers_count = λ fs.
          ap suc (length-append (p.state_numbers (child_fields fs 0)) (f.state_numbers (child_fields fs 1)) ∙ ap₂ (λ x y. x + y) (h.numbers_count (child_fields fs 0)) (k.numbers_count (child_fields fs 1)));
      route_depth = λ b s. holder-depth p f b s (p.holds b (child s 0)) (h.route_depth b (child s 0)) (k.route_depth b (child s 1));
    }

-- ---- reading

cond-both : {A : Type 0} (x y : Bool) (a b c d : A) → x ≡ y → a ≡ c → b ≡ d → cond x a b ≡ cond y c d
cond-both x y a b c d h k l = ap (λ z. cond z a b) h ∙ ap₂ (λ u v. cond y u v) k l

-- of the primary where it holds the block, and else of the second
read-choice : {A : Type 0} (p : Rules) → ReadingLaws p → (b : Block) (s : State) (x y : State → A) → ((t : State) → x (unread t) ≡ x t) → ((t : State) → y (unread t) ≡ y t)
    → cond (p.holds b (child (unread s) 0)) (x (child (unread s) 0)) (y (child (unread s) 1)) ≡ cond (p.holds b (child s 0)) (x (child s 0)) (y (child s 1))
read-choice p r b s x y h k = cond-both _ _ _ _ _ _ (told-child (p.holds b) s 0 (r.holds b)) (told-child x s 0 h) (told-child y s 1 k)

read-holds : (p f : Rules) → ReadingLaws p → ReadingLaws f → (b : Block) (s : State) → fallback_holds p f b (unread s) ≡ fallback_holds p f b s
read-holds p f h k b s =
    ap₂ (λ x y. x && y) (unread-may_hold b s) (ap₂ (λ x y. x || y) (told-child (p.holds b) s 0 (h.holds b)) (told-child (f.holds b) s 1 (k.holds b)))

read-owns_at : (p f : Rules) → ReadingLaws p → ReadingLaws f → (path : List ℕ) (possible : Bool) (b : Block) (s : State) → fallback_owns_at p f path possible b (unread s) ≡ fallback_owns_at p f path possible b s
read-owns_at p f h k [] possible b s = ap (at_end (both_offer p.offers f.offers).owns possible) (read-holds p f h k b s)
read-owns_at p f h k (zero ∷ path) possible b s = told-child (p.owns_at path (possible && is_served_size b.len) b) s 0 (h.owns_at path (possible && is_served_size b.len) b)
read-owns_at p f h k (suc zero ∷ path) possible b s = told-child (f.owns_at path (possible && is_served_size b.len) b) s 1 (k.owns_at path (possible && is_served_size b.len) b)
read-owns_at p f h k (suc (suc i) ∷ path) possible b s = refl

-- where the first says no, the second is asked in what it left
asks-or : (first second new_second : State → Reply) (s : State) → ((first (unread s)).owned ≡ (first s).owned) → (unread (first s).state ≡ (first (unread s)).state)
    → ((t : State) → (new_second (unread t)).owned ≡ (second t).owned) → ((t : State) → unread (second t).state ≡ (new_second (unread t)).state)
    → ((or_owns new_second (first (unread s))).owned ≡ (or_owns second (first s)).owned) × (unread (or_owns second (first s)).state ≡ (or_owns new_second (first (unread s))).state)
asks-or first second new_second s q e h k = go (first (unread s)).owned (first s).owned q (first s).state (first (unread s)).state e
  where
    go : (x y : Bool) → x ≡ y → (t u : State) → unread t ≡ u → ((reply_or x new_second u).owned ≡ (reply_or y second t).owned) × (unread (reply_or y second t).state ≡ (reply_or x new_second u).state)
    go true true z t u w = (refl, w)
    go false false z t u w = (ap (λ v. (new_second v).owned) (sym w) ∙ h t, k t ∙ ap (λ v. (new_second v).state) w)
    go true false z t u w = absurd (cc)
    go false true z t u w = absurd (cc)

below : (e : Rules) → ReadingLaws e → (b : Block) (s : State) → AsksUnread e.owns b s
below e r b s = record { owned = r.owned b s; state = r.owns b s }

asks-fallback : (p f : Rules) → ReadingLaws p → ReadingLaws f → (b : Block) (s : State) → AsksUnread (fallback_owns p f) b s
asks-fallback p f h k b s =
    let first = asks-child_if may_hold 0 p.owns b s (unread-may_hold b s) (below p h b (child s 0)) in
    let both =
    asks-or (λ t. owns_child_if (may_hold b t) 0 p.owns b t) (owns_child_if (may_hold b s) 1 f.owns b) (owns_child_if (may_hold b (unread s)) 1 f.owns b) s first.owned first.state
    (λ t. ap (λ x. (owns_child_if x 1 f.owns b (unread t)).owned) (unread-may_hold b s) ∙ (asks-child_if (λ c u. may_hold b s) 1 f.owns b t refl (below f k b (child t 1))).owned)
    (λ t. (asks-child_if (λ c u. may_hold b s) 1 f.owns b t refl (below f k b (child t 1))).state ∙ ap (λ x. (owns_child_if x 1 f.owns b (unread t)).state) (sym (unread-may_hold b s))) in
    record { owned = both.0; state = both.1 }

fallback-reading : (p f : Rules) → ReadingLaws p → ReadingLaws f → ReadingLaws (fallback_rules p f)
unfolding fallback_rules unread
fallback-reading p f h k = record {
  opens_as_fields = λ fs bytes. set-up-opens fs nothing (two_children (p.read (child_fields fs 0) bytes) (f.read (child_fields fs 1) bytes));
  read = λ fs x y.
      unread-if_set_up fs nothing nothing (two_children (p.read (child_fields fs 0) x) (f.read (child_fields fs 1) x)) (two_children (p.read (child_fields fs 0) y) (f.read (child_fields fs 1) y)) refl
      (ap₂ (λ t u. child_and t (child_and u no_children)) (h.read (child_fields fs 0) x y) (k.read (child_fields fs 1) x y));
  holds = read-holds p f h k;
  route = λ b s. read-choice p h b s (λ t. 0 ∷ p.route b t) (λ t. 1 ∷ f.route b t) (λ t. ap (λ z. 0 ∷ z) (h.route b t)) (λ t. ap (λ z. 1 ∷ z) (k.route b t));
  routed = λ b s. ap (λ z. is_plausible b && z) (read-choice p h b s (p.is_routed b) (f.is_routed b) (h.routed b) (k.routed b));
  extent = λ b s. read-choice p h b s (p.extent b) (f.extent b) (h.extent b) (k.extent b);
  owns_at = read-owns_at p f h k;
  owned = λ b s. (asks-fallback p f h k b s).owned;
  owns = λ b s. (asks-fallback p f h k b s).state;
}

-- ---- refusing

keeps-fallback_allocate : (first second : Serve) → KeepsOnNone first → KeepsOnNone second → KeepsOnNone (fallback_allocate first second)
keeps-fallback_allocate first second h k s cells =
    keeps-or_else (serve_member (λ b. b) 1 second) s cells (serve_member (λ b. b) 0 first s cells) (keeps-serve_member (λ b. b) 1 second k) (keeps-serve_member (λ b. b) 0 first h s cells)

-- Both refuse. The second is asked in what a refusal by the first leaves: the state as it was, but for statistics, and the table.
none-fallback_allocate : (first second : Serve) (s : State) (cells : Cells) (x z : Bool) → KeepsOnNone first → is_refusal (first (child s 0) cells) ≡ x
    → ((t : State) → uncounted t ≡ uncounted (child s 1) → is_refusal (second t cells) ≡ z) → is_refusal (fallback_allocate first second s cells) ≡ (x && z)
none-fallback_allocate first second s cells x z keeps h k =
    let r = serve_member (λ b. b) 0 first s cells in
    none-or_else (serve_member (λ b. b) 1 second) r x z (none-serve_member (λ b. b) 0 first s cells ∙ h)
    (λ e. let kept = keeps-serve_member (λ b. b) 0 first keeps s cells e in
    none-serve_member (λ b. b) 1 second r.state r.cells ∙ (ap (λ c. is_refusal (second (child r.state 1) c)) kept.0 ∙ k (child r.state 1) (same-child r.state s 1 kept.1)))

keeps-either_change : (x : Bool) (c d : Change) → KeepsOnFalse c → KeepsOnFalse d → KeepsOnFalse (either_change x c d)
keeps-either_change true c d k l = k
keeps-either_change false c d k l = l

keeps-or_other : (serve : Serve) (give : Change) (b : Block) (s : State) (cells : Cells) → KeepsOnNone serve → (x : Reallocated) (t : State) (c : Cells) → KeptUnmoved s cells (after x t c) → KeptUnmoved s cells (or_other serve give b (after x t c))
keeps-or_other serve give b s cells k (moved_to d) t c l = λ h. cc
keeps-or_other serve give b s cells k emptied t c l = λ h. cc
keeps-or_other serve give b s cells k unmoved t c l = kept-then_move s cells t c (move_to serve give) b (l refl) (keeps-move_to serve give k)

keeps-reallocate_or_other : (i : ℕ) (move : Reallocate) (j : ℕ) (serve : Serve) (give : Change) → KeepsUnmoved move → KeepsOnNone serve → KeepsUnmoved (reallocate_or_other i move j serve give)
keeps-reallocate_or_other i move j serve give k l b s cells =
    let r = reallocate_child i move b s cells in
    keeps-or_other (serve_member (λ c. c) j serve) (change_child i give) b s cells (keeps-serve_member (λ c. c) j serve l) r.answer r.state r.cells (keeps-reallocate_child i move k b s cells)

keeps-fallback_reallocate : (p f : Rules) (n : ℕ) → RefusedLaws p → RefusedLaws f → KeepsUnmoved (fallback_reallocate p f n)
keeps-fallback_reallocate p f n h k =
    keeps-asked_to_reallocate n (fallback_deallocate p f)
    (λ b s. either_reallocate (p.holds b (child s 0)) (reallocate_or_other 0 (p.reallocate n) 1 (f.allocate n) p.deallocate) (reallocate_or_other 1 (f.reallocate n) 0 (p.allocate n) f.deallocate) b s)
    (λ b s. keeps-either_reallocate (p.holds b (child s 0)) (reallocate_or_other 0 (p.reallocate n) 1 (f.allocate n) p.deallocate) (reallocate_or_other 1 (f.reallocate n) 0 (p.allocate n) f.deallocate)
    (keeps-reallocate_or_other 0 (p.reallocate n) 1 (f.allocate n) p.deallocate (h.reallocate n) (k.allocate n))
    (keeps-reallocate_or_other 1 (f.reallocate n) 0 (p.allocate n) f.deallocate (k.reallocate n) (h.allocate n)) b s)

none-fallback : (p f : Rules) (n : ℕ) (s : State) (cells : Cells) → RefusingLaws p → RefusingLaws f → 1 ≤ n → p.has_free_tails (child s 0) ≡ true → f.has_free_tails (child s 1) ≡ true
    → is_refusal (fallback_allocate (p.allocate n) (f.allocate n) s cells) ≡ (p.refuses n (child s 0) cells && f.refuses n (child s 1) cells)
none-fallback p f n s cells h k l v w =
    none-fallback_allocate (p.allocate n) (f.allocate n) s cells _ _ (h.allocate n) (none-of-some n _ _ l (h.none n (child s 0) cells v))
    (λ t e. none-of-some n _ _ l (k.none n t cells (k.free_tails_uncounted t (child s 1) e ∙ w)) ∙ k.refuses_uncounted n t (child s 1) cells e)

none-fallback_aligned : (p f : Rules) (n a : ℕ) (s : State) (cells : Cells) → RefusingLaws p → RefusingLaws f → 1 ≤ n
    → is_refusal (fallback_allocate (p.aligned_allocate n a) (f.aligned_allocate n a) s cells) ≡ (p.refuses_aligned n a (child s 0) cells && f.refuses_aligned n a (child s 1) cells)
none-fallback_aligned p f n a s cells h k l =
    none-fallback_allocate (p.aligned_allocate n a) (f.aligned_allocate n a) s cells _ _ (h.aligned_allocate n a) (none-of-some n _ _ l (h.none_aligned n a (child s 0) cells))
    (λ t e. none-of-some n _ _ l (k.none_aligned n a t cells) ∙ k.refuses_aligned_uncounted n a t (child s 1) cells e)

-- ---- tails

-- a closed one has only closed children
free-when-settled : (p f : Rules) (s : State) (cells : Cells) → RefusedLaws p → RefusedLaws f → TailLaws p → TailLaws f → IsSettled (fallback_rules p f) s cells → (p.has_free_tails (child s 0) && f.has_free_tails (child s 1)) ≡ true
unfolding fallback_rules
free-when-settled p f closed cells h k v w z = and_from _ _ v.shut w.shut
free-when-settled p f (open_with own ss) cells h k v w z =
    let q = group-parts (p ∷ f ∷ []) (open_with own ss) cells z in
    and_from _ _ (h.free_tails (child (open_with own ss) 0) cells (q.settled 0 (omega arith))) (k.free_tails (child (open_with own ss) 1) cells (q.settled 1 (omega arith)))

fallback-refused : (p f : Rules) → RefusedLaws p → RefusedLaws f → TailLaws p → TailLaws f → RefusedLaws (fallback_rules p f)
unfolding fallback_rules
fallback-refused p f h k v w = record {
  allocate = λ n. keeps-asked_for n (fallback_allocate (p.allocate n) (f.allocate n)) (keeps-fallback_allocate (p.allocate n) (f.allocate n) (h.allocate n) (k.allocate n));
  aligned_allocate = λ n a.
      keeps-asked_for n (fallback_allocate (p.aligned_allocate n a) (f.aligned_allocate n a)) (keeps-fallback_allocate (p.aligned_allocate n a) (f.aligned_allocate n a) (h.aligned_allocate n a) (k.aligned_allocate n a));
  expand = λ delta.
      keeps-asked_to_expand delta (λ b s. either_change (p.holds b (child s 0)) (change_child 0 (p.expand delta)) (change_child 1 (f.expand delta)) b s)
      (λ b s. keeps-either_change (p.holds b (child s 0)) (change_child 0 (p.expand delta)) (change_child 1 (f.expand delta))
      (keeps-change_child 0 (p.expand delta) (h.expand delta)) (keeps-change_child 1 (f.expand delta) (k.expand delta)) b s);
  reallocate = λ n. keeps-fallback_reallocate p f n h k;
  free_tails = λ s cells. free-when-settled p f s cells h k v w;
  refuses_uncounted = λ n s t cells q.
      ap₂ (λ x y. over_limit_or n (x && y)) (h.refuses_uncounted n (child s 0) (child t 0) cells (same-child s t 0 q)) (k.refuses_uncounted n (child s 1) (child t 1) cells (same-child s t 1 q));
  refuses_aligned_uncounted = λ n a s t cells q.
      ap₂ (λ x y. over_limit_or n (x && y)) (h.refuses_aligned_uncounted n a (child s 0) (child t 0) cells (same-child s t 0 q)) (k.refuses_aligned_uncounted n a (child s 1) (child t 1) cells (same-child s t 1 q));
  free_tails_uncounted = λ s t q.
      ap₂ (λ x y. x && y) (h.free_tails_uncounted (child s 0) (child t 0) (same-child s t 0 q)) (k.free_tails_uncounted (child s 1) (child t 1) (same-child s t 1 q));
}

fallback-refusing : (p f : Rules) → RefusingLaws p → RefusingLaws f → RefusedLaws (fallback_rules p f) → RefusingLaws (fallback_rules p f)
unfolding fallback_rules
fallback-refusing p f h k r =
    refused-refusing (fallback_rules p f) r
    (λ n s cells t.
    none-asked_for n (fallback_allocate (p.allocate n) (f.allocate n)) s cells _
    (λ l m. none-fallback p f n s cells h k l (and-fst (p.has_free_tails (child s 0)) _ t) (and-snd (p.has_free_tails (child s 0)) _ t)))
    (λ n a s cells.
    none-asked_for n (fallback_allocate (p.aligned_allocate n a) (f.aligned_allocate n a)) s cells _ (λ l m. none-fallback_aligned p f n a s cells h k l))

-- the tails of the child with this number are free
abbrev HasTails : (p f : Rules) → ℕ → State → Type 0
HasTails p f i s = (nth (p ∷ f ∷ []) i).has_free_tails s ≡ true

tails-each : (p f : Rules) (s : State) → (p.has_free_tails (child s 0) && f.has_free_tails (child s 1)) ≡ true → OfChildren (HasTails p f) s
unfolding null_rules
tails-each p f s h zero = and-fst (p.has_free_tails (child s 0)) _ h
tails-each p f s h (suc zero) = and-snd (p.has_free_tails (child s 0)) _ h
tails-each p f s h (suc (suc i)) = refl

tails-both : (p f : Rules) (s : State) → OfChildren (HasTails p f) s → (p.has_free_tails (child s 0) && f.has_free_tails (child s 1)) ≡ true
tails-both p f s h = and_from _ _ (h 0) (h 1)

tails-fallback_allocate : (p f : Rules) (n : ℕ) (s : State) (cells : Cells) → TailLaws p → TailLaws f → OfChildren (HasTails p f) s → OfChildren (HasTails p f) (fallback_allocate (p.allocate n) (f.allocate n) s cells).state
tails-fallback_allocate p f n s cells v w h =
    let r = serve_member (λ b. b) 0 (p.allocate n) s cells in
    let first = of_children-member (HasTails p f) (λ b. b) 0 (p.allocate n) s cells (v.allocate n) h in
    after-or_else (λ t c. OfChildren (HasTails p f) t) (serve_member (λ b. b) 1 (f.allocate n)) r first
    (of_children-member (HasTails p f) (λ b. b) 1 (f.allocate n) r.state r.cells (w.allocate n) first)

tails-set_up : (p f : Rules) (need : ℕ) (cells : Cells) (o : Opened) → TailLaws p → TailLaws f → fallback_set_up p f need cells ≡ Ok o → (p.has_free_tails (child o.state 0) && f.has_free_tails (child o.state 1)) ≡ true
tails-set_up p f need cells o v w e =
    let first = then-ok 1 (p.set_up need cells) _ o e in
    let second = then-ok (1 + p.nodes) (f.set_up 0 first.0.cells) _ o first.2 in
    let q : opened (open_with nothing (two_children first.0.state second.0.state)) second.0.cells ≡ o = (let z = second.2 in cc) in
    subst (λ x. (p.has_free_tails (child x.state 0) && f.has_free_tails (child x.state 1)) ≡ true) q
    (and_from _ _ (v.set_up need cells first.0 first.1) (w.set_up 0 first.0.cells second.0 second.1))

fallback-tails : (p f : Rules) → TailLaws p → TailLaws f → TailLaws (fallback_rules p f)
unfolding fallback_rules
fallback-tails p f v w = record {
  shut = and_from _ _ v.shut w.shut;
  allocate = λ n s cells h.
      after-asked_for (λ t. (p.has_free_tails (child t 0) && f.has_free_tails (child t 1)) ≡ true) n (fallback_allocate (p.allocate n) (f.allocate n)) s cells h
      (tails-both p f (fallback_allocate (p.allocate n) (f.allocate n) s cells).state (tails-fallback_allocate p f n s cells v w (tails-each p f s h)));
  set_up = λ need cells o. tails-set_up p f need cells o v w;
}

-- ---- staying open

stays-fallback_allocate : (first second : Serve) → StaysOpen (fallback_allocate first second)
stays-fallback_allocate first second s cells =
    let r = serve_member (λ b. b) 0 first s cells in
    let k = stays-serve_member (λ b. b) 0 first s cells in
    after-or_else (λ t c. is_open t ≡ is_open s) (serve_member (λ b. b) 1 second) r k (stays-serve_member (λ b. b) 1 second r.state r.cells ∙ k)

stays-either_change : (x : Bool) (c d : Change) → StaysOpenBy c → StaysOpenBy d → StaysOpenBy (either_change x c d)
stays-either_change true c d k l = k
stays-either_change false c d k l = l

stays-fallback_deallocate : (p f : Rules) → StaysOpenBy (fallback_deallocate p f)
stays-fallback_deallocate p f b s =
    stays-either_change (p.holds b (child s 0)) (change_child 0 p.deallocate) (change_child 1 f.deallocate) (stays-change_child 0 p.deallocate) (stays-change_child 1 f.deallocate) b s

stays-or_other : (serve : Serve) (give : Change) → StaysOpen serve → StaysOpenBy give → (b : Block) (s : State) (x : Reallocated) (t : State) (c : Cells) → is_open t ≡ is_open s → StayedOpen s (or_other serve give b (after x t c))
stays-or_other serve give k g b s (moved_to d) t c h = h
stays-or_other serve give k g b s emptied t c h = h
stays-or_other serve give k g b s unmoved t c h = stays-move_to serve give k g b t c ∙ h

stays-reallocate_or_other : (i : ℕ) (move : Reallocate) (j : ℕ) (serve : Serve) (give : Change) → StaysOpenMoved (reallocate_or_other i move j serve give)
stays-reallocate_or_other i move j serve give b s cells =
    let r = reallocate_child i move b s cells in
    stays-or_other (serve_member (λ c. c) j serve) (change_child i give) (stays-serve_member (λ c. c) j serve) (stays-change_child i give) b s r.answer r.state r.cells (stays-reallocate_child i move b s cells)

-- what is told of the state alone, of the first, and of the second in what that left
after-or_owns : (P : State → Type 0) (next : State → Reply) (r : Reply) → P r.state → P (next r.state).state → P (or_owns next r).state
after-or_owns P next r h k = go r.owned
  where
    go : (x : Bool) → P (reply_or x next r.state).state
    go true = h
    go false = k

fallback-openness : (p f : Rules) → OpennessLaws (fallback_rules p f)
unfolding fallback_rules
fallback-openness p f = record {
  allocate = λ n. stays-asked_for n (fallback_allocate (p.allocate n) (f.allocate n)) (stays-fallback_allocate (p.allocate n) (f.allocate n));
  aligned_allocate = λ n a. stays-asked_for n (fallback_allocate (p.aligned_allocate n a) (f.aligned_allocate n a)) (stays-fallback_allocate (p.aligned_allocate n a) (f.aligned_allocate n a));
  expand = λ delta.
      stays-asked_to_expand delta (λ b s. either_change (p.holds b (child s 0)) (change_child 0 (p.expand delta)) (change_child 1 (f.expand delta)) b s)
      (λ b s. stays-either_change (p.holds b (child s 0)) (change_child 0 (p.expand delta)) (change_child 1 (f.expand delta)) (stays-change_child 0 (p.expand delta)) (stays-change_child 1 (f.expand delta)) b s);
  reallocate = λ n.
      stays-asked_to_reallocate n (fallback_deallocate p f)
      (λ b s. either_reallocate (p.holds b (child s 0)) (reallocate_or_other 0 (p.reallocate n) 1 (f.allocate n) p.deallocate) (reallocate_or_other 1 (f.reallocate n) 0 (p.allocate n) f.deallocate) b s)
      (stays-fallback_deallocate p f)
      (λ b s. stays-either_reallocate (p.holds b (child s 0)) (reallocate_or_other 0 (p.reallocate n) 1 (f.allocate n) p.deallocate) (reallocate_or_other 1 (f.reallocate n) 0 (p.allocate n) f.deallocate)
      (stays-reallocate_or_other 0 (p.reallocate n) 1 (f.allocate n) p.deallocate) (stays-reallocate_or_other 1 (f.reallocate n) 0 (p.allocate n) f.deallocate) b s);
  deallocate = stays-fallback_deallocate p f;
  deallocate_all = λ s cells.
      let r = emptied_child s 0 p.deallocate_all cells in stays-emptied_child r.state 1 f.deallocate_all r.cells ∙ stays-emptied_child s 0 p.deallocate_all cells;
  owns = λ b s.
      let r = owns_child_if (may_hold b s) 0 p.owns b s in
      after-or_owns (λ t. is_open t ≡ is_open s) (owns_child_if (may_hold b s) 1 f.owns b) r (stays-owns_child_if (may_hold b s) 0 p.owns b s)
      (stays-owns_child_if (may_hold b s) 1 f.owns b r.state ∙ stays-owns_child_if (may_hold b s) 0 p.owns b s);
  set_up = λ need cells.
      sets-then 1 (p.set_up need cells) _ (λ o. sets-then (1 + p.nodes) (f.set_up 0 o.cells) _ (λ q. sets-open nothing (two_children o.state q.state) q.cells));
}

-- ---- owning

second-child : (s t : State) → child (with_child s 0 t) 1 ≡ child s 1
second-child closed t = refl
second-child (open_with own no_children) t = refl
second-child (open_with own (child_and u us)) t = refl

-- the first of two, and on a no the second
owned-fallback : (fine : Bool) (first second : Owning) (b : Block) (s : State) (x y : Bool) → (first b (child s 0)).owned ≡ x → (second b (child s 1)).owned ≡ y → (or_owns (owns_child_if fine 1 second b) (owns_child_if fine 0 first b s)).owned ≡ (fine && (x || y))
owned-fallback false first second b s x y h k = refl
owned-fallback true first second b s x y h k = go (first b (child s 0)).owned x h
  where
    go : (v x : Bool) → v ≡ x → (reply_or v (owns_child_if true 1 second b) (with_child s 0 (first b (child s 0)).state)).owned ≡ (x || y)
    go true true q = refl
    go false false q = ap (λ u. (second b u).owned) (second-child s (first b (child s 0)).state) ∙ k
    go true false q = absurd (cc)
    go false true q = absurd (cc)

not_owned-or : (s : State) (next : State → Reply) (r : Reply) → KeptOnNo s r → KeptOnNo r.state (next r.state) → KeptOnNo s (or_owns next r)
not_owned-or s next r h k = go r.owned refl
  where
    go : (x : Bool) → r.owned ≡ x → KeptOnNo s (reply_or x next r.state)
    go true q = λ z. absurd (cc)
    go false q = not_owned-next s r next q h k

fallback-along : (p f : Rules) → OwningLaws p → OwningLaws f → (path : List ℕ) (possible : Bool) (b : Block) (s : State) → fallback_owns_at p f path possible b s ≡ yes_if possible (fallback_owns_at p f path true b s)
fallback-along p f h k [] possible b s = along-at_end (both_offer p.offers f.offers).owns (fallback_holds p f b s) possible
fallback-along p f h k (zero ∷ path) possible b s = along-below (is_served_size b.len) (λ x. p.owns_at path x b (child s 0)) (λ x. h.along path x b (child s 0)) possible
fallback-along p f h k (suc zero ∷ path) possible b s = along-below (is_served_size b.len) (λ x. f.owns_at path x b (child s 1)) (λ x. k.along path x b (child s 1)) possible
fallback-along p f h k (suc (suc i) ∷ path) possible b s = along-no_layer possible

fallback-by_path : (p f : Rules) → OwningLaws p → OwningLaws f → (path : List ℕ) (b c : Block) (s : State) → fallback_owns_at p f path false b s ≡ fallback_owns_at p f path false c s
fallback-by_path p f h k [] b c s = by_path-at_end (both_offer p.offers f.offers).owns (fallback_holds p f b s) (fallback_holds p f c s)
fallback-by_path p f h k (zero ∷ path) b c s = h.by_path path b c (child s 0)
fallback-by_path p f h k (suc zero ∷ path) b c s = k.by_path path b c (child s 1)
fallback-by_path p f h k (suc (suc i) ∷ path) b c s = refl

fallback-owning : (p f : Rules) → OwningLaws p → OwningLaws f → OwningLaws (fallback_rules p f)
unfolding fallback_rules
fallback-owning p f h k = record {
  answer = λ b s. owned-fallback (may_hold b s) p.owns f.owns b s (p.holds b (child s 0)) (f.holds b (child s 1)) (h.answer b (child s 0)) (k.answer b (child s 1));
  rest = λ b s.
      let r = owns_child_if (may_hold b s) 0 p.owns b s in
      let first = steady-child_if (may_hold b s) 0 p.owns b s (h.rest b (child s 0)) in
      after-or_owns (λ t. steady t ≡ steady s) (owns_child_if (may_hold b s) 1 f.owns b) r first
      (steady-child_if (may_hold b s) 1 f.owns b r.state (k.rest b (child r.state 1)) ∙ first);
  not_owned = λ b s.
      let r = owns_child_if (may_hold b s) 0 p.owns b s in
      not_owned-or s (owns_child_if (may_hold b s) 1 f.owns b) r (not_owned-child_if (may_hold b s) 0 p.owns b s (h.not_owned b (child s 0)))
      (not_owned-child_if (may_hold b s) 1 f.owns b r.state (k.not_owned b (child r.state 1)));
  open_holds = λ b s z. open-may_hold b s _ z;
  held_size = λ b s z. size-may_hold b s _ z;
  holds_uncounted = λ b s t q.
      ap₂ (λ x y. x && y) (same-may_hold b s t q)
      (ap₂ (λ x y. x || y) (h.holds_uncounted b (child s 0) (child t 0) (same-child s t 0 q)) (k.holds_uncounted b (child s 1) (child t 1) (same-child s t 1 q)));
  along = fallback-along p f h k;
  by_path = fallback-by_path p f h k;
}

-- ---- taking

takes-fallback_allocate : (e p f : Rules) (first second : Serve) → HasLeavesOf e p → HasLeavesOf e f → TakesOwn p first → TakesOwn f second → TakesOwn e (fallback_allocate first second)
takes-fallback_allocate e p f first second v w h k s cells =
    let r = serve_member (λ b. b) 0 first s cells in
    let taken = takes-serve_member p e (λ b. b) 0 first v h s cells in
    after-or_else (λ t c. OnlyOwnCells e cells c) (serve_member (λ b. b) 1 second) r taken (takes-next e cells r.cells (serve_member (λ b. b) 1 second) r.state taken (takes-serve_member f e (λ b. b) 1 second w k))

names-then : (x : Opening) (next : Opened → Opening) (node k n : ℕ) → ((j : ℕ) → x ≡ Err j → node + j < n) → ((o : Opened) → next o ≡ Err k → k < n) → then_open node x next ≡ Err k → k < n
names-then (Err j) next node k n f g e = let z : node + j ≡ k = cc in let w = f j refl in omega arith
names-then (Ok o) next node k n f g e = g o e

either-count : (x : Bool) (c d : Change) (b : Block) (s : State) (cells : Cells) → length (c b s cells).cells.tags ≡ length cells.tags → length (d b s cells).cells.tags ≡ length cells.tags
    → length (either_change x c d b s cells).cells.tags ≡ length cells.tags
either-count true c d b s cells h k = h
either-count false c d b s cells h k = k

fallback-taking : (p f : Rules) → TakingLaws p → TakingLaws f → TakingLaws (fallback_rules p f)
unfolding fallback_rules
fallback-taking p f h k =
    let e = fallback_rules p f in
    let v : HasLeavesOf e p = λ t l. in-left p.leaf_tags f.leaf_tags t l in
    let w : HasLeavesOf e f = λ t l. in-right p.leaf_tags f.leaf_tags t l in
    record {
      allocate = λ n. takes-asked_for e n (fallback_allocate (p.allocate n) (f.allocate n)) (takes-fallback_allocate e p f (p.allocate n) (f.allocate n) v w (h.allocate n) (k.allocate n));
      aligned_allocate = λ n a.
          takes-asked_for e n (fallback_allocate (p.aligned_allocate n a) (f.aligned_allocate n a))
          (takes-fallback_allocate e p f (p.aligned_allocate n a) (f.aligned_allocate n a) v w (h.aligned_allocate n a) (k.aligned_allocate n a));
      set_up = λ need cells.
          took-then e 1 (p.set_up need cells) _ cells (took-wider p e cells (p.set_up need cells) v (h.set_up need cells))
          (λ o. took-then e (1 + p.nodes) (f.set_up 0 o.cells) _ o.cells (took-wider f e o.cells (f.set_up 0 o.cells) w (k.set_up 0 o.cells)) (λ q. took-opened e _ q.cells));
      deallocate_count = λ b s cells.
          either-count (p.holds b (child s 0)) (change_child 0 p.deallocate) (change_child 1 f.deallocate) b s cells (h.deallocate_count b (child s 0) cells) (k.deallocate_count b (child s 1) cells);
      deallocate_all_count = λ s cells.
          let r = emptied_child s 0 p.deallocate_all cells in k.deallocate_all_count (child r.state 1) r.cells ∙ h.deallocate_all_count (child s 0) cells;
      names_a_node = λ need cells j.
          names-then (p.set_up need cells) _ 1 j (suc (p.nodes + f.nodes)) (λ i q. let l = h.names_a_node need cells i q in omega arith)
          (λ o. names-then (f.set_up 0 o.cells) _ (1 + p.nodes) j (suc (p.nodes + f.nodes)) (λ i q. let l = k.names_a_node 0 o.cells i q in omega arith) (λ q z. absurd (cc)));
    }

-- ---- all families

pub fallback-unranged : (p f : Rules) → UnrangedLaws p → UnrangedLaws f → UnrangedLaws (fallback_rules p f)
fallback-unranged p f h k = record {
  reading = fallback-reading p f h.reading k.reading;
  refused = fallback-refused p f h.refused k.refused h.tails k.tails;
  tails = fallback-tails p f h.tails k.tails;
  openness = fallback-openness p f;
  owning = fallback-owning p f h.owning k.owning;
  taking = fallback-taking p f h.taking k.taking;
}

pub fallback-regular : (p f : Rules) → IsRegular p → IsRegular f → IsRegular (fallback_rules p f)
fallback-regular p f h k =
    let u = fallback-unranged p f (regular-unranged p h) (regular-unranged f k) in
    unranged-regular (fallback_rules p f) u (fallback-telling p f h.telling k.telling) (fallback-refusing p f h.refusing k.refusing u.refused)
