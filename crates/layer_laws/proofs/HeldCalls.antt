-- Held by members: what the calls of the whole keep and give, over lawful members.
use Rattle.std.proofs.Common.{◌≡◌, ◌≢◌, refl, sym, ap, ap₂, subst, ◌∙◌, ℕ, zero, suc, ◌≤◌, ◌<◌, ◌⊎◌, inl, inr, Bool, true, false, ◌&&◌, nat_le, arith, List, [], ◌∷◌, length, Option, Some, None, unwrap_or, option_map}
use Rattle.std.proofs.lemmas.Bool.{cases_eq, cases_lt}
use Rattle.std.specs.Option.{option_map_or}
use Rattle.space_core.specs.Cells.{Cells}
use Rattle.layer_rules.specs.declared.Block.{Block}
use Rattle.layer_rules.specs.Blocks.{no_block}
use Rattle.layer_rules.specs.State.{State, closed, open_with, is_open, child}
use Rattle.layer_rules.specs.After.{After, after, Placed, from_child, Serve, Reallocated, unmoved}
use Rattle.layer_rules.specs.Layering.{is_done}
use Rattle.layer_rules.specs.Members.{nth}
use Rattle.layer_rules.specs.Rules.{Rules, IsSettled}
use Rattle.layer_laws.proofs.Children.{shown-at_multiple}
use Rattle.layer_laws.specs.HeldByMembers.{IsOpenGroup, IsWithMember, IsCallOfMember, ServedInTurn, none_serves, refuses_then, one_serves, new_serves, AskedInTurn, none_asked, asked_then, MovedInTurn, by_member, declines_then, moved_away, GrowsByHolder, MovesByHolder, OfHeld}
use Rattle.layer_laws.specs.Lawful.{IsGood, Good, AlignedGood, AtMultiple, Freeing, IsGrown, Growing, Emptying, IsReallocated, Reallocating, KeepsTold, OwnsKeeping, KeepingLaws, OnlyOwnCells}
use Rattle.layer_laws.proofs.HeldSeats.{IsHeldGroup, lawful-members, IsOutOfHolder, out-holder, unheld-behind, held-there, one-holder, holder-is, changed-group, member-good, call-freed, call-grown, member-reallocated}
use Rattle.layer_laws.proofs.HeldTurns.{shut-none}
use Rattle.layer_laws.proofs.MembersLawful.{out-some}
use Rattle.layer_laws.proofs.Reallocated.{asked-reallocated, generally-reallocated, after-unmoved, then-given}
use Rattle.layer_laws.proofs.Steps.{refuse-good, good-then, asked-grown, same-told, told-then}
use Rattle.layer_laws.proofs.Takings.{TakesOwn, takes-wider}
use Rattle.layer_laws.proofs.Tests.{takes-then, takes-none}

-- ---- a request

-- what is said of an answer besides: of none, and of a member's block as the whole shows it
pub record IsShownToo (Q : Option Placed → Type 0) : Type 0 where
  pub none : Q None
  pub some : (i : ℕ) (p : Placed) → Q (Some p) → Q (Some (from_child (λ b. b) i p))

-- each member serves well where it is open and sound, and takes for its own leaves
pub record ServesWell (es : List Rules) (Q : Option Placed → Type 0) (n : ℕ) (serve : ℕ → Serve) : Type 0 where
  pub good : (i : ℕ) (t : State) (c : Cells) → is_open t ≡ true → IsSettled (nth es i) t c → IsGood (nth es i) t c n (serve i t c)
  pub too : (i : ℕ) (t : State) (c : Cells) → is_open t ≡ true → IsSettled (nth es i) t c → Q (serve i t c).answer
  pub takes : (i : ℕ) → TakesOwn (nth es i) (serve i)

-- nothing was out of a closed member
from-closed : (g : Rules) (es : List Rules) → IsHeldGroup g es → (i : ℕ) (t : State) (cells mid : Cells) (u : State) (n : ℕ) (r : After (Option Placed)) → t ≡ closed → IsGood (nth es i) u mid n r → IsGood (nth es i) t cells n r
from-closed g es w i t cells mid u n r q x =
    let none = λ (b : Block) (o : (nth es i).is_out b t cells ≡ true). let z = (w.lawful i).keeping.out_open b t cells o in let k : is_open closed ≡ true = subst (λ t. is_open t ≡ true) q z in let y : ⊥ = cc in y in
    record {
      is_set = x.is_set;
      settled = x.settled;
      extents = λ b o. absurd (none b o);
      routes = λ b o. absurd (none b o);
      stays = λ b o. absurd (none b o);
      len = x.len;
      out = x.out;
      found = x.found;
      fresh = λ p z b o. absurd (none b o);
    }

served-good : (g : Rules) (es : List Rules) (w : IsHeldGroup g es) (Q : Option Placed → Type 0) → IsShownToo Q → (n : ℕ) (serve : ℕ → Serve) → ServesWell es Q n serve → (s : State) (cells : Cells) (r : After (Option Placed)) → ServedInTurn es w.held.fits serve s cells r → IsOpenGroup es w.held.fits s cells
    → IsGood g s cells n r × Q r.answer
served-good g es w Q shown n serve v s cells _ (none_serves _ _) k = (refuse-good g n s cells k.is_set (w.held.stands.sound s cells k), shown.none)
served-good g es w Q shown n serve v s cells _ (refuses_then _ t _ i r l o e m rest) k =
    let x = serve i (child s i) cells in
    let y = v.good i (child s i) cells o (k.members i l) in
    let whole = member-good g es w i n s t cells x k m (v.takes i (child s i) cells) y in
    let none = subst (λ a. IsGood g s cells n (after (option_map (from_child (λ b. b) i) a) t x.cells)) e whole in
    let later = served-good g es w Q shown n serve v t x.cells r rest (w.held.stands.parts t x.cells none.is_set none.settled) in
    (good-then g n s cells t x.cells r none later.0, later.1)
served-good g es w Q shown n serve v s cells _ (one_serves _ t _ i p l o e m) k =
    let x = serve i (child s i) cells in
    let y = v.good i (child s i) cells o (k.members i l) in
    let whole = member-good g es w i n s t cells x k m (v.takes i (child s i) cells) y in
    (subst (λ a. IsGood g s cells n (after (option_map (from_child (λ b. b) i) a) t x.cells)) e whole, shown.some i p (subst Q e (v.too i (child s i) cells o (k.members i l))))
served-good g es w Q shown n serve v s cells _ (new_serves _ t _ i need o p l shut set e m) k =
    let none = shut-none es w.own w.lawful i cells (subst (λ t. IsSettled (nth es i) t cells) shut (k.members i l)) in
    let settled = (w.lawful i).opening.opens need cells o none set in
    let is_set = (w.regular i).openness.set_up need cells o set in
    let x = serve i o.state o.cells in
    let y = from-closed g es w i (child s i) cells o.cells o.state n x shut (v.good i o.state o.cells is_set settled) in
    let whole = member-good g es w i n s t cells x k m (takes-then (nth es i) cells o.cells x.cells ((w.regular i).taking.set_up need cells o set) (v.takes i o.state o.cells)) y in
    (subst (λ a. IsGood g s cells n (after (option_map (from_child (λ b. b) i) a) t x.cells)) e whole, shown.some i p (subst Q e (v.too i o.state o.cells is_set settled)))

served-takes : (g : Rules) (es : List Rules) (w : IsHeldGroup g es) (serve : ℕ → Serve) → ((i : ℕ) → TakesOwn (nth es i) (serve i)) → (s : State) (cells : Cells) (r : After (Option Placed)) → ServedInTurn es w.held.fits serve s cells r → OnlyOwnCells g cells r.cells
served-takes g es w serve v s cells _ (none_serves _ _) = takes-none g cells
served-takes g es w serve v s cells _ (refuses_then _ t _ i r l o e m rest) =
    let x = serve i (child s i) cells in
    takes-then g cells x.cells r.cells (takes-wider (nth es i) g cells x.cells ((lawful-members g es w).leaves i) (v i (child s i) cells)) (served-takes g es w serve v t x.cells r rest)
served-takes g es w serve v s cells _ (one_serves _ t _ i p l o e m) =
    takes-wider (nth es i) g cells (serve i (child s i) cells).cells ((lawful-members g es w).leaves i) (v i (child s i) cells)
served-takes g es w serve v s cells _ (new_serves _ t _ i need o p l shut set e m) =
    let x = serve i o.state o.cells in
    takes-wider (nth es i) g cells x.cells ((lawful-members g es w).leaves i) (takes-then (nth es i) cells o.cells x.cells ((w.regular i).taking.set_up need cells o set) (v i o.state o.cells))

abbrev Anything : Option Placed → Type 0
Anything o = Unit {0}

serves-well : (g : Rules) (es : List Rules) → IsHeldGroup g es → (n : ℕ) → ServesWell es Anything n (λ i. (nth es i).allocate n)
serves-well g es w n = record { good = λ i t c o z. (w.lawful i).keeping.good n t c o z; too = λ i t c o z. tt; takes = λ i. (w.regular i).taking.allocate n }

by-parts : (g : Rules) (es : List Rules) (w : IsHeldGroup g es) (s : State) (cells : Cells) → is_open s ≡ true → IsSettled g s cells → IsOpenGroup es w.held.fits s cells
by-parts g es w s cells o z = w.held.stands.parts s cells o z

-- the requests that members serve in turn
turn-good : (g : Rules) (es : List Rules) (w : IsHeldGroup g es) (n : ℕ) (s : State) (cells : Cells) (r : After (Option Placed)) → ServedInTurn es w.held.fits (λ i. (nth es i).allocate n) s cells r → IsOpenGroup es w.held.fits s cells → IsGood g s cells n r
turn-good g es w n s cells r x k = (served-good g es w Anything (record { none = tt; some = λ i p q. tt }) n (λ i. (nth es i).allocate n) (serves-well g es w n) s cells r x k).0

held-good : (g : Rules) (es : List Rules) → IsHeldGroup g es → Good g
held-good g es w n s cells o z = let k = by-parts g es w s cells o z in turn-good g es w n s cells (g.allocate n s cells) (w.held.calls.allocate n s cells k) k

held-aligned : (g : Rules) (es : List Rules) → IsHeldGroup g es → AlignedGood g
held-aligned g es w n a s cells u v o z =
    let k = by-parts g es w s cells o z in
    let x = served-good g es w (AtMultiple a) (record { none = λ p q. absurd (cc); some = λ i p h. shown-at_multiple i a (λ b. b) (Some p) (λ p q. refl) h }) n (λ i. (nth es i).aligned_allocate n a)
    (record { good = λ i t c o z. ((w.lawful i).keeping.aligned n a t c u v o z).good; too = λ i t c o z. ((w.lawful i).keeping.aligned n a t c u v o z).aligned; takes = λ i. (w.regular i).taking.aligned_allocate n a })
    s cells (g.aligned_allocate n a s cells) (w.held.calls.aligned_allocate n a s cells k) k in
    record { good = x.0; aligned = x.1 }

-- ---- a block that comes back, and one that grows

-- what holds of a call on a held block holds of one that is out
of-out : (g : Rules) (es : List Rules) (w : IsHeldGroup g es) (P : ℕ → Block → State → Cells → Type 0) → OfHeld es w.held.holder w.held.fits P → (b : Block) (s : State) (cells : Cells) → IsOpenGroup es w.held.fits s cells → (x : IsOutOfHolder g es w.held b s cells)
    → P x.number b s cells
of-out g es w P f b s cells k x = f x.number b s cells k x.held (out-some es x.number b (child s x.number) cells x.below) ((w.lawful x.number).keeping.out_open b (child s x.number) cells x.below)

held-freed : (g : Rules) (es : List Rules) → IsHeldGroup g es → Freeing g
held-freed g es w b s cells o z y =
    let k = by-parts g es w s cells o z in
    let x = out-holder g es w.held b s cells y in
    let i = x.number in
    let l = out-some es i b (child s i) cells x.below in
    call-freed g es w i b s cells ((nth es i).deallocate b (child s i) cells) (g.deallocate b s cells) k
    (of-out g es w (λ i b s cells. IsCallOfMember w.held.fits i s ((nth es i).deallocate b (child s i) cells) (g.deallocate b s cells)) w.held.calls.deallocate b s cells k x) x.below
    ((w.lawful i).keeping.freed b (child s i) cells ((w.lawful i).keeping.out_open b (child s i) cells x.below) (k.members i l) x.below)

held-grown : (g : Rules) (es : List Rules) → IsHeldGroup g es → Growing g
held-grown g es w delta b s cells o z y =
    let k = by-parts g es w s cells o z in
    let x = out-holder g es w.held b s cells y in
    let i = x.number in
    let l = out-some es i b (child s i) cells x.below in
    let c = of-out g es w (λ i b s cells. GrowsByHolder g es w.held.fits i delta b s cells) (w.held.calls.expand delta) b s cells k x in
    subst (IsGrown g s cells b delta) (sym c.guarded)
    (asked-grown g delta c.change b s cells o z y (λ l' m'. call-grown g es w i delta b s cells ((nth es i).expand delta b (child s i) cells) (c.change b s cells) k c.by_holder x.below
    ((w.lawful i).keeping.grown delta b (child s i) cells ((w.lawful i).keeping.out_open b (child s i) cells x.below) (k.members i l) x.below)))

-- ---- a block gets another length

not-done : (a : Reallocated) → a ≡ unmoved → is_done a ≡ true → ⊥
not-done a e d = let z : is_done unmoved ≡ true = subst (λ a. is_done a ≡ true) e d in cc

-- a block whose route stays is out of the same member
same-seat : (g : Rules) (es : List Rules) (w : IsHeldGroup g es) (i : ℕ) (b : Block) (s t : State) (cells new : Cells) → w.held.holder b s ≡ Some i → g.is_out b t new ≡ true → g.route b t ≡ g.route b s → (nth es i).is_out b (child t i) new ≡ true
same-seat g es w i b s t cells new held o q =
    let x = out-holder g es w.held b t new o in
    let j = x.number in
    let tells = w.held.tells in
    let here : g.route b t ≡ j ∷ (nth es j).route b (child t j) = tells.route b t ∙ ap (λ x. option_map_or (λ i. i ∷ (nth es i).route b (child t i)) x []) x.held in
    let there : g.route b s ≡ i ∷ (nth es i).route b (child s i) = tells.route b s ∙ ap (λ x. option_map_or (λ i. i ∷ (nth es i).route b (child s i)) x []) held in
    let z : j ∷ (nth es j).route b (child t j) ≡ i ∷ (nth es i).route b (child s i) = sym here ∙ (q ∙ there) in
    let same : j ≡ i = cc in
    subst (λ n. (nth es n).is_out b (child t n) new ≡ true) same x.below

moves-well : (g : Rules) (es : List Rules) (w : IsHeldGroup g es) (i n : ℕ) (b : Block) → 1 ≤ n → (s : State) (cells : Cells) (r : After Reallocated) → MovedInTurn es w.held.fits i n b s cells r → IsOpenGroup es w.held.fits s cells → w.held.holder b s ≡ Some i → (nth es i).is_out b (child s i) cells ≡ true
    → g.is_out b s cells ≡ true → IsReallocated g s cells b n r
moves-well g es w i n b some s cells _ (by_member _ t _ m) k held o y =
    let l = out-some es i b (child s i) cells o in
    member-reallocated g es w i n b s t cells ((nth es i).reallocate n b (child s i) cells) k m o ((w.lawful i).keeping.reallocated n b (child s i) cells ((w.lawful i).keeping.out_open b (child s i) cells o) (k.members i l) o)
moves-well g es w i n b some s cells _ (declines_then _ t _ r e m rest) k held o y =
    let l = out-some es i b (child s i) cells o in
    let x = (nth es i).reallocate n b (child s i) cells in
    let below = (w.lawful i).keeping.reallocated n b (child s i) cells ((w.lawful i).keeping.out_open b (child s i) cells o) (k.members i l) o in
    let whole = subst (λ a. IsReallocated g s cells b n (after a t x.cells)) e (member-reallocated g es w i n b s t cells x k m o below) in
    let stays = whole.stays b y (λ d. absurd (not-done unmoved refl d)) in
    let inside = subst (λ u. (nth es i).is_out b u x.cells ≡ true) (sym m.here) (below.stays b o (λ d. absurd (not-done x.answer e d))) in
    let later = by-parts g es w t x.cells whole.is_set whole.settled in
    after-unmoved g s cells b n t x.cells r y whole (moves-well g es w i n b some t x.cells r rest later (holder-is g es w t x.cells later b i inside) inside stays)
moves-well g es w i n b some s cells _ (moved_away _ _ r give x c) k held o y =
    let good = turn-good g es w n s cells r x k in
    let later = by-parts g es w r.state r.cells good.is_set good.settled in
    let inside = same-seat g es w i b s r.state cells r.cells held (good.stays b y) (good.routes b y) in
    let l = out-some es i b (child s i) cells o in
    let freed = call-freed g es w i b r.state r.cells ((nth es i).deallocate b (child r.state i) r.cells) (give b r.state r.cells) later c inside
    ((w.lawful i).keeping.freed b (child r.state i) r.cells ((w.lawful i).keeping.out_open b (child r.state i) r.cells inside) (later.members i l) inside) in
    then-given g give s cells b n r.answer r.state r.cells some y good (served-takes g es w (λ j. (nth es j).allocate n) (λ j. (w.regular j).taking.allocate n) s cells r x) freed
    (ap (λ (q : After Bool). length q.cells.tags) c.same ∙ (w.regular i).taking.deallocate_count b (child r.state i) r.cells)

held-reallocated : (g : Rules) (es : List Rules) → IsHeldGroup g es → Reallocating g
held-reallocated g es w n b s cells o z y = elim w.held.calls.reallocate [
  | inl general ↦
      subst (IsReallocated g s cells b n) (sym (general.general n b s cells))
      (generally-reallocated g general.offered
      (record { some = λ b s cells o. (out-holder g es w.held b s cells o).some; takes = w.whole.taking.allocate; gives = w.whole.taking.deallocate_count; good = held-good g es w; freed = held-freed g es w; grown = held-grown g es w })
      n b s cells o z y)
  | inr by_holder ↦
      let k = by-parts g es w s cells o z in
      let x = out-holder g es w.held b s cells y in
      let c = of-out g es w (λ i b s cells. MovesByHolder g es w.held.fits i n b s cells) (by_holder n) b s cells k x in
      subst (IsReallocated g s cells b n) (sym c.guarded)
      (asked-reallocated g n g.deallocate c.move b s cells x.some o z y (held-freed g es w b s cells o z y) (w.whole.taking.deallocate_count b s cells)
      (λ l m. moves-well g es w x.number n b l s cells (c.move b s cells) c.by_holder k x.held x.below y))
]

-- ---- all blocks come back

held-emptied : (g : Rules) (es : List Rules) → IsHeldGroup g es → Emptying g
held-emptied g es w s cells o z =
    let r = g.deallocate_all s cells in
    let x = w.held.calls.deallocate_all s cells (by-parts g es w s cells o z) in
    record {
      is_set = x.open_group.is_set;
      settled = w.held.stands.sound r.state r.cells x.open_group;
      none = λ b y. let k = out-holder g es w.held b r.state r.cells y in x.none k.number b k.below;
      table = x.table;
    }

-- ---- who owns a block

-- what is told of each member stays where it does of the one that changed
member-same : {A : Type 0} → (es : List Rules) (fits : State → Bool) (i : ℕ) (u s t : State) → IsWithMember fits i u s t → (f : Rules → State → A) (j : ℕ) → f (nth es i) u ≡ f (nth es i) (child s i) → f (nth es j) (child t j) ≡ f (nth es j) (child s j)
member-same es fits i u s t m f j q = elim (cases_eq j i) [
  | inl e ↦ subst (λ k. f (nth es k) (child t k) ≡ f (nth es k) (child s k)) (sym e) (ap (f (nth es i)) m.here ∙ q)
  | inr n ↦ ap (f (nth es j)) (m.others j n)
]

both-true : (x y : Bool) → (x ≡ true → y ≡ true) → (y ≡ true → x ≡ true) → x ≡ y
both-true true y f h = sym (f refl)
both-true false true f h = h refl
both-true false false f h = refl

find-true : (f : ℕ → Bool) (n : ℕ) → ((i : ℕ) × (f i ≡ true)) ⊎ ((i : ℕ) → i < n → f i ≡ false)
find-true f zero = inr (λ i l. absurd (omega arith))
find-true f (suc n) = then-true (find-true f n) (f n) refl
  where
    then-true : ((i : ℕ) × (f i ≡ true)) ⊎ ((i : ℕ) → i < n → f i ≡ false) → (x : Bool) → f n ≡ x → ((i : ℕ) × (f i ≡ true)) ⊎ ((i : ℕ) → i < suc n → f i ≡ false)
    then-true (inl h) x e = inl h
    then-true (inr h) true e = inl (n, e)
    then-true (inr h) false e = inr (λ i l. elim (cases_eq i n) [ inl q ↦ ap f q ∙ e | inr m ↦ h i (let k : i ≢ n = m in omega arith) ])

-- the one member that holds a block, in an open state
one-held : (g : Rules) (es : List Rules) (w : IsHeldGroup g es) (s : State) (cells : Cells) (c : Block) (i : ℕ) → IsOpenGroup es w.held.fits s cells → (nth es i).holds c (child s i) ≡ true → w.held.holder c s ≡ Some i
one-held g es w s cells c i k h =
    w.held.finds.one c s i k.is_set k.in_order (held-there es i c (child s i) h) ((w.regular i).owning.open_holds c (child s i) h) h
    (λ j n. not-held j n ((nth es j).holds c (child s j)) refl)
  where
    not-held : (j : ℕ) → (j ≡ i → ⊥) → (x : Bool) → (nth es j).holds c (child s j) ≡ x → x ≡ false
    not-held j n false e = refl
    not-held j n true e = absurd (n (one-holder g es w s cells k.members c j i e h))

none-held : (g : Rules) (es : List Rules) (w : IsHeldGroup g es) (s : State) (cells : Cells) (c : Block) → IsOpenGroup es w.held.fits s cells → ((i : ℕ) → i < length es → (nth es i).holds c (child s i) ≡ false) → w.held.holder c s ≡ w.held.otherwise
none-held g es w s cells c k h =
    w.held.finds.none c s k.is_set k.in_order (λ i. elim (cases_lt i (length es)) [ inl l ↦ h i l | inr l ↦ unheld-behind es i c (child s i) l ])

-- the holder is the same where each member holds what it held
same-holder : (g : Rules) (es : List Rules) (w : IsHeldGroup g es) (s t : State) (cells new : Cells) (c : Block) → IsOpenGroup es w.held.fits s cells → IsOpenGroup es w.held.fits t new → ((j : ℕ) → (nth es j).holds c (child t j) ≡ (nth es j).holds c (child s j))
    → w.held.holder c t ≡ w.held.holder c s
same-holder g es w s t cells new c k k' same = elim (find-true (λ i. (nth es i).holds c (child s i)) (length es)) [
  | inl h ↦ one-held g es w t new c h.0 k' (same h.0 ∙ h.1) ∙ sym (one-held g es w s cells c h.0 k h.1)
  | inr h ↦ none-held g es w t new c k' (λ i l. same i ∙ h i l) ∙ sym (none-held g es w s cells c k h)
]

map-or-each : {A : Type 0} (o : Option ℕ) (f h : ℕ → A) (d : A) → ((i : ℕ) → f i ≡ h i) → option_map_or f o d ≡ option_map_or h o d
map-or-each None f h d e = refl
map-or-each (Some i) f h d e = e i

holds-still : (g : Rules) (es : List Rules) (w : IsHeldGroup g es) (s t : State) (cells : Cells) (c : Block) → IsOpenGroup es w.held.fits t cells → ((j : ℕ) → (nth es j).holds c (child s j) ≡ true → (nth es j).holds c (child t j) ≡ true) → g.holds c s ≡ true → g.holds c t ≡ true
holds-still g es w s t cells c k same h =
    let x = w.held.finds.held c s h in
    let y = same x.0 x.1 in
    w.held.finds.holds c t x.0 k.is_set k.in_order (held-there es x.0 c (child t x.0) y) ((w.regular x.0).owning.held_size c (child t x.0) y) y

held-told : (g : Rules) (es : List Rules) (w : IsHeldGroup g es) (i : ℕ) (u s t : State) (cells : Cells) → IsOpenGroup es w.held.fits s cells → IsWithMember w.held.fits i u s t → KeepsTold (nth es i) (child s i) u cells → KeepsTold g s t cells
held-told g es w i u s t cells k m x =
    let tells = w.held.tells in
    let later = changed-group g es w i u s t cells cells k m x.settled (λ j n. record { at = λ c y. refl; back = λ c y. refl }) in
    let holds = λ (c : Block) (j : ℕ). member-same es w.held.fits i u s t m (λ e v. e.holds c v) j (x.holds c) in
    let same = λ (c : Block). same-holder g es w s t cells cells c k later (holds c) in
    let clean = λ (c : Block) (bytes : List ℕ). let q : g.is_clean c t bytes ≡ g.is_clean c s bytes =
    tells.clean c t bytes
    ∙ (ap (λ o. (nth es (unwrap_or o 0)).is_clean c (child t (unwrap_or o 0)) bytes) (same c)
    ∙ (member-same es w.held.fits i u s t m (λ e v. e.is_clean c v bytes) (unwrap_or (w.held.holder c s) 0) (x.clean c bytes) ∙ sym (tells.clean c s bytes))) in q in
    record {
      settled = w.held.stands.sound t cells later;
      holds = λ c. both-true (g.holds c t) (g.holds c s) (holds-still g es w t s cells c k (λ j h. sym (holds c j) ∙ h)) (holds-still g es w s t cells c later (λ j h. holds c j ∙ h));
      extents = λ c.
          tells.extent c t
          ∙ (ap (λ o. option_map_or (λ j. (nth es j).extent c (child t j)) o no_block) (same c)
          ∙ (map-or-each (w.held.holder c s) (λ j. (nth es j).extent c (child t j)) (λ j. (nth es j).extent c (child s j)) no_block (λ j. member-same es w.held.fits i u s t m (λ e v. e.extent c v) j (x.extents c))
          ∙ sym (tells.extent c s)));
      routes = λ c o.
          let y = out-holder g es w.held c s cells o in
          let j = y.number in
          let below : (nth es j).route c (child t j) ≡ (nth es j).route c (child s j) =
          elim (cases_eq j i) [
            | inl e ↦ subst (λ n. (nth es n).route c (child t n) ≡ (nth es n).route c (child s n)) (sym e) (ap ((nth es i).route c) m.here ∙ x.routes c (subst (λ n. (nth es n).is_out c (child s n) cells ≡ true) e y.below))
            | inr n ↦ ap ((nth es j).route c) (m.others j n)
          ] in
          let at : (v : State) → w.held.holder c v ≡ Some j → g.route c v ≡ j ∷ (nth es j).route c (child v j) = λ v q. tells.route c v ∙ ap (λ o. option_map_or (λ n. n ∷ (nth es n).route c (child v n)) o []) q in
          at t (same c ∙ y.held) ∙ (ap (λ r. j ∷ r) below ∙ sym (at s y.held));
      out = λ c.
          tells.out c t cells
          ∙ (ap₂ (λ p q. (p && nat_le 1 c.len) && q) (m.is_set ∙ sym k.is_set)
          (ap (λ o. option_map_or (λ j. (nth es j).is_out c (child t j) cells) o false) (same c)
          ∙ map-or-each (w.held.holder c s) (λ j. (nth es j).is_out c (child t j) cells) (λ j. (nth es j).is_out c (child s j) cells) false (λ j. member-same es w.held.fits i u s t m (λ e v. e.is_out c v cells) j (x.out c)))
          ∙ sym (tells.out c s cells));
      clean = clean;
      marked = λ c bytes. tells.marked c t bytes ∙ (clean c bytes ∙ sym (tells.marked c s bytes));
    }

asked-told : (g : Rules) (es : List Rules) (w : IsHeldGroup g es) (b : Block) (cells : Cells) (s t : State) → AskedInTurn es w.held.fits b s t → IsOpenGroup es w.held.fits s cells → KeepsTold g s t cells
asked-told g es w b cells s _ (none_asked _) k = same-told g s cells (w.held.stands.sound s cells k)
asked-told g es w b cells s t (asked_then _ u _ i l o m rest) k =
    let first = held-told g es w i ((nth es i).owns b (child s i)).state s u cells k m ((w.lawful i).keeping.owned b (child s i) cells (k.members i l)) in
    told-then g s u t cells first (asked-told g es w b cells u t rest (by-parts g es w u cells m.is_set first.settled))

held-owned : (g : Rules) (es : List Rules) → IsHeldGroup g es → OwnsKeeping g
held-owned g es w b closed cells z = subst (λ t. KeepsTold g closed t cells) (sym (shut-state (g.owns b closed).state (w.whole.openness.owns b closed))) (same-told g closed cells z)
  where
    shut-state : (t : State) → is_open t ≡ false → t ≡ closed
    shut-state closed q = refl
    shut-state (open_with own ss) q = absurd (cc)
held-owned g es w b (open_with own ss) cells z =
    let s = open_with own ss in
    let k = by-parts g es w s cells refl z in
    asked-told g es w b cells s (g.owns b s).state (w.held.calls.owns b s cells k) k

-- ---- the family

pub held-keeping : (g : Rules) (es : List Rules) → IsHeldGroup g es → KeepingLaws g
held-keeping g es w = record {
  out_some = λ b s cells o. (out-holder g es w.held b s cells o).some;
  out_open = λ b s cells o. (out-holder g es w.held b s cells o).is_set;
  good = held-good g es w;
  freed = held-freed g es w;
  grown = held-grown g es w;
  emptied = held-emptied g es w;
  reallocated = held-reallocated g es w;
  same_length = w.held.calls.same_length;
  aligned = held-aligned g es w;
  owned = held-owned g es w;
}
