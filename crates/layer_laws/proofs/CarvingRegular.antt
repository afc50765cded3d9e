-- What is carved from a chunk is regular over a regular parent.
use Rattle.std.proofs.Common.{◌≡◌, refl, sym, subst, ap, ap₂, ℕ, suc, ◌≤◌, inl, inr, Bool, true, false, ◌&&◌, ◌||◌, not, arith, length, Option, nat_eq}
use Rattle.std.proofs.lemmas.Bool.{and_from}
use Rattle.space_core.specs.Cells.{Cells}
use Rattle.layer_rules.specs.declared.Block.{Block}
use Rattle.layer_rules.specs.After.{After, after, Placed, Serve, refuse}
use Rattle.layer_rules.specs.Allocating.{asked_for, over_limit_or}
use Rattle.layer_rules.specs.Blocks.{lies_in}
use Rattle.layer_rules.specs.Chunks.{at_chunk}
use Rattle.layer_rules.specs.Expanding.{asked_to_expand}
use Rattle.layer_rules.specs.Fields.{kept_of, child_fields}
use Rattle.layer_rules.specs.Owning.{is_plausible, may_hold}
use Rattle.layer_rules.specs.Rules.{Rules, IsSettled}
use Rattle.layer_rules.specs.Setting.{need_of}
use Rattle.layer_rules.specs.State.{State, Own, closed, open_with, one_child, child, own_of}
use Rattle.layer_rules.specs.Unread.{unread}
use Rattle.layer_laws.proofs.Basics.{and-fst, and-snd}
use Rattle.layer_laws.proofs.CarvingParts.{carving-parts}
use Rattle.layer_laws.proofs.ChunkLaws.{asked-keeps, child-own, chunk-sets}
use Rattle.layer_laws.proofs.GoodSizes.{served-enough, unserved-zero, unserved-above}
use Rattle.layer_laws.proofs.Owners.{held-same, open-may_hold, size-may_hold}
use Rattle.layer_laws.proofs.Paths.{along-at_chunk, by_path-at_chunk}
use Rattle.layer_laws.proofs.Reallocations.{keeps-asked_to_expand, keeps-asked_to_reallocate, keeps-general_reallocate}
use Rattle.layer_laws.proofs.Requests.{is_refusal, keeps-asked_for, keeps-refuse, none-asked_for, none-refuse}
use Rattle.layer_laws.proofs.StayingOpen.{StayedOpen, StaysOpen, open-own, sets-chunk, stays-asked_for, stays-asked_to_expand, stays-asked_to_reallocate, stays-general_reallocate, stays-refuse}
use Rattle.layer_laws.proofs.Steps.{chunk-refuses}
use Rattle.layer_laws.proofs.Takings.{TakesOwn, takes-asked_for, takes-refuse, takes-wider, took-chunk}
use Rattle.layer_laws.proofs.Tests.{set-up-opens, takes-none}
use Rattle.layer_laws.proofs.Uncounting.{same-child, same-read}
use Rattle.layer_laws.proofs.Unranged.{regular-unranged, refused-refusing, unranged-regular}
use Rattle.layer_laws.proofs.Unreading.{told-own, unread-may_hold, unread-over_parent}
use Rattle.layer_laws.specs.Carves.{Serves, Changes, CarvesAnyhow, TellsRight, CarvingIsRegular}
use Rattle.layer_laws.specs.Carving.{Carving, carve, hold_instead, carve_aligned, carving_rules}
use Rattle.layer_laws.specs.Lawful.{KeepsOnNone, KeptOnNone, KeptOnFalse, OnlyOwnCells, OpennessLaws, OwningLaws, ReadingLaws, RefusedLaws, RefusingLaws, TailLaws, TakingLaws, TellingLaws, UnrangedLaws}

-- ---- what a call leaves

-- what holds of a refusal and of each block that is carved holds of an answer
by-serves : (P : After (Option Placed) → Type 0) (Fits : ℕ → Own → Type 0) (n : ℕ) (s : State) (cells : Cells) (r : After (Option Placed)) → Serves Fits n s cells r → P (refuse s cells)
    → ((p : ℕ) (own : Own) → P (carve n p own s cells)) → P r
by-serves P Fits n s cells r (inl q) h k = subst P (sym q) h
by-serves P Fits n s cells r (inr x) h k = subst P (sym x.leaves) (k x.place x.own)

by-changes : (P : After Bool → Type 0) (Fits : Own → Type 0) (s : State) (cells : Cells) (r : After Bool) → Changes Fits s cells r → P (after false s cells) → ((own : Own) → P (hold_instead own s cells)) → P r
by-changes P Fits s cells r (inl q) h k = subst P (sym q) h
by-changes P Fits s cells r (inr x) h k = subst P (sym x.leaves) (k x.own)

serves-kept : (Fits : ℕ → Own → Type 0) (n : ℕ) (s : State) (cells : Cells) (r : After (Option Placed)) → Serves Fits n s cells r → KeptOnNone s cells r
serves-kept Fits n s cells r h = by-serves (KeptOnNone s cells) Fits n s cells r h (λ z. (refl, refl)) (λ p own z. absurd (cc))

serves-open : (Fits : ℕ → Own → Type 0) (n : ℕ) (s : State) (cells : Cells) (r : After (Option Placed)) → Serves Fits n s cells r → StayedOpen s r
serves-open Fits n s cells r h = by-serves (StayedOpen s) Fits n s cells r h refl (λ p own. open-own s own)

serves-child : (Fits : ℕ → Own → Type 0) (n : ℕ) (s : State) (cells : Cells) (r : After (Option Placed)) → Serves Fits n s cells r → child r.state 0 ≡ child s 0
serves-child Fits n s cells r h = by-serves (λ x. child x.state 0 ≡ child s 0) Fits n s cells r h refl (λ p own. child-own s own 0)

serves-takes : (e : Rules) (Fits : ℕ → Own → Type 0) (n : ℕ) (s : State) (cells : Cells) (r : After (Option Placed)) → Serves Fits n s cells r → OnlyOwnCells e cells r.cells
serves-takes e Fits n s cells r h = by-serves (λ x. OnlyOwnCells e cells x.cells) Fits n s cells r h (takes-none e cells) (λ p own. takes-none e cells)

changes-kept : (Fits : Own → Type 0) (s : State) (cells : Cells) (r : After Bool) → Changes Fits s cells r → KeptOnFalse s cells r
changes-kept Fits s cells r h = by-changes (KeptOnFalse s cells) Fits s cells r h (λ z. (refl, refl)) (λ own z. absurd (cc))

changes-open : (Fits : Own → Type 0) (s : State) (cells : Cells) (r : After Bool) → Changes Fits s cells r → StayedOpen s r
changes-open Fits s cells r h = by-changes (StayedOpen s) Fits s cells r h refl (λ own. open-own s own)

changes-count : (Fits : Own → Type 0) (s : State) (cells : Cells) (r : After Bool) → Changes Fits s cells r → length r.cells.tags ≡ length cells.tags
changes-count Fits s cells r h = by-changes (λ x. length x.cells.tags ≡ length cells.tags) Fits s cells r h refl (λ own. refl)

-- ---- requests at an alignment, offered or not

aligned-keeps : (offered : Bool) (n : ℕ) (serve : Serve) → KeepsOnNone serve → KeepsOnNone (carve_aligned offered n serve)
aligned-keeps true n serve k = keeps-asked_for n serve k
aligned-keeps false n serve k = keeps-refuse

aligned-stays : (offered : Bool) (n : ℕ) (serve : Serve) → StaysOpen serve → StaysOpen (carve_aligned offered n serve)
aligned-stays true n serve k = stays-asked_for n serve k
aligned-stays false n serve k = stays-refuse

aligned-takes : (e : Rules) (offered : Bool) (n : ℕ) (serve : Serve) → TakesOwn e serve → TakesOwn e (carve_aligned offered n serve)
aligned-takes e true n serve k = takes-asked_for e n serve k
aligned-takes e false n serve k = takes-refuse e

aligned-none : (offered : Bool) (n : ℕ) (serve : Serve) (s : State) (cells : Cells) (z : Bool) → (offered ≡ true → 1 ≤ n → is_refusal (serve s cells) ≡ z)
    → is_refusal (carve_aligned offered n serve s cells) ≡ (nat_eq n 0 || (not offered || over_limit_or n z))
aligned-none true n serve s cells z k = none-asked_for n serve s cells z (λ l m. k refl l)
aligned-none false n serve s cells z k = none-refuse n

-- ---- telling and reading

carving-telling : (c : Carving) (e : Rules) → TellsRight c → TellingLaws e → TellingLaws (carving_rules c e)
carving-telling c e w t = record {
  enough = λ n. served-enough c.rounded n (w.enough n);
  of_nothing = unserved-zero c.rounded;
  above_limit = unserved-above c.rounded;
  aligned = w.aligned;
  facts_count = λ s cells. ap suc (t.facts_count (child s 0) cells);
  numbers_count = λ fs. ap suc (t.numbers_count (child_fields fs 0));
  route_depth = λ b s. omega arith;
}

room-unread : (c : Carving) → CarvesAnyhow c → (s : State) → c.room (own_of (unread s)) ≡ c.room (own_of s)
room-unread c w s = told-own c.room w.goes_by.room s

held-unread : (c : Carving) → CarvesAnyhow c → (b : Block) (s : State) → (may_hold b (unread s) && lies_in b (c.room (own_of (unread s)))) ≡ (may_hold b s && lies_in b (c.room (own_of s)))
held-unread c w b s = ap₂ (λ x d. x && lies_in b d) (unread-may_hold b s) (room-unread c w s)

carving-reading : (c : Carving) (e : Rules) → CarvesAnyhow c → ReadingLaws e → ReadingLaws (carving_rules c e)
carving-reading c e w r = record {
  opens_as_fields = λ fs bytes. set-up-opens fs (c.read (kept_of fs) bytes) (one_child (e.read (child_fields fs 0) bytes));
  read = λ fs x y.
      unread-over_parent fs (c.read (kept_of fs) x) (c.read (kept_of fs) y) (e.read (child_fields fs 0) x) (e.read (child_fields fs 0) y) (w.goes_by.read (kept_of fs) x y) (r.read (child_fields fs 0) x y);
  holds = λ b s. held-unread c w b s;
  route = λ b s. refl;
  routed = λ b s. ap (λ d. is_plausible b && lies_in b d) (room-unread c w s);
  extent = λ b s. told-own (c.extent b) (w.goes_by.extent b) s;
  owns_at = λ path possible b s. ap (at_chunk path possible) (held-unread c w b s);
  owned = λ b s. held-unread c w b s;
  owns = λ b s. refl;
}

-- ---- refusing

free-below : (c : Carving) (e : Rules) → CarvesAnyhow c → TailLaws e → RefusedLaws e → (s : State) (cells : Cells) → IsSettled (carving_rules c e) s cells → (c.has_free_tail s && e.has_free_tails (child s 0)) ≡ true
free-below c e w t p closed cells h = and_from _ _ w.tail.shut t.shut
free-below c e w t p (open_with own ss) cells h =
    let x = carving-parts c e (open_with own ss) cells refl h in
    and_from _ _ (subst (λ s. c.has_free_tail s ≡ true) (sym x.form) (w.tail.passes own (child (open_with own ss) 0) x.kind x.passes)) (p.free_tails (child (open_with own ss) 0) cells x.below)

carving-refused : (c : Carving) (e : Rules) → CarvesAnyhow c → TailLaws e → RefusedLaws e → RefusedLaws (carving_rules c e)
carving-refused c e w t p =
    let allocates = λ (n : ℕ). keeps-asked_for n (c.allocate n) (λ s cells. serves-kept _ n s cells _ (w.changes.allocate n s cells)) in
    let expands = λ (d : ℕ). keeps-asked_to_expand d (c.expand d) (λ b s cells. changes-kept _ s cells _ (w.changes.expand d b s cells)) in
    record {
      allocate = allocates;
      aligned_allocate = λ n a. aligned-keeps c.offers.aligned n (c.aligned_allocate n a) (λ s cells. serves-kept _ n s cells _ (w.changes.aligned_allocate n a s cells));
      expand = expands;
      reallocate = λ n.
          keeps-asked_to_reallocate n c.deallocate _
          (keeps-general_reallocate n c.offers (λ d. asked_to_expand d (c.expand d)) (asked_for n (c.allocate n)) c.deallocate expands (allocates n));
      free_tails = free-below c e w t p;
      refuses_uncounted = λ n s u cells q. ap (over_limit_or n) (same-read (c.refuses n) (w.goes_by.refuses n) s u q);
      refuses_aligned_uncounted = λ n a s u cells q. ap (λ x. not c.offers.aligned || over_limit_or n x) (same-read (c.refuses_aligned n a) (w.goes_by.refuses_aligned n a) s u q);
      free_tails_uncounted = λ s u q. ap₂ (λ x y. x && y) (w.tail.uncounted s u q) (p.free_tails_uncounted (child s 0) (child u 0) (same-child s u 0 q));
    }

carving-refusing : (c : Carving) (e : Rules) → TellsRight c → RefusedLaws (carving_rules c e) → RefusingLaws (carving_rules c e)
carving-refusing c e w k =
    refused-refusing (carving_rules c e) k
    (λ n s cells t. none-asked_for n (c.allocate n) s cells (c.refuses n (own_of s)) (λ l m. w.none n s cells l (and-fst (c.has_free_tail s) (e.has_free_tails (child s 0)) t)))
    (λ n a s cells. aligned-none c.offers.aligned n (c.aligned_allocate n a) s cells (c.refuses_aligned n a (own_of s)) (λ o l. w.none_aligned o n a s cells l))

-- ---- tails

tails-kept : (c : Carving) (e : Rules) → CarvesAnyhow c → (n : ℕ) (s : State) (cells : Cells) → (c.has_free_tail s && e.has_free_tails (child s 0)) ≡ true
    → (let t = (c.allocate n s cells).state in (c.has_free_tail t && e.has_free_tails (child t 0))) ≡ true
tails-kept c e w n s cells h =
    let same = serves-child _ n s cells _ (w.changes.allocate n s cells) in
    and_from _ _ (w.tail.allocate n s cells (and-fst (c.has_free_tail s) (e.has_free_tails (child s 0)) h))
    (subst (λ t. e.has_free_tails t ≡ true) (sym same) (and-snd (c.has_free_tail s) (e.has_free_tails (child s 0)) h))

carving-tails : (c : Carving) (e : Rules) → CarvesAnyhow c → TailLaws e → TailLaws (carving_rules c e)
carving-tails c e w t = record {
  shut = and_from _ _ w.tail.shut t.shut;
  allocate = λ n s cells h. asked-keeps (λ u. (c.has_free_tail u && e.has_free_tails (child u 0)) ≡ true) n (c.allocate n) (λ u d k. tails-kept c e w n u d k) s cells h;
  set_up = λ need cells o q.
      let chunk = c.chunk_len need in
      chunk-sets (λ u. e.has_free_tails u ≡ true) (λ u. (c.has_free_tail u && e.has_free_tails (child u 0)) ≡ true) chunk (c.first need) (e.set_up (need_of need chunk) cells) (e.allocate chunk)
      (λ p z. t.set_up (need_of need chunk) cells p z) (λ u d k. t.allocate chunk u d k) (λ b u k. and_from _ _ (w.tail.first need b u) k) o q;
}

-- ---- openness

carving-openness : (c : Carving) (e : Rules) → CarvesAnyhow c → OpennessLaws (carving_rules c e)
carving-openness c e w =
    let allocates = λ (n : ℕ). stays-asked_for n (c.allocate n) (λ s cells. serves-open _ n s cells _ (w.changes.allocate n s cells)) in
    let expands = λ (d : ℕ). stays-asked_to_expand d (c.expand d) (λ b s cells. changes-open _ s cells _ (w.changes.expand d b s cells)) in
    let gives = λ (b : Block) (s : State) (cells : Cells). changes-open _ s cells _ (w.changes.deallocate b s cells) in
    record {
      allocate = allocates;
      aligned_allocate = λ n a. aligned-stays c.offers.aligned n (c.aligned_allocate n a) (λ s cells. serves-open _ n s cells _ (w.changes.aligned_allocate n a s cells));
      expand = expands;
      reallocate = λ n.
          stays-asked_to_reallocate n c.deallocate _ gives
          (stays-general_reallocate n c.offers (λ d. asked_to_expand d (c.expand d)) (asked_for n (c.allocate n)) c.deallocate expands (allocates n) gives);
      deallocate = gives;
      deallocate_all = λ s cells. open-own s _;
      owns = λ b s. refl;
      set_up = λ need cells o q. sets-chunk (c.chunk_len need) (c.first need) (e.set_up (need_of need (c.chunk_len need)) cells) (e.allocate (c.chunk_len need)) o q;
    }

-- ---- owning and taking

carving-owning : (c : Carving) (e : Rules) → CarvesAnyhow c → OwningLaws (carving_rules c e)
carving-owning c e w = record {
  answer = λ b s. refl;
  rest = λ b s. refl;
  not_owned = λ b s h. refl;
  open_holds = λ b s h. open-may_hold b s (lies_in b (c.room (own_of s))) h;
  held_size = λ b s h. size-may_hold b s (lies_in b (c.room (own_of s))) h;
  holds_uncounted = λ b s t q.
      held-same b s t (lies_in b (c.room (own_of s))) (lies_in b (c.room (own_of t))) q (ap (lies_in b) (same-read c.room w.goes_by.room_uncounted s t q));
  along = λ path possible b s. along-at_chunk path (may_hold b s && lies_in b (c.room (own_of s))) possible;
  by_path = λ path b d s. by_path-at_chunk path (may_hold b s && lies_in b (c.room (own_of s))) (may_hold d s && lies_in d (c.room (own_of s)));
}

carving-taking : (c : Carving) (e : Rules) → CarvesAnyhow c → TakingLaws e → TakingLaws (carving_rules c e)
carving-taking c e w t =
    let f = carving_rules c e in
    record {
      allocate = λ n. takes-asked_for f n (c.allocate n) (λ s cells. serves-takes f _ n s cells _ (w.changes.allocate n s cells));
      aligned_allocate = λ n a. aligned-takes f c.offers.aligned n (c.aligned_allocate n a) (λ s cells. serves-takes f _ n s cells _ (w.changes.aligned_allocate n a s cells));
      set_up = λ need cells o q.
          let chunk = c.chunk_len need in
          let parent = e.set_up (need_of need chunk) cells in
          takes-wider e f cells o.cells (λ u l. l) (took-chunk e chunk (c.first need) parent (e.allocate chunk) cells (λ p z. t.set_up (need_of need chunk) cells p z) (t.allocate chunk) o q);
      names_a_node = λ need cells k q.
          let chunk = c.chunk_len need in
          let below = chunk-refuses chunk (c.first need) (e.set_up (need_of need chunk) cells) (e.allocate chunk) k e.nodes (λ j z. t.names_a_node (need_of need chunk) cells j z) q in
          omega arith;
      deallocate_count = λ b s cells. changes-count _ s cells _ (w.changes.deallocate b s cells);
      deallocate_all_count = λ s cells. refl;
    }

-- ---- all of them

-- whatever its numbers
pub carving-unranged : (c : Carving) (e : Rules) → CarvesAnyhow c → UnrangedLaws e → UnrangedLaws (carving_rules c e)
carving-unranged c e w p = record {
  reading = carving-reading c e w p.reading;
  refused = carving-refused c e w p.tails p.refused;
  tails = carving-tails c e w p.tails;
  openness = carving-openness c e w;
  owning = carving-owning c e w;
  taking = carving-taking c e w p.taking;
}

pub carving-regular : CarvingIsRegular
carving-regular c e w p =
    let u = carving-unranged c e w.anyhow (regular-unranged e p) in
    unranged-regular (carving_rules c e) u (carving-telling c e w.tells p.telling) (carving-refusing c e w.tells u.refused)
