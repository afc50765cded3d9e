-- What hands its blocks down reallocates them as its parent does, or by the general form of its own calls.
use Rattle.std.proofs.Common.{◌≡◌, refl, sym, ap, subst, ◌∙◌, ℕ, ◌≤◌, ◌||◌, inl, inr, Bool, true, false, arith, cond, nat_eq, ◌∷◌}
use Rattle.std.proofs.lemmas.Bool.Decides.{nat_tests}
use Rattle.space_core.specs.Cells.{Cells}
use Rattle.layer_rules.specs.declared.Block.{Block}
use Rattle.layer_rules.specs.Blocks.{no_block, with_len}
use Rattle.layer_rules.specs.State.{State, Own, open_with, one_child, is_open, own_of, with_own, child}
use Rattle.layer_rules.specs.After.{After, after, answering, Change, Reallocated, moved_to, Reallocate}
use Rattle.layer_rules.specs.Reallocating.{in_place, asked_to_reallocate, general_reallocate, reallocate_child, either_reallocate}
use Rattle.layer_rules.specs.Rules.{Rules, IsSettled, AreApart}
use Rattle.layer_rules.specs.Handing.{Handing, hand_allocate, hand_deallocate, hand_expand, shown_by, hand_move, count_reallocation, hand_reallocation, handing_rules}
use Rattle.layer_laws.proofs.HandingParts.{IsOutDown, hand-settles, hand-opened, out-hand, hand-out, hand-seen, hand-apart, apart-hand}
use Rattle.layer_laws.specs.HandsDown.{HandsDown}
use Rattle.layer_laws.specs.Lawful.{IsReallocated, Reallocating}
use Rattle.layer_laws.proofs.OwnChanges.{changed-wider}
use Rattle.layer_laws.proofs.Reallocated.{KeepsByCalls, kept-in_place, asked-reallocated, asked-same, general-reallocated, IsShownMoved, shown-moved, shown-done, shown-emptied}

-- ---- the numbers of its own

-- with other numbers that are in order, all else holds as before
hand-recounted : (h : Handing) (e : Rules) (s : State) (cells : Cells) (b : Block) (n : ℕ) (a : Reallocated) (own own' : Own) (t : State) (c : Cells) → h.passes own' ≡ true → IsReallocated (handing_rules h e) s cells b n (after a (open_with own (one_child t)) c)
    → IsReallocated (handing_rules h e) s cells b n (after a (open_with own' (one_child t)) c)
unfolding handing_rules
hand-recounted h e s cells b n a own own' t c p g =
    let x = hand-opened h e (open_with own (one_child t)) c refl g.settled in
    record {
      is_set = refl;
      settled = hand-settles h e own' t c p x.parent x.below;
      extents = g.extents;
      routes = g.routes;
      stays = g.stays;
      len = g.len;
      out = g.out;
      fresh = λ k q d o y. let z = g.fresh k q d o y in record { either = z.either };
      place = λ k q. elim (g.place k q) [ inl z ↦ inl z | inr z ↦ inr (record { either = z.either }) ];
      empty = g.empty;
      some = g.some;
      count = g.count;
      table = g.table;
    }

hand-counted : (h : Handing) (e : Rules) (s : State) (cells : Cells) (b : Block) (n : ℕ) (r : After Reallocated) → HandsDown h e → IsReallocated (handing_rules h e) s cells b n r → IsReallocated (handing_rules h e) s cells b n (count_reallocation h n b r)
hand-counted h e s cells b n r w g =
    let f = handing_rules h e in
    let x = hand-opened h e r.state r.cells g.is_set g.settled in
    let own = h.reallocated n b r.answer (own_of r.state) in
    subst (λ u. IsReallocated f s cells b n (after r.answer u r.cells) → IsReallocated f s cells b n (after r.answer (with_own u own) r.cells)) (sym x.form)
    (hand-recounted h e s cells b n r.answer (own_of r.state) own (child r.state 0) r.cells (w.in_order.reallocated n b r.answer (own_of r.state) x.own)) g

counted-case : (h : Handing) (e : Rules) (s : State) (cells : Cells) (b : Block) (n : ℕ) (q : Bool) (give : Change) (move : Reallocate) → HandsDown h e → IsReallocated (handing_rules h e) s cells b n (asked_to_reallocate n give move b s cells)
    → IsReallocated (handing_rules h e) s cells b n (hand_reallocation h q n give move b s cells)
counted-case h e s cells b n true give move w g = g
counted-case h e s cells b n false give move w g = hand-counted h e s cells b n (asked_to_reallocate n give move b s cells) w g

-- ---- in place, and by the parent

hand-in_place : (h : Handing) (e : Rules) (n : ℕ) (b : Block) (s : State) (cells : Cells) → HandsDown h e → 1 ≤ n → IsSettled (handing_rules h e) s cells → IsOutDown h e b s cells → h.in_place b.len n ≡ true
    → IsReallocated (handing_rules h e) s cells b n (in_place n b s cells)
hand-in_place h e n b s cells w l z x q =
    let v = w.in_place b n x.fits q in
    kept-in_place (handing_rules h e) s cells b n l x.is_set z
    (hand-out h e (with_len b n) s cells (record { is_set = x.is_set; some = l; fits = v.fits; below = subst (λ k. e.is_out k (child s 0) cells ≡ true) (sym v.down) x.below }))
    (hand-seen h e (with_len b n) s v.fits ∙ (ap (λ k. e.extent k (child s 0)) v.down ∙ sym (hand-seen h e b s x.fits)))

hand-through : (h : Handing) (e : Rules) (own : Own) (t : State) (cells : Cells) (b : Block) (n : ℕ) (r : After Reallocated) → HandsDown h e → 1 ≤ n → h.passes own ≡ true → IsOutDown h e b (open_with own (one_child t)) cells → IsReallocated e t cells (h.down b) (h.asked n) r
    → IsReallocated (handing_rules h e) (open_with own (one_child t)) cells b n (after (shown_by (h.shown n) r.answer) (open_with own (one_child r.state)) r.cells)
unfolding handing_rules
hand-through h e own t cells b n r w l p x g =
    let f = handing_rules h e in
    let old = open_with own (one_child t) in
    let new = open_with own (one_child r.state) in
    let of = λ (c : Block) (q : shown_by (h.shown n) r.answer ≡ moved_to c). shown-moved (h.shown n) r.answer c q in
    let back = λ (c : Block) (y : IsShownMoved (h.shown n) r.answer c). w.shown n y.below (g.len y.below y.answered) in
    let len = λ (c : Block) (y : IsShownMoved (h.shown n) r.answer c). let z : c.len ≡ n = ap (λ (b : Block). b.len) y.block ∙ (back c y).len in z in
    let fits = λ (c : Block) (y : IsShownMoved (h.shown n) r.answer c). let z : h.fits c ≡ true = ap h.fits y.block ∙ (back c y).fits in z in
    let seen = λ (c : Block) (y : IsShownMoved (h.shown n) r.answer c). let z : h.down c ≡ y.below = ap h.down y.block ∙ (back c y).back in z in
    record {
      is_set = refl;
      settled = hand-settles h e own r.state r.cells p g.is_set g.settled;
      extents = λ c o a.
          let z = out-hand h e c old cells o in
          ap (λ k. cond (h.fits c) k no_block) (g.extents (h.down c) z.below (λ q. apart-hand h e old b c x.fits z.fits (a (shown-done (h.shown n) r.answer ∙ q))));
      routes = λ c o a.
          let z = out-hand h e c old cells o in
          ap (λ k. 0 ∷ k) (g.routes (h.down c) z.below (λ q. apart-hand h e old b c x.fits z.fits (a (shown-done (h.shown n) r.answer ∙ q))));
      stays = λ c o a.
          let z = out-hand h e c old cells o in
          hand-out h e c new r.cells (record { is_set = refl; some = z.some; fits = z.fits; below = g.stays (h.down c) z.below (λ q. apart-hand h e old b c x.fits z.fits (a (shown-done (h.shown n) r.answer ∙ q))) });
      len = λ c q. len c (of c q);
      out = λ c q.
          let y = of c q in
          let k = len c y in
          hand-out h e c new r.cells (record { is_set = refl; some = omega arith; fits = fits c y; below = rw (seen c y) (g.out y.below y.answered) });
      fresh = λ c q d o a.
          let y = of c q in
          let z = out-hand h e d old cells o in
          hand-apart h e new c d (fits c y) z.fits (subst (λ k. AreApart e r.state k (h.down d)) (sym (seen c y)) (g.fresh y.below y.answered (h.down d) z.below (apart-hand h e old b d x.fits z.fits a)));
      place = λ c q.
          let y = of c q in
          elim (g.place y.below y.answered) [
            | inl m ↦ inl (w.one_place c b (fits c y) x.fits (ap (λ (b : Block). b.place) (seen c y) ∙ m))
            | inr m ↦ inr (record { either = rw (hand-seen h e c new (fits c y), hand-seen h e b old x.fits, seen c y) m.either })
          ];
      empty = λ z. absurd (omega arith);
      some = λ q. let y = g.some (shown-emptied (h.shown n) r.answer q) in let m = w.asked_some n l in absurd (omega arith);
      count = g.count;
      table = changed-wider e f cells r.cells (λ t y. y) g.table;
    }

-- ---- the whole

hand-moved : (h : Handing) (e : Rules) (own : Own) (t : State) (cells : Cells) (b : Block) (n : ℕ) (q : Bool) → HandsDown h e → Reallocating e → KeepsByCalls (handing_rules h e) → 1 ≤ n → h.passes own ≡ true → is_open t ≡ true → IsSettled e t cells
    → IsSettled (handing_rules h e) (open_with own (one_child t)) cells → (handing_rules h e).is_out b (open_with own (one_child t)) cells ≡ true
    → IsReallocated (handing_rules h e) (open_with own (one_child t)) cells b n
    (either_reallocate q (general_reallocate n h.offers (λ d. hand_expand h e d) (hand_allocate h n (e.allocate (h.asked n))) (hand_deallocate h e.deallocate))
    (λ b s cells. answering (shown_by (h.shown n)) (reallocate_child 0 (e.reallocate (h.asked n)) (h.down b) s cells)) b (open_with own (one_child t)) cells)
unfolding handing_rules
hand-moved h e own t cells b n true w law calls l p o s z x = general-reallocated (handing_rules h e) h.offers n b (open_with own (one_child t)) cells calls l refl z x
hand-moved h e own t cells b n false w law calls l p o s z x =
    let y = out-hand h e b (open_with own (one_child t)) cells x in
    hand-through h e own t cells b n (e.reallocate (h.asked n) (h.down b) t cells) w l p y (law (h.asked n) (h.down b) t cells o s y.below)

place-case : (h : Handing) (e : Rules) (own : Own) (t : State) (cells : Cells) (b : Block) (n : ℕ) (q : Bool) → h.in_place b.len n ≡ q → HandsDown h e → Reallocating e → KeepsByCalls (handing_rules h e) → 1 ≤ n → h.passes own ≡ true → is_open t ≡ true → IsSettled e t cells
    → IsSettled (handing_rules h e) (open_with own (one_child t)) cells → (handing_rules h e).is_out b (open_with own (one_child t)) cells ≡ true
    → IsReallocated (handing_rules h e) (open_with own (one_child t)) cells b n (either_reallocate q (in_place n) (hand_move h e n) b (open_with own (one_child t)) cells)
place-case h e own t cells b n true q w law calls l p o s z x = hand-in_place h e n b (open_with own (one_child t)) cells w l z (out-hand h e b (open_with own (one_child t)) cells x) q
place-case h e own t cells b n false q w law calls l p o s z x = hand-moved h e own t cells b n h.moves w law calls l p o s z x

pub hand-reallocated : (h : Handing) (e : Rules) → HandsDown h e → Reallocating e → KeepsByCalls (handing_rules h e) → Reallocating (handing_rules h e)
unfolding handing_rules
hand-reallocated h e w law calls n b s cells o z x =
    let f = handing_rules h e in
    let y = hand-opened h e s cells o z in
    let give = hand_deallocate h e.deallocate in
    let move = λ (c : Block). either_reallocate (h.in_place c.len n) (in_place n) (hand_move h e n) c in
    counted-case h e s cells b n (nat_eq n b.len || nat_eq n 0) give move w
    (asked-reallocated f n give move b s cells (calls.some b s cells x) o z x (calls.freed b s cells o z x) (calls.gives b s cells) (λ l m.
    subst (λ s. IsSettled f s cells → f.is_out b s cells ≡ true → IsReallocated f s cells b n (move b s cells)) (sym y.form)
    (λ z x. place-case h e (own_of s) (child s 0) cells b n _ refl w law calls l y.own y.parent y.below z x) z x))

pub hand-same_length : (h : Handing) (e : Rules) (b : Block) (s : State) (cells : Cells) → (handing_rules h e).reallocate b.len b s cells ≡ after (moved_to b) s cells
unfolding handing_rules
hand-same_length h e b s cells =
    let give = hand_deallocate h e.deallocate in
    let move = λ (c : Block). either_reallocate (h.in_place c.len b.len) (in_place b.len) (hand_move h e b.len) c in
    let same : nat_eq b.len b.len ≡ true = grind (arith, nat_tests) in
    ap (λ q. hand_reallocation h (q || nat_eq b.len 0) b.len give move b s cells) same ∙ asked-same give move b s cells
