-- What hands its blocks down is lawful over a lawful parent.
use Rattle.std.proofs.Common.{◌≡◌, refl, sym, ap, subst, ◌∙◌, ℕ, ◌≤◌, ◌+◌, ◌-◌, ◌*◌, ◌/◌, ◌⊎◌, inl, inr, Bool, true, false, ◌&&◌, arith, List, length, get_or, cond, Option, Ok, option_map, is_some, nat_eq, nat_le, ◌∷◌}
use Rattle.std.proofs.lemmas.Bool.{and_from}
use Rattle.std.proofs.lemmas.Bool.Decides.{nat_tests}
use Rattle.size_round.specs.Sizes.{limit}
use Rattle.space_core.specs.Cells.{Cells}
use Rattle.space_core.specs.Memory.{most_cells}
use Rattle.layer_rules.specs.declared.Block.{Block}
use Rattle.layer_rules.specs.Blocks.{no_block, end_of, is_apart}
use Rattle.layer_rules.specs.Expanding.{change_if}
use Rattle.layer_rules.specs.Fields.{closed_fields, open_fields, nth_fields}
use Rattle.layer_rules.specs.State.{State, Own, open_with, one_child, is_open, own_of, child, closed, with_own}
use Rattle.layer_rules.specs.After.{After, after, Placed, from_child, refuse, Opened, Serve}
use Rattle.layer_rules.specs.Offering.{is_served_size}
use Rattle.layer_rules.specs.Owning.{is_plausible, owns_child_if}
use Rattle.layer_rules.specs.Setting.{open_parent}
use Rattle.layer_rules.specs.Rules.{Rules, HasSomeTags, IsSettled, AreApart, longer_if}
use Rattle.layer_rules.specs.Handing.{Handing, hand_request, hand_expansion, handing_rules, hand_allocate, hand_aligned}
use Rattle.layer_laws.specs.Lawful.{IsGood, Good, IsFreed, Freeing, IsGrown, Growing, IsEmptied, Emptying, Covers, Covering, Routing, Aligning, OutTags, SettledTags, TagsKept, Opens, OnlyOwnCells, IsSameOrApart, ChangesInside, OwnKept, OwnFraming, Framing, OpennessLaws, TakingLaws, KeepingLaws, PlacingLaws, FramingLaws, OpeningLaws, OwningLaws, HoldingLaws, IsAlignedGood, AtMultiple, AlignedGood, KeepsTold, OwnsKeeping}
use Rattle.layer_laws.proofs.Owners.{may-hold, shorter-served}
use Rattle.layer_laws.specs.HandsDown.{HandingIsLawful, RoundKept, HandsDown}
use Rattle.layer_laws.proofs.Basics.{and-fst, and-snd}
use Rattle.layer_laws.proofs.HandingAsked.{hand-paths}
use Rattle.layer_laws.proofs.HandingParts.{IsOutDown, hand_settled, hand-parts, hand-settles, hand-opened, out-hand, hand-out, hand-seen, hand-apart, apart-hand, if-opens}
use Rattle.layer_laws.proofs.HandingReallocated.{hand-reallocated, hand-same_length}
use Rattle.layer_laws.proofs.HandingRegular.{hand-taking}
use Rattle.layer_laws.proofs.Tables.{tag-in_range}
use Rattle.layer_laws.proofs.Tests.{some-open, settled-moved}
use Rattle.layer_laws.proofs.Steps.{refuse-good, kept-short, by-nothing, offered-grown, longer-some, parent-ok, inside-wider, refuse-aligned, same-told}
use Rattle.layer_laws.proofs.Children.{IsShown, shown-of, shown-at_multiple}

-- ---- a request

hand-serves : (h : Handing) (e : Rules) (own own' : Own) (t : State) (cells : Cells) (n : ℕ) (r : After (Option Placed)) → HandsDown h e → 1 ≤ n → h.passes own' ≡ true → IsGood e t cells (h.asked n) r
    → IsGood (handing_rules h e) (open_with own (one_child t)) cells n (after (option_map (from_child (h.shown n) 0) r.answer) (open_with own' (one_child r.state)) r.cells)
unfolding handing_rules
hand-serves h e own own' t cells n r w l p g =
    let old = open_with own (one_child t) in
    let new = open_with own' (one_child r.state) in
    let back = λ (q : Placed) (x : IsShown 0 (h.shown n) r.answer q). w.shown n x.below.block (g.len x.below x.answered) in
    let len = λ (q : Placed) (x : IsShown 0 (h.shown n) r.answer q). let y : q.block.len ≡ n = ap (λ (b : Block). b.len) x.block ∙ (back q x).len in y in
    let fits = λ (q : Placed) (x : IsShown 0 (h.shown n) r.answer q). let y : h.fits q.block ≡ true = ap h.fits x.block ∙ (back q x).fits in y in
    let seen = λ (q : Placed) (x : IsShown 0 (h.shown n) r.answer q). let y : h.down q.block ≡ x.below.block = ap h.down x.block ∙ (back q x).back in y in
    record {
      is_set = refl;
      settled = hand-settles h e own' r.state r.cells p g.is_set g.settled;
      extents = λ b o. ap (λ x. cond (h.fits b) x no_block) (g.extents (h.down b) (out-hand h e b old cells o).below);
      routes = λ b o. ap (λ r. 0 ∷ r) (g.routes (h.down b) (out-hand h e b old cells o).below);
      stays = λ b o. let x = out-hand h e b old cells o in hand-out h e b new r.cells (record { is_set = refl; some = x.some; fits = x.fits; below = g.stays (h.down b) x.below });
      len = λ q z. len q (shown-of 0 (h.shown n) r.answer q z);
      out = λ q z.
          let x = shown-of 0 (h.shown n) r.answer q z in
          let k = len q x in
          hand-out h e q.block new r.cells (record { is_set = refl; some = omega arith; fits = fits q x; below = rw (seen q x) (g.out x.below x.answered) });
      found = λ q z.
          let x = shown-of 0 (h.shown n) r.answer q z in
          ap (λ (b : Block). 0 ∷ e.route b r.state) (seen q x) ∙ (ap (λ k. 0 ∷ k) (g.found x.below x.answered) ∙ sym x.route);
      fresh = λ q z b o.
          let x = shown-of 0 (h.shown n) r.answer q z in
          let y = out-hand h e b old cells o in
          hand-apart h e new q.block b (fits q x) y.fits (subst (λ c. AreApart e r.state c (h.down b)) (sym (seen q x)) (g.fresh x.below x.answered (h.down b) y.below));
    }

hand-requested : (h : Handing) (e : Rules) (n : ℕ) (serve : Serve) (own : Own) (t : State) (cells : Cells) (empty goes : Bool) → nat_eq n 0 ≡ empty → (nat_le n limit && h.admits n own) ≡ goes → HandsDown h e
    → h.passes own ≡ true → is_open t ≡ true → IsSettled e t cells → IsGood e t cells (h.asked n) (serve t cells)
    → IsGood (handing_rules h e) (open_with own (one_child t)) cells n (hand_request h empty goes n serve (open_with own (one_child t)) cells)
unfolding handing_rules
hand-requested h e n serve own t cells true goes q x w p o z g = refuse-good (handing_rules h e) n (open_with own (one_child t)) cells refl (hand-settles h e own t cells p o z)
hand-requested h e n serve own t cells false true q x w p o z g =
    let r = serve t cells in
    let ok = is_some (option_map (from_child (h.shown n) 0) r.answer) in
    hand-serves h e own (h.allocated ok n own) t cells n r w (grind (arith, nat_tests)) (w.in_order.allocated ok n own p (λ k. and-snd (nat_le n limit) (h.admits n own) x)) g
hand-requested h e n serve own t cells false false q x w p o z g =
    hand-serves h e own (h.allocated false n own) t cells n (refuse t cells) w (grind (arith, nat_tests)) (w.in_order.allocated false n own p (λ k. absurd (cc))) (refuse-good e (h.asked n) t cells o z)

-- what the parent serves well is served well
hand-served : (h : Handing) (e : Rules) (n : ℕ) (serve : Serve) (s : State) (cells : Cells) → HandsDown h e → is_open s ≡ true → IsSettled (handing_rules h e) s cells
    → (is_open (child s 0) ≡ true → IsSettled e (child s 0) cells → IsGood e (child s 0) cells (h.asked n) (serve (child s 0) cells)) → IsGood (handing_rules h e) s cells n (hand_allocate h n serve s cells)
hand-served h e n serve s cells w o z g =
    let x = hand-opened h e s cells o z in
    subst (λ s. IsGood (handing_rules h e) s cells n (hand_allocate h n serve s cells)) (sym x.form)
    (hand-requested h e n serve (own_of s) (child s 0) cells _ _ refl refl w x.own x.parent x.below (g x.parent x.below))

hand-good : (h : Handing) (e : Rules) → HandsDown h e → Good e → Good (handing_rules h e)
unfolding handing_rules
hand-good h e w law n s cells o z = hand-served h e n (e.allocate (h.asked n)) s cells w o z (λ y x. law (h.asked n) (child s 0) cells y x)

-- and at a multiple where the parent serves it there
hand-at_multiple : (h : Handing) (a n : ℕ) (serve : Serve) (s : State) (cells : Cells) (empty goes : Bool) → ((b : Block) → (h.shown n b).place ≡ b.place) → AtMultiple a (serve (child s 0) cells).answer
    → AtMultiple a (hand_request h empty goes n serve s cells).answer
hand-at_multiple h a n serve s cells true goes place m = λ p q. absurd (cc)
hand-at_multiple h a n serve s cells false true place m = shown-at_multiple 0 a (h.shown n) (serve (child s 0) cells).answer (λ p q. place p.block) m
hand-at_multiple h a n serve s cells false false place m = λ p q. absurd (cc)

aligned-case : (h : Handing) (e : Rules) (n a : ℕ) (serve : Serve) (s : State) (cells : Cells) (q : Bool) → h.aligns ≡ q → HandsDown h e → is_open s ≡ true → IsSettled (handing_rules h e) s cells
    → (is_open (child s 0) ≡ true → IsSettled e (child s 0) cells → IsAlignedGood e (child s 0) cells (h.asked n) a (serve (child s 0) cells)) → IsAlignedGood (handing_rules h e) s cells n a (hand_aligned h q n serve s cells)
aligned-case h e n a serve s cells false q w o z g = refuse-aligned (handing_rules h e) n a s cells o z
aligned-case h e n a serve s cells true q w o z g =
    let x = hand-opened h e s cells o z in
    record {
      good = hand-served h e n serve s cells w o z (λ y x. (g y x).good);
      aligned = hand-at_multiple h a n serve s cells _ _ (w.placed q n) (g x.parent x.below).aligned;
    }

hand-aligned_good : (h : Handing) (e : Rules) → HandsDown h e → AlignedGood e → AlignedGood (handing_rules h e)
unfolding handing_rules
hand-aligned_good h e w law n a s cells p l o z = aligned-case h e n a (e.aligned_allocate (h.asked n) a) s cells h.aligns refl w o z (λ y x. law (h.asked n) a (child s 0) cells p l y x)

-- ---- who owns a block

told-over : (h : Handing) (e : Rules) (own own' : Own) (t u : State) (cells : Cells) → h.passes own' ≡ true → is_open u ≡ true → KeepsTold e t u cells
    → KeepsTold (handing_rules h e) (open_with own (one_child t)) (open_with own' (one_child u)) cells
unfolding handing_rules
told-over h e own own' t u cells p o k = record {
  settled = hand-settles h e own' u cells p o k.settled;
  holds = λ c. ap (λ x. is_served_size c.len && (h.fits c && x)) (k.holds (h.down c));
  extents = λ c. ap (λ x. cond (h.fits c) x no_block) (k.extents (h.down c));
  routes = λ c x. ap (λ r. 0 ∷ r) (k.routes (h.down c) (out-hand h e c (open_with own (one_child t)) cells x).below);
  out = λ c. ap (λ x. nat_le 1 c.len && (h.fits c && x)) (k.out (h.down c));
  clean = λ c bytes. ap (λ x. h.clean c bytes && x) (k.clean (h.down c) bytes);
  marked = λ c bytes. ap (λ x. h.marked c bytes && x) (k.clean (h.down c) bytes);
}

-- whether the parent is asked or not
told-case : (h : Handing) (e : Rules) (b : Block) (own : Own) (t : State) (cells : Cells) (q : Bool) → HandsDown h e → OpennessLaws e → OwnsKeeping e → h.passes own ≡ true → is_open t ≡ true → IsSettled e t cells
    → KeepsTold (handing_rules h e) (open_with own (one_child t)) (let r = owns_child_if q 0 (λ c. e.owns (h.down b)) b (open_with own (one_child t)) in with_own r.state (h.owned (own_of r.state))) cells
told-case h e b own t cells true w stays law p o z = told-over h e own (h.owned own) t (e.owns (h.down b) t).state cells (w.in_order.owned own p) (stays.owns (h.down b) t ∙ o) (law (h.down b) t cells z)
told-case h e b own t cells false w stays law p o z = told-over h e own (h.owned own) t t cells (w.in_order.owned own p) o (same-told e t cells z)

hand-owned : (h : Handing) (e : Rules) → HandsDown h e → OpennessLaws e → OwnsKeeping e → OwnsKeeping (handing_rules h e)
unfolding handing_rules
hand-owned h e w stays law b closed cells z = same-told (handing_rules h e) closed cells z
hand-owned h e w stays law b (open_with own ss) cells z =
    let f = handing_rules h e in
    let s = open_with own ss in
    let x = hand-opened h e s cells refl z in
    subst (λ s. KeepsTold f s (f.owns b s).state cells) (sym x.form) (told-case h e b own (child s 0) cells _ w stays law x.own x.parent x.below)

-- ---- a block is given back

hand-taken_back : (h : Handing) (e : Rules) (own own' : Own) (t : State) (cells : Cells) (b : Block) (r : After Bool) → h.passes own' ≡ true → h.fits b ≡ true → IsFreed e t cells (h.down b) r
    → IsFreed (handing_rules h e) (open_with own (one_child t)) cells b (after r.answer (open_with own' (one_child r.state)) r.cells)
unfolding handing_rules
hand-taken_back h e own own' t cells b r p f g =
    let old = open_with own (one_child t) in
    let new = open_with own' (one_child r.state) in
    record {
      is_set = refl;
      settled = hand-settles h e own' r.state r.cells p g.is_set g.settled;
      extents = λ c o a.
          let x = out-hand h e c old cells o in ap (λ k. cond (h.fits c) k no_block) (g.extents (h.down c) x.below (apart-hand h e old b c f x.fits a));
      routes = λ c o a. let x = out-hand h e c old cells o in ap (λ r. 0 ∷ r) (g.routes (h.down c) x.below (apart-hand h e old b c f x.fits a));
      stays = λ c o a.
          let x = out-hand h e c old cells o in
          hand-out h e c new r.cells (record { is_set = refl; some = x.some; fits = x.fits; below = g.stays (h.down c) x.below (apart-hand h e old b c f x.fits a) });
      table = λ c. g.table c;
    }

hand-freed : (h : Handing) (e : Rules) → HandsDown h e → Freeing e → Freeing (handing_rules h e)
unfolding handing_rules
hand-freed h e w law b s cells o z x =
    let f = handing_rules h e in
    let y = hand-opened h e s cells o z in
    let v = out-hand h e b s cells x in
    let r = e.deallocate (h.down b) (child s 0) cells in
    subst (λ s. IsFreed f s cells b (f.deallocate b s cells)) (sym y.form)
    (hand-taken_back h e (own_of s) (h.deallocated r.answer b (own_of s)) (child s 0) cells b r (w.in_order.deallocated r.answer b (own_of s) y.own) v.fits (law (h.down b) (child s 0) cells y.parent y.below v.below))

-- ---- a block grows

-- what the parent takes is taken by the leaves, which are the same
pub hand-taken : (h : Handing) (e : Rules) (old new : Cells) → OnlyOwnCells e old new → OnlyOwnCells (handing_rules h e) old new
unfolding handing_rules
hand-taken h e old new g = record { count = g.count; each = g.each }

-- the parent grew the block as it sees it, or each stayed as it was
hand-longer : (h : Handing) (e : Rules) (own own' : Own) (t : State) (cells : Cells) (b : Block) (delta d : ℕ) (r : After Bool) → h.passes own' ≡ true → IsOutDown h e b (open_with own (one_child t)) cells
    → h.fits (longer_if r.answer delta b) ≡ true → h.down (longer_if r.answer delta b) ≡ longer_if r.answer d (h.down b) → IsGrown e t cells (h.down b) d r
    → IsGrown (handing_rules h e) (open_with own (one_child t)) cells b delta (after r.answer (open_with own' (one_child r.state)) r.cells)
unfolding handing_rules
hand-longer h e own own' t cells b delta d r p x f same g =
    let old = open_with own (one_child t) in
    let new = open_with own' (one_child r.state) in
    let grown = longer_if r.answer delta b in
    record {
      is_set = refl;
      settled = hand-settles h e own' r.state r.cells p g.is_set g.settled;
      extents = λ c o a.
          let z = out-hand h e c old cells o in ap (λ k. cond (h.fits c) k no_block) (g.extents (h.down c) z.below (λ q. apart-hand h e old b c x.fits z.fits (a q)));
      routes = λ c o a. let z = out-hand h e c old cells o in ap (λ r. 0 ∷ r) (g.routes (h.down c) z.below (λ q. apart-hand h e old b c x.fits z.fits (a q)));
      stays = λ c o a.
          let z = out-hand h e c old cells o in
          hand-out h e c new r.cells (record { is_set = refl; some = z.some; fits = z.fits; below = g.stays (h.down c) z.below (λ q. apart-hand h e old b c x.fits z.fits (a q)) });
      out = hand-out h e grown new r.cells (record { is_set = refl; some = longer-some r.answer delta b x.some; fits = f; below = subst (λ k. e.is_out k r.state r.cells ≡ true) (sym same) g.out });
      found = ap (λ r. 0 ∷ r) (ap (λ k. e.route k r.state) same ∙ g.found);
      fresh = λ c o a.
          let z = out-hand h e c old cells o in
          hand-apart h e new grown c f z.fits (subst (λ k. AreApart e r.state k (h.down c)) (sym same) (g.fresh (h.down c) z.below (apart-hand h e old b c x.fits z.fits a)));
      table = hand-taken h e cells r.cells g.table;
    }

longer-fits : (h : Handing) (e : Rules) → HandsDown h e → (q : Bool) (delta : ℕ) (b : Block) → h.fits b ≡ true → h.fits (longer_if q delta b) ≡ true
longer-fits h e w true delta b f = (w.longer b delta f).fits
longer-fits h e w false delta b f = f

longer-down : (h : Handing) (e : Rules) → HandsDown h e → (q : Bool) (delta : ℕ) (b : Block) → h.fits b ≡ true → h.down (longer_if q delta b) ≡ longer_if q (h.asked (b.len + delta) - h.asked b.len) (h.down b)
longer-down h e w true delta b f = (w.longer b delta f).down
longer-down h e w false delta b f = refl

hand-expansion : (h : Handing) (e : Rules) (own : Own) (t : State) (cells : Cells) (b : Block) (delta : ℕ) (none goes enough : Bool) → nat_eq delta 0 ≡ none → (nat_le (b.len + delta) limit && h.admits delta own) ≡ goes → nat_eq (h.asked b.len) (h.asked (b.len + delta)) ≡ enough
    → HandsDown h e → h.passes own ≡ true → is_open t ≡ true → IsSettled e t cells → Growing e → IsOutDown h e b (open_with own (one_child t)) cells
    → IsGrown (handing_rules h e) (open_with own (one_child t)) cells b delta
    (hand_expansion h none goes enough delta (change_if h.expands (e.expand (h.asked (b.len + delta) - h.asked b.len))) b (h.down b) (open_with own (one_child t)) cells)
unfolding handing_rules
hand-expansion h e own t cells b delta true goes enough z a q w p o s law x =
    by-nothing (handing_rules h e) (open_with own (one_child t)) cells b delta z refl (hand-settles h e own t cells p o s) (hand-out h e b (open_with own (one_child t)) cells x)
hand-expansion h e own t cells b delta false false enough z a q w p o s law x =
    let d = h.asked (b.len + delta) - h.asked b.len in
    hand-longer h e own (h.expanded false delta b own) t cells b delta d (after false t cells) (w.in_order.expanded false delta b own p (λ k. absurd (cc))) x x.fits refl (kept-short e t cells (h.down b) d o s x.below)
hand-expansion h e own t cells b delta false true true z a q w p o s law x =
    let d = h.asked (b.len + delta) - h.asked b.len in
    let k : nat_eq d 0 ≡ true = grind (arith, nat_tests) in
    hand-longer h e own (h.expanded true delta b own) t cells b delta d (after true t cells) (w.in_order.expanded true delta b own p (λ k. and-snd (nat_le (b.len + delta) limit) (h.admits delta own) a)) x (longer-fits h e w true delta b x.fits) (longer-down h e w true delta b x.fits)
    (by-nothing e t cells (h.down b) d k o s x.below)
hand-expansion h e own t cells b delta false true false z a q w p o s law x =
    let d = h.asked (b.len + delta) - h.asked b.len in
    let r = change_if h.expands (e.expand d) (h.down b) t cells in
    hand-longer h e own (h.expanded r.answer delta b own) t cells b delta d r (w.in_order.expanded r.answer delta b own p (λ k. and-snd (nat_le (b.len + delta) limit) (h.admits delta own) a)) x (longer-fits h e w r.answer delta b x.fits) (longer-down h e w r.answer delta b x.fits)
    (offered-grown e h.expands (e.expand d) d (h.down b) t cells o s x.below (law d (h.down b) t cells o s x.below))

hand-grown : (h : Handing) (e : Rules) → HandsDown h e → Growing e → Growing (handing_rules h e)
unfolding handing_rules
hand-grown h e w law delta b s cells o z x =
    let f = handing_rules h e in
    let y = hand-opened h e s cells o z in
    subst (λ s. f.is_out b s cells ≡ true → IsGrown f s cells b delta (f.expand delta b s cells)) (sym y.form)
    (λ x. hand-expansion h e (own_of s) (child s 0) cells b delta _ _ _ refl refl refl w y.own y.parent y.below law (out-hand h e b (open_with (own_of s) (one_child (child s 0))) cells x)) x

-- ---- all blocks are taken back

hand-emptied : (h : Handing) (e : Rules) → HandsDown h e → Emptying e → Emptying (handing_rules h e)
unfolding handing_rules
hand-emptied h e w law s cells o z =
    let f = handing_rules h e in
    let y = hand-opened h e s cells o z in
    let g = law (child s 0) cells y.parent y.below in
    let r = e.deallocate_all (child s 0) cells in
    let new = open_with (h.all_deallocated (own_of s)) (one_child r.state) in
    subst (λ s. IsEmptied f cells (f.deallocate_all s cells)) (sym y.form)
    (record {
      is_set = refl;
      settled = hand-settles h e (h.all_deallocated (own_of s)) r.state r.cells (w.in_order.all_deallocated (own_of s) y.own) g.is_set g.settled;
      none = λ b x. g.none (h.down b) (out-hand h e b new r.cells x).below;
      table = λ c. g.table c;
    })

-- ---- places and tags

kept-below : (h : Handing) (e : Rules) (old new : Cells) → TagsKept (handing_rules h e) old new → TagsKept e old new
unfolding handing_rules
kept-below h e old new k = record { at = k.at; back = k.back }

hand-covers : (h : Handing) (e : Rules) → HandsDown h e → Covering e → Covering (handing_rules h e)
unfolding handing_rules
hand-covers h e w law b s cells z o =
    let x = out-hand h e b s cells o in
    let r = hand-opened h e s cells x.is_set z in
    let c = law (h.down b) (child s 0) cells r.below x.below in
    let v = w.wider b x.fits in
    let q = hand-seen h e b s x.fits in
    record { some = rw q c.some; from = rw q (omega (arith, c.from, v.from)); upto = rw q (omega (arith, c.upto, v.upto)); leaf = rw q c.leaf }

hand-out_tags : (h : Handing) (e : Rules) → OutTags e → OutTags (handing_rules h e)
hand-out_tags h e law b s old new k o =
    let x = out-hand h e b s old o in
    hand-out h e b s new (record { is_set = x.is_set; some = x.some; fits = x.fits; below = law (h.down b) (child s 0) old new (kept-below h e old new k) x.below })

hand-settled_tags : (h : Handing) (e : Rules) → HasSomeTags e → SettledTags e → SettledTags (handing_rules h e)
unfolding handing_rules
hand-settled_tags h e t law s old new k z =
    let v = kept-below h e old new k in
    settled-moved e s old new (hand_settled h e s old) (hand_settled h e s new) t v
    (λ o y. let x = hand-parts h e s old y in
    subst (λ u. hand_settled h e u new ≡ true) (sym x.form) (hand-settles h e (own_of s) (child s 0) new x.own x.parent (law (child s 0) old new v x.below))) z

-- a block whose bytes lie in cells of the leaves has a place and a length that each layer may see
pub covered-plausible : (e : Rules) (b : Block) (s : State) (cells : Cells) → HasSomeTags e → length cells.tags ≤ most_cells → 1 ≤ b.len → Covers e b s cells → is_plausible b ≡ true
covered-plausible e b s cells t m l c =
    let last = end_of b - 1 in
    let tag = t.least (get_or cells.tags (last / 64) 0) (c.leaf last (omega (arith, c.from)) (omega (arith, c.upto))) in
    let r = tag-in_range cells.tags (last / 64) tag in
    let q : end_of b ≤ 64 * most_cells = omega arith in
    grind (arith, nat_tests)

pub hand-some_tags : (h : Handing) (e : Rules) → HasSomeTags e → HasSomeTags (handing_rules h e)
unfolding handing_rules
hand-some_tags h e t = record { least = t.least }

hand-routed : (h : Handing) (e : Rules) → HandsDown h e → HasSomeTags e → Covering e → Routing e → Routing (handing_rules h e)
unfolding handing_rules
hand-routed h e w t cover law b s cells m z o =
    let f = handing_rules h e in
    let x = out-hand h e b s cells o in
    let r = hand-opened h e s cells x.is_set z in
    and_from _ _ (covered-plausible f b s cells (hand-some_tags h e t) m x.some (hand-covers h e w cover b s cells z o)) (and_from _ _ x.fits (law (h.down b) (child s 0) cells m r.below x.below))

hand-aligned : (h : Handing) (e : Rules) → HandsDown h e → Aligning e → Aligning (handing_rules h e)
unfolding handing_rules
hand-aligned h e w law b s cells z o =
    let x = out-hand h e b s cells o in
    let r = hand-opened h e s cells x.is_set z in
    w.tells.shown_aligned b x.fits (law (h.down b) (child s 0) cells r.below x.below)

-- ---- opening

hand-opens : (h : Handing) (e : Rules) → HandsDown h e → OpennessLaws e → Opens e → Opens (handing_rules h e)
unfolding handing_rules
hand-opens h e w stays law need cells o n q =
    let x = if-opens (open_parent h.first (e.set_up (h.need need) cells)) (Ok o) (h.opens_for need) q (λ k z. absurd (cc)) in
    let y = parent-ok h.first (e.set_up (h.need need) cells) o x in
    subst (λ (o : Opened). IsSettled (handing_rules h e) o.state o.cells) y.2
    (hand-settles h e h.first y.0.state y.0.cells w.in_order.first (stays.set_up (h.need need) cells y.0 y.1) (law (h.need need) cells y.0 n y.1))

-- ---- bytes

-- bytes of the leaves stay, and those round a block are of the leaves
own-round : (h : Handing) (e : Rules) (t : State) (cells : Cells) (old new : List ℕ) (c : Block) → Covers e (h.down c) t cells → OwnKept e cells old new → RoundKept c (h.down c) old new
own-round h e t cells old new c d k = record { length_same = k.length_same; at = λ j a b r. k.at j (d.leaf j (omega (arith, d.from)) (omega (arith, d.upto))) }

-- a test of the bytes round a block, and one of the parent, after a change that both stay through
both-kept : (a b x y : Bool) → (a ≡ true → b ≡ true) → (x ≡ true → y ≡ true) → (a && x) ≡ true → (b && y) ≡ true
both-kept a b x y f g z = and_from _ _ (f (and-fst a x z)) (g (and-snd a x z))

hand-own : (h : Handing) (e : Rules) → HandsDown h e → Covering e → OwnFraming e → OwnFraming (handing_rules h e)
unfolding handing_rules
hand-own h e w cover law closed_fields old new cells z i k =
    let none = λ (c : Block) (o : (handing_rules h e).is_out c ((handing_rules h e).read closed_fields old) cells ≡ true). let u = (out-hand h e c ((handing_rules h e).read closed_fields old) cells o).is_set in let x : ⊥ = cc in x in
    record { state = refl; image = refl; clean = λ c o y x. absurd (none c o); marked = λ c o y x. absurd (none c o) }
hand-own h e w cover law (open_fields kept fss) old new cells z i k =
    let s = (handing_rules h e).read (open_fields kept fss) old in
    let t = e.read (nth_fields fss 0) old in
    let p = hand-parts h e s cells z in
    let v : OwnKept e cells old new = record { length_same = k.length_same; at = k.at } in
    let f = law (nth_fields fss 0) old new cells p.below i v in
    let round = λ (c : Block) (u : IsOutDown h e c s cells). own-round h e t cells old new c (cover (h.down c) t cells p.below u.below) v in
    record {
      state = ap (λ t. open_with (h.kept kept) (one_child t)) f.state;
      image = f.image;
      clean = λ c o y x.
          let u = out-hand h e c s cells o in
          both-kept (h.clean c old) (h.clean c new) (e.is_clean (h.down c) t old) (e.is_clean (h.down c) t new) (w.round.clean c old new u.fits (round c u)) (f.clean (h.down c) u.below tt) x;
      marked = λ c o y x.
          let u = out-hand h e c s cells o in
          both-kept (h.marked c old) (h.marked c new) (e.is_clean (h.down c) t old) (e.is_clean (h.down c) t new) (w.round.marked c old new u.fits (round c u)) (f.clean (h.down c) u.below tt) x;
    }

order : (x y : Block) → is_apart x y ≡ true → (end_of x ≤ y.place) ⊎ (end_of y ≤ x.place)
order x y h = grind (arith, nat_tests)

-- a write into a block keeps the bytes round it, and round each block that is apart
round-kept : (h : Handing) (e : Rules) (t : State) (cells : Cells) (old new : List ℕ) (b c : Block) → HandsDown h e → Covering e → IsSettled e t cells → h.fits b ≡ true → e.is_out (h.down b) t cells ≡ true → e.is_out (h.down c) t cells ≡ true
    → (c ≡ b) ⊎ AreApart e t (h.down b) (h.down c) → ChangesInside b old new → RoundKept c (h.down c) old new
round-kept h e t cells old new b c w cover z f ob oc (inl q) k =
    let p : c.place ≡ b.place = ap (λ (b : Block). b.place) q in
    let l : c.len ≡ b.len = ap (λ (b : Block). b.len) q in
    record { length_same = k.length_same; at = λ i x y r. elim r [ inl u ↦ k.below i (omega arith) | inr u ↦ k.above i (omega arith) ] }
round-kept h e t cells old new b c w cover z f ob oc (inr a) k =
    let x = cover (h.down b) t cells z ob in
    let y = cover (h.down c) t cells z oc in
    let v = w.wider b f in
    let d = order (e.extent (h.down b) t) (e.extent (h.down c) t) a.either in
    record { length_same = k.length_same; at = λ i m n r. elim d [ inl u ↦ k.above i (omega (arith, x.upto, y.from, v.upto)) | inr u ↦ k.below i (omega (arith, x.from, y.upto, v.from)) ] }

hand-framed : (h : Handing) (e : Rules) → HandsDown h e → Covering e → Framing e → Framing (handing_rules h e)
unfolding handing_rules
hand-framed h e w cover law closed_fields old new cells b z i o k = absurd (let x = out-hand h e b ((handing_rules h e).read closed_fields old) cells o in let y = x.is_set in cc)
hand-framed h e w cover law (open_fields kept fss) old new cells b z i o k =
    let s = (handing_rules h e).read (open_fields kept fss) old in
    let t = e.read (nth_fields fss 0) old in
    let p = hand-parts h e s cells z in
    let x = out-hand h e b s cells o in
    let v = w.wider b x.fits in
    let f = law (nth_fields fss 0) old new cells (h.down b) p.below i x.below (inside-wider b (h.down b) old new v.from v.upto k) in
    let apart = λ (c : Block) (u : IsOutDown h e c s cells) (y : IsSameOrApart (handing_rules h e) s b c).
    let r : (c ≡ b) ⊎ AreApart e t (h.down b) (h.down c) = elim y [ inl q ↦ inl q | inr m ↦ inr (apart-hand h e s b c x.fits u.fits m) ] in r in
    let same = λ (c : Block) (u : IsOutDown h e c s cells) (y : IsSameOrApart (handing_rules h e) s b c).
    let r : IsSameOrApart e t (h.down b) (h.down c) = elim (apart c u y) [ inl q ↦ inl (ap h.down q) | inr m ↦ inr m ] in r in
    let round = λ (c : Block) (u : IsOutDown h e c s cells) (y : IsSameOrApart (handing_rules h e) s b c).
    round-kept h e t cells old new b c w cover p.below x.fits x.below u.below (apart c u y) k in
    record {
      state = ap (λ t. open_with (h.kept kept) (one_child t)) f.state;
      image = f.image;
      clean = λ c od y r.
          let u = out-hand h e c s cells od in
          both-kept (h.clean c old) (h.clean c new) (e.is_clean (h.down c) t old) (e.is_clean (h.down c) t new) (w.round.clean c old new u.fits (round c u y)) (f.clean (h.down c) u.below (same c u y)) r;
      marked = λ c od y r.
          let u = out-hand h e c s cells od in
          both-kept (h.marked c old) (h.marked c new) (e.is_clean (h.down c) t old) (e.is_clean (h.down c) t new) (w.round.marked c old new u.fits (round c u y)) (f.clean (h.down c) u.below (same c u y)) r;
    }

hand-marked : (h : Handing) (e : Rules) → HandsDown h e → (b : Block) (bytes : List ℕ) (x : Bool) → (h.clean b bytes && x) ≡ true → (h.marked b bytes && x) ≡ true
hand-marked h e w b bytes x z = both-kept (h.clean b bytes) (h.marked b bytes) x x (w.round.clean_is_marked b bytes) (λ y. y) z

-- ---- the families

pub hand-keeping : (h : Handing) (e : Rules) → HandsDown h e → OpennessLaws e → TakingLaws e → KeepingLaws e → KeepingLaws (handing_rules h e)
unfolding handing_rules
hand-keeping h e w g t p =
    let some = λ (b : Block) (s : State) (cells : Cells) (o : (handing_rules h e).is_out b s cells ≡ true). (out-hand h e b s cells o).some in
    record {
      out_some = some;
      out_open = λ b s cells o. some-open (is_open s) _ _ o;
      good = hand-good h e w p.good;
      freed = hand-freed h e w p.freed;
      grown = hand-grown h e w p.grown;
      emptied = hand-emptied h e w p.emptied;
      reallocated = hand-reallocated h e w p.reallocated (record { some = some; takes = (hand-taking h e t).allocate; good = hand-good h e w p.good; freed = hand-freed h e w p.freed; gives = (hand-taking h e t).deallocate_count; grown = hand-grown h e w p.grown });
      same_length = hand-same_length h e;
      aligned = hand-aligned_good h e w p.aligned;
      owned = hand-owned h e w g p.owned;
    }

pub hand-placing : (h : Handing) (e : Rules) → HandsDown h e → HasSomeTags e → PlacingLaws e → PlacingLaws (handing_rules h e)
hand-placing h e w t p =
    record {
      covers = hand-covers h e w p.covers;
      routed = hand-routed h e w t p.covers p.routed;
      aligned = hand-aligned h e w p.aligned;
      out_tags = hand-out_tags h e p.out_tags;
      settled_tags = hand-settled_tags h e t p.settled_tags;
    }

pub hand-framing : (h : Handing) (e : Rules) → HandsDown h e → PlacingLaws e → FramingLaws e → FramingLaws (handing_rules h e)
unfolding handing_rules
hand-framing h e w c p =
    record {
      own_framed = hand-own h e w c.covers p.own_framed;
      framed = hand-framed h e w c.covers p.framed;
      marked = λ b s bytes z. hand-marked h e w b bytes (e.is_clean (h.down b) (child s 0) bytes) z;
    }

pub hand-opening : (h : Handing) (e : Rules) → HandsDown h e → OpennessLaws e → OpeningLaws e → OpeningLaws (handing_rules h e)
unfolding handing_rules
hand-opening h e w o p = record { closed_settled = λ cells. refl; closed_image = λ bytes. refl; opens = hand-opens h e w o p.opens }

-- what is handed down is held below, and is as long at least
pub hand-holding : (h : Handing) (e : Rules) → HandsDown h e → OwningLaws e → HoldingLaws e → HoldingLaws (handing_rules h e)
unfolding handing_rules
hand-holding h e w g p =
    record {
      out_held = λ offered b s cells z o.
          let x = out-hand h e b s cells o in
          let y = hand-opened h e s cells x.is_set z in
          let held = p.out_held offered (h.down b) (child s 0) cells y.below x.below in
          let v = w.wider b x.fits in
          and_from _ _ (and_from _ _ x.is_set (shorter-served b (h.down b) x.some v.from v.upto (g.held_size (h.down b) (child s 0) held))) (and_from _ _ x.fits held);
      own = λ b s cells z o.
          let m = may-hold b s (h.fits b && e.holds (h.down b) (child s 0)) o in
          let fits = and-fst (h.fits b) (e.holds (h.down b) (child s 0)) m.rest in
          let y = hand-opened h e s cells m.is_set z in
          let v = w.wider b fits in
          let k = p.own (h.down b) (child s 0) cells y.below (and-snd (h.fits b) (e.holds (h.down b) (child s 0)) m.rest) in
          record { at = λ i l u. k.at i (omega (arith, v.from)) (omega (arith, v.upto)) };
    }

pub hand-lawful : HandingIsLawful
hand-lawful h e w t g p =
    record {
      keeping = hand-keeping h e w g.openness g.taking p.keeping;
      placing = hand-placing h e w t p.placing;
      framing = hand-framing h e w p.placing p.framing;
      opening = hand-opening h e w g.openness p.opening;
      holding = hand-holding h e w g.owning p.holding;
      paths = hand-paths h e w g p (hand-holding h e w g.owning p.holding) (hand-opening h e w g.openness p.opening);
    }
