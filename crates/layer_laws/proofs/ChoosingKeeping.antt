-- Choosing by length: what calls keep and give, over lawful members with tags of their own.
use Rattle.std.proofs.Common.{◌≡◌, refl, sym, ap, subst, ◌∙◌, ℕ, ◌≤◌, ◌<◌, ◌+◌, ◌-◌, inl, inr, Bool, true, false, arith, List, length, nat_eq, Option, option_map, ◌∷◌}
use Rattle.std.proofs.lemmas.Bool.Decides.{nat_tests}
use Rattle.space_core.specs.Cells.{Cells}
use Rattle.layer_rules.specs.declared.Block.{Block}
use Rattle.layer_rules.specs.Blocks.{with_len}
use Rattle.layer_rules.specs.State.{State, States, nothing, is_open, child, children_of, open_with, nth_child}
use Rattle.layer_rules.specs.After.{After, after, Placed, from_child, Serve, opened as opened_as}
use Rattle.layer_rules.specs.Expanding.{change_if}
use Rattle.layer_rules.specs.Rules.{Rules, IsLeaf, IsSettled, AreApart, longer_if}
use Rattle.layer_rules.specs.Members.{nth, empty_each}
use Rattle.layer_rules.specs.Choosing.{Choosing, chosen_down, have_one_member, choose_serve, choose_growth, choose_deallocate, choosing_rules}
use Rattle.layer_laws.proofs.Children.{IsShown, shown-of, shown-at_multiple}
use Rattle.layer_laws.specs.Chooses.{AreMembers}
use Rattle.layer_laws.specs.Lawful.{IsGood, Good, IsFreed, Freeing, IsGrown, Growing, IsEmptied, Emptying, OnlyOwnCells, KeepingLaws, IsAlignedGood, AtMultiple, AlignedGood}
use Rattle.layer_laws.proofs.MembersLawful.{leaf-in, some-member, GroupParts, are-from, out-some, kept-taken, kept-freed, members-emptied}
use Rattle.layer_laws.proofs.ChoosingReallocated.{choosing-reallocated}
use Rattle.layer_laws.proofs.Reallocated.{asked-same}
use Rattle.layer_laws.proofs.Unranged.{regular-unranged}
use Rattle.layer_laws.proofs.ChoosingRegular.{choosing-taking}
use Rattle.layer_laws.proofs.ChoosingParts.{shown-back, other-tags, HaveOneMember, one-member, asked-as_one, out-chosen, chosen-opened, route-member, apart-member, IsMemberChanged, with_member, changed-sound, changed-extents, changed-route, changed-out, changed-stays, changed-fresh, changed-routes}
use Rattle.layer_laws.proofs.Steps.{refuse-good, asked-good, kept-short, kept-long, asked-grown, longer-some, asked-aligned}
use Rattle.layer_laws.proofs.ChoosingOwning.{choosing-owned}
use Rattle.layer_laws.proofs.Tests.{some-open}

-- ---- a request

member-serves : (h : Choosing) (es : List Rules) (i : ℕ) (ss : States) (cells : Cells) (n : ℕ) (r : After (Option Placed)) → AreMembers h es
    → 1 ≤ n → h.fits n ≡ true → h.chosen n ≡ i → i < length es → GroupParts es (open_with nothing ss) cells → OnlyOwnCells (nth es i) cells r.cells → IsGood (nth es i) (nth_child ss i) cells (h.asked n) r
    → IsGood (choosing_rules h es) (open_with nothing ss) cells n (after (option_map (from_child (h.shown n) i) r.answer) (with_member i ss r.state) r.cells)
member-serves h es i ss cells n r w l f mf li p taken g =
    let e = nth es i in
    let old = open_with nothing ss in
    let new = with_member i ss r.state in
    let m : IsMemberChanged es i ss r.state cells r.cells = record {
      parts = p;
      there = li;
      is_set = g.is_set;
      settled = g.settled;
      others = λ j k. kept-taken e (nth es j) cells r.cells (some-member es j w.own) (other-tags es i h w j k) taken;
    } in
    let block_of = λ (q : Placed) (x : IsShown i (h.shown n) r.answer q). let y : q.block ≡ with_len x.below.block n = x.block ∙ w.chooses.shown n x.below.block (g.len x.below x.answered) in y in
    let out_of = λ (q : Placed) (x : IsShown i (h.shown n) r.answer q).
    let y : e.is_out (chosen_down h (with_len x.below.block n)) r.state r.cells ≡ true =
    subst (λ b. e.is_out b r.state r.cells ≡ true) (sym (shown-back h n x.below.block (g.len x.below x.answered))) (g.out x.below x.answered) in y in
    record {
      is_set = refl;
      settled = changed-sound h es i ss r.state cells r.cells w m;
      extents = λ b o. changed-extents h es i ss r.state cells r.cells m b o (λ y z x. g.extents (chosen_down h b) x);
      routes = λ b o. changed-routes h es i ss r.state cells r.cells m b o (λ y z x. g.routes (chosen_down h b) x);
      stays = λ b o. changed-stays h es i ss r.state cells r.cells w m b o (λ y z x. g.stays (chosen_down h b) x);
      len = λ q z. let x = shown-of i (h.shown n) r.answer q z in ap (λ (b : Block). b.len) (block_of q x);
      out = λ q z.
          let x = shown-of i (h.shown n) r.answer q z in
          subst (λ b. (choosing_rules h es).is_out b new r.cells ≡ true) (sym (block_of q x)) (changed-out h es i ss r.state cells r.cells m (with_len x.below.block n) l f mf (out_of q x));
      found = λ q z.
          let x = shown-of i (h.shown n) r.answer q z in
          let b = x.below.block in
          subst (λ c. (choosing_rules h es).route c new ≡ q.route) (sym (block_of q x))
          (changed-route h es i ss r.state cells r.cells m (with_len b n) mf
          ∙ (ap (λ d. i ∷ e.route d r.state) (shown-back h n b (g.len x.below x.answered)) ∙ (ap (λ k. i ∷ k) (g.found x.below x.answered) ∙ sym x.route)));
      fresh = λ q z b o.
          let x = shown-of i (h.shown n) r.answer q z in
          subst (λ c. AreApart (choosing_rules h es) new c b) (sym (block_of q x))
          (changed-fresh h es i ss r.state cells r.cells w m (with_len x.below.block n) f mf (out_of q x) b o
          (λ y z u. subst (λ c. AreApart e r.state c (chosen_down h b)) (sym (shown-back h n x.below.block (g.len x.below x.answered))) (g.fresh x.below x.answered (chosen_down h b) u)));
    }

-- the state of the member for n
abbrev member_state : Choosing → States → (n : ℕ) → State
member_state h ss n = nth_child ss (h.chosen n)

serve-case : (h : Choosing) (es : List Rules) (ss : States) (cells : Cells) (n : ℕ) (serve : Serve) (q : Bool) → h.fits n ≡ q → AreMembers h es → 1 ≤ n → GroupParts es (open_with nothing ss) cells → IsSettled (choosing_rules h es) (open_with nothing ss) cells
    → OnlyOwnCells (nth es (h.chosen n)) cells (serve (member_state h ss n) cells).cells → (h.fits n ≡ true → IsGood (nth es (h.chosen n)) (member_state h ss n) cells (h.asked n) (serve (member_state h ss n) cells))
    → IsGood (choosing_rules h es) (open_with nothing ss) cells n (choose_serve q (h.shown n) (h.chosen n) serve (open_with nothing ss) cells)
serve-case h es ss cells n serve false f w l p s taken g = refuse-good (choosing_rules h es) n (open_with nothing ss) cells refl s
serve-case h es ss cells n serve true f w l p s taken g =
    member-serves h es (h.chosen n) ss cells n (serve (member_state h ss n) cells) w l f refl (w.chooses.there n f) p taken (g f)

choosing-good : (h : Choosing) (es : List Rules) → AreMembers h es → Good (choosing_rules h es)
unfolding choosing_rules
choosing-good h es w n s cells o z =
    let f = choosing_rules h es in
    let x = chosen-opened h es s cells o z in
    let i = h.chosen n in
    let m = h.asked n in
    subst (λ s. IsSettled f s cells → is_open s ≡ true → GroupParts es s cells → IsGood f s cells n (f.allocate n s cells)) (sym x.form)
    (λ z o x. asked-good f n _ _ cells o z (λ l _. serve-case h es (children_of s) cells n _ _ refl w l x z ((w.regular i).taking.allocate m (child s i) cells)
    (λ q. let li = w.chooses.there n q in (w.lawful i).keeping.good m (child s i) cells (x.all_open i li) (x.settled i li)))) z o x

-- at a multiple where the member serves it there
multiple-case : (h : Choosing) (es : List Rules) (ss : States) (cells : Cells) (n a : ℕ) (serve : Serve) (q : Bool) → h.fits n ≡ q → AreMembers h es
    → (h.fits n ≡ true → IsAlignedGood (nth es (h.chosen n)) (member_state h ss n) cells (h.asked n) a (serve (member_state h ss n) cells))
    → AtMultiple a (choose_serve q (h.shown n) (h.chosen n) serve (open_with nothing ss) cells).answer
multiple-case h es ss cells n a serve false f w g = λ p z. absurd (cc)
multiple-case h es ss cells n a serve true f w g =
    let r = serve (member_state h ss n) cells in
    shown-at_multiple (h.chosen n) a (h.shown n) r.answer (λ p z. ap (λ (b : Block). b.place) (w.chooses.shown n p.block ((g f).good.len p z))) (g f).aligned

choosing-aligned_good : (h : Choosing) (es : List Rules) → AreMembers h es → AlignedGood (choosing_rules h es)
unfolding choosing_rules
choosing-aligned_good h es w n a s cells p k o z =
    let f = choosing_rules h es in
    let x = chosen-opened h es s cells o z in
    let i = h.chosen n in
    let m = h.asked n in
    let g = λ (q : h.fits n ≡ true). let li = w.chooses.there n q in (w.lawful i).keeping.aligned m a (child s i) cells p k (x.all_open i li) (x.settled i li) in
    subst (λ s. IsSettled f s cells → is_open s ≡ true → GroupParts es s cells → IsAlignedGood f s cells n a (f.aligned_allocate n a s cells)) (sym x.form)
    (λ z o x. asked-aligned f n a _ _ cells o z (λ l _. record {
      good = serve-case h es (children_of s) cells n _ _ refl w l x z ((w.regular i).taking.aligned_allocate m a (child s i) cells) (λ q. (g q).good);
      aligned = multiple-case h es (children_of s) cells n a _ _ refl w g;
    })) z o x

-- ---- a block is given back

member-freed : (h : Choosing) (es : List Rules) (i : ℕ) (ss : States) (cells : Cells) (b : Block) (r : After Bool) → AreMembers h es
    → h.fits b.len ≡ true → h.chosen b.len ≡ i → i < length es → GroupParts es (open_with nothing ss) cells → IsFreed (nth es i) (nth_child ss i) cells (chosen_down h b) r
    → IsFreed (choosing_rules h es) (open_with nothing ss) cells b (after r.answer (with_member i ss r.state) r.cells)
unfolding choosing_rules
member-freed h es i ss cells b r w f at_i li p g =
    let m : IsMemberChanged es i ss r.state cells r.cells = record {
      parts = p;
      there = li;
      is_set = g.is_set;
      settled = g.settled;
      others = λ j k. kept-freed (nth es j) (IsLeaf (nth es i)) cells r.cells (some-member es j w.own) (other-tags es i h w j k) g.table;
    } in
    record {
      is_set = refl;
      settled = changed-sound h es i ss r.state cells r.cells w m;
      extents = λ c o a. changed-extents h es i ss r.state cells r.cells m c o (λ k e x. g.extents (chosen_down h c) x (apart-member h es b c (open_with nothing ss) i f k at_i e a));
      routes = λ c o a. changed-routes h es i ss r.state cells r.cells m c o (λ k e x. g.routes (chosen_down h c) x (apart-member h es b c (open_with nothing ss) i f k at_i e a));
      stays = λ c o a. changed-stays h es i ss r.state cells r.cells w m c o (λ k e x. g.stays (chosen_down h c) x (apart-member h es b c (open_with nothing ss) i f k at_i e a));
      table = λ c. elim (g.table c) [ inl z ↦ inl z | inr z ↦ inr (z.0, leaf-in es i _ z.1) ];
    }

choosing-freed : (h : Choosing) (es : List Rules) → AreMembers h es → Freeing (choosing_rules h es)
unfolding choosing_rules
choosing-freed h es w b s cells o z x =
    let f = choosing_rules h es in
    let i = h.chosen b.len in
    let c = chosen_down h b in
    let y = chosen-opened h es s cells o z in
    let q = out-chosen h es b s cells x in
    let li = out-some es i c (child s i) cells q.below in
    let g = (w.lawful i).keeping.freed c (child s i) cells (y.all_open i li) (y.settled i li) q.below in
    subst (λ s. GroupParts es s cells → IsFreed f s cells b (f.deallocate b s cells)) (sym y.form)
    (λ y. member-freed h es i (children_of s) cells b ((nth es i).deallocate c (child s i) cells) w q.fits refl li y g) y

-- ---- a block grows

-- a block that grew is handed down as what grew there
grown-down : (h : Choosing) (a : Bool) (delta : ℕ) (b : Block) → h.asked b.len ≤ h.asked (b.len + delta)
    → chosen_down h (longer_if a delta b) ≡ longer_if a (h.asked (b.len + delta) - h.asked b.len) (chosen_down h b)
grown-down h true delta b l = let q : h.asked (b.len + delta) ≡ h.asked b.len + (h.asked (b.len + delta) - h.asked b.len) = omega arith in ap (with_len b) q
grown-down h false delta b l = refl

grown-length : (P : ℕ → Type 0) (a : Bool) (delta : ℕ) (b : Block) → P b.len → P (b.len + delta) → P (longer_if a delta b).len
grown-length P true delta b x y = y
grown-length P false delta b x y = x

member-grows : (h : Choosing) (es : List Rules) (i : ℕ) (ss : States) (cells : Cells) (b : Block) (delta : ℕ) (r : After Bool) → AreMembers h es
    → h.fits b.len ≡ true → h.fits (b.len + delta) ≡ true → h.chosen b.len ≡ i → h.chosen (b.len + delta) ≡ i → 1 ≤ b.len → i < length es → GroupParts es (open_with nothing ss) cells
    → IsGrown (nth es i) (nth_child ss i) cells (chosen_down h b) (h.asked (b.len + delta) - h.asked b.len) r
    → IsGrown (choosing_rules h es) (open_with nothing ss) cells b delta (after r.answer (with_member i ss r.state) r.cells)
unfolding choosing_rules
member-grows h es i ss cells b delta r w f f_new at_i at_new some li p g =
    let e = nth es i in
    let old = open_with nothing ss in
    let new = with_member i ss r.state in
    let grown = longer_if r.answer delta b in
    let m : IsMemberChanged es i ss r.state cells r.cells = record {
      parts = p;
      there = li;
      is_set = g.is_set;
      settled = g.settled;
      others = λ j k. kept-taken e (nth es j) cells r.cells (some-member es j w.own) (other-tags es i h w j k) g.table;
    } in
    let fits = grown-length (λ n. h.fits n ≡ true) r.answer delta b f f_new in
    let chosen = grown-length (λ n. h.chosen n ≡ i) r.answer delta b at_i at_new in
    let l : b.len ≤ b.len + delta = omega arith in
    let q = grown-down h r.answer delta b (w.chooses.in_order b.len (b.len + delta) f f_new (at_i ∙ sym at_new) l) in
    let out : e.is_out (chosen_down h grown) r.state r.cells ≡ true = subst (λ c. e.is_out c r.state r.cells ≡ true) (sym q) g.out in
    record {
      is_set = refl;
      settled = changed-sound h es i ss r.state cells r.cells w m;
      extents = λ c o a. changed-extents h es i ss r.state cells r.cells m c o (λ k y x. g.extents (chosen_down h c) x (λ z. apart-member h es b c old i f k at_i y (a z)));
      routes = λ c o a. changed-routes h es i ss r.state cells r.cells m c o (λ k y x. g.routes (chosen_down h c) x (λ z. apart-member h es b c old i f k at_i y (a z)));
      stays = λ c o a. changed-stays h es i ss r.state cells r.cells w m c o (λ k y x. g.stays (chosen_down h c) x (λ z. apart-member h es b c old i f k at_i y (a z)));
      out = changed-out h es i ss r.state cells r.cells m grown (longer-some r.answer delta b some) fits chosen out;
      found = changed-route h es i ss r.state cells r.cells m grown chosen ∙ (ap (λ k. i ∷ e.route k r.state) q ∙ (ap (λ k. i ∷ k) g.found ∙ sym (route-member h es b old i at_i)));
      fresh = λ c o a. changed-fresh h es i ss r.state cells r.cells w m grown fits chosen out c o
          (λ k y x. subst (λ d. AreApart e r.state d (chosen_down h c)) (sym q) (g.fresh (chosen_down h c) x (apart-member h es b c old i f k at_i y a)));
      table = record { count = g.table.count; each = λ c. elim (g.table.each c) [ inl z ↦ inl z | inr z ↦ inr (z.0, leaf-in es i _ z.1) ] };
    }

-- both lengths are asked as one
grows-enough : (h : Choosing) (es : List Rules) (b : Block) (delta : ℕ) (s : State) (cells : Cells) → HaveOneMember h b.len (b.len + delta) → h.asked b.len ≡ h.asked (b.len + delta)
    → is_open s ≡ true → IsSettled (choosing_rules h es) s cells → (choosing_rules h es).is_out b s cells ≡ true → IsGrown (choosing_rules h es) s cells b delta (after true s cells)
grows-enough h es b delta s cells one q o z x =
    let y = out-chosen h es b s cells x in
    let v = asked-as_one h es b (b.len + delta) s cells one q (omega (arith, y.some)) y in
    kept-long (choosing_rules h es) s cells b delta o z v.out v.extent v.route

-- the member's own growth, where that is offered
growth-case : (h : Choosing) (es : List Rules) (ss : States) (cells : Cells) (b : Block) (delta : ℕ) (q z : Bool) → have_one_member h b.len (b.len + delta) ≡ q → nat_eq (h.asked b.len) (h.asked (b.len + delta)) ≡ z → AreMembers h es
    → GroupParts es (open_with nothing ss) cells → IsSettled (choosing_rules h es) (open_with nothing ss) cells → (choosing_rules h es).is_out b (open_with nothing ss) cells ≡ true
    → IsGrown (choosing_rules h es) (open_with nothing ss) cells b delta (change_if q (choose_growth z (h.chosen b.len) ((nth es (h.chosen b.len)).expand (h.asked (b.len + delta) - h.asked b.len))) (chosen_down h b) (open_with nothing ss) cells)
growth-case h es ss cells b delta false z x y w p s o = kept-short (choosing_rules h es) (open_with nothing ss) cells b delta refl s o
growth-case h es ss cells b delta true true x y w p s o =
    let same : h.asked b.len ≡ h.asked (b.len + delta) = grind (arith, nat_tests) in grows-enough h es b delta (open_with nothing ss) cells (one-member h b.len (b.len + delta) x) same refl s o
growth-case h es ss cells b delta true false x y w p s o =
    let i = h.chosen b.len in
    let more = h.asked (b.len + delta) - h.asked b.len in
    let t = nth_child ss i in
    let c = chosen_down h b in
    let one = one-member h b.len (b.len + delta) x in
    let out = out-chosen h es b (open_with nothing ss) cells o in
    let li = out-some es i c t cells out.below in
    let g = (w.lawful i).keeping.grown more c t cells (p.all_open i li) (p.settled i li) out.below in
    member-grows h es i ss cells b delta ((nth es i).expand more c t cells) w one.less one.more refl (sym one.same) out.some li p g

choosing-grown : (h : Choosing) (es : List Rules) → AreMembers h es → Growing (choosing_rules h es)
unfolding choosing_rules
choosing-grown h es w delta b s cells o z x =
    let f = choosing_rules h es in
    let y = chosen-opened h es s cells o z in
    subst (λ s. IsSettled f s cells → is_open s ≡ true → GroupParts es s cells → f.is_out b s cells ≡ true → IsGrown f s cells b delta (f.expand delta b s cells)) (sym y.form)
    (λ z o y x. asked-grown f delta _ b _ cells o z x (λ l m. growth-case h es (children_of s) cells b delta _ _ refl refl w y z x)) z o y x

-- ---- all blocks are taken back

choosing-emptied : (h : Choosing) (es : List Rules) → AreMembers h es → Emptying (choosing_rules h es)
unfolding choosing_rules
choosing-emptied h es w s cells o z =
    let f = choosing_rules h es in
    let y = chosen-opened h es s cells o z in
    let r = empty_each es 0 (open_with nothing (children_of s)) cells in
    let g = members-emptied es nothing w.own w.lawful (children_of s) cells y.children (λ j l. y.all_open j l) (λ j l. y.settled j l) in
    subst (λ s. IsEmptied f cells (f.deallocate_all s cells)) (sym y.form)
    (subst (λ k. IsEmptied f cells (opened_as k r.cells)) (sym g.form)
    (record {
      is_set = refl;
      settled = are-from es (children_of r.state) r.cells g.whole.count (λ j l. (g.whole.all_open j l, g.whole.settled j l));
      none = λ b x.
          let z = (out-chosen h es b (open_with nothing (children_of r.state)) r.cells x).below in
          let i = h.chosen b.len in
          g.whole.none i (out-some es i (chosen_down h b) (nth_child (children_of r.state) i) r.cells z) (chosen_down h b) z;
      table = g.whole.table;
    }))

pub choosing-keeping : (h : Choosing) (es : List Rules) → AreMembers h es → KeepingLaws (choosing_rules h es)
unfolding choosing_rules
choosing-keeping h es w =
    let some = λ (b : Block) (s : State) (cells : Cells) (o : (choosing_rules h es).is_out b s cells ≡ true). (out-chosen h es b s cells o).some in
    let taking = choosing-taking h es (λ i. regular-unranged (nth es i) (w.regular i)) in
    record {
      out_some = some;
      out_open = λ b s cells o. some-open (is_open s) _ _ o;
      good = choosing-good h es w;
      freed = choosing-freed h es w;
      grown = choosing-grown h es w;
      emptied = choosing-emptied h es w;
      reallocated = choosing-reallocated h es w (record { some = some; takes = taking.allocate; gives = taking.deallocate_count; good = choosing-good h es w; freed = choosing-freed h es w; grown = choosing-grown h es w });
      same_length = λ b s cells. asked-same (choose_deallocate h es) _ b s cells;
      aligned = choosing-aligned_good h es w;
      owned = choosing-owned h es w;
    }
