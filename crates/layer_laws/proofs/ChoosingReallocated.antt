-- Choosing by length: a block is reallocated by the member for both lengths, or by the general form of the group's own calls.
use Rattle.std.proofs.Common.{◌≡◌, refl, sym, ap, subst, ◌∙◌, ℕ, ◌≤◌, ◌<◌, inl, inr, Bool, true, false, arith, List, length, nat_eq}
use Rattle.std.proofs.lemmas.Bool.Decides.{nat_tests}
use Rattle.space_core.specs.Cells.{Cells}
use Rattle.layer_rules.specs.declared.Block.{Block}
use Rattle.layer_rules.specs.Blocks.{with_len}
use Rattle.layer_rules.specs.State.{States, nothing, children_of, open_with, nth_child}
use Rattle.layer_rules.specs.After.{After, after, Reallocated, moved_to, stay}
use Rattle.layer_rules.specs.Handing.{shown_by}
use Rattle.layer_rules.specs.Reallocating.{in_place, general_reallocate, either_reallocate}
use Rattle.layer_rules.specs.Rules.{Rules, IsSettled, AreApart}
use Rattle.layer_rules.specs.Members.{nth, offers_of_all}
use Rattle.layer_rules.specs.Choosing.{Choosing, chosen_down, have_one_member, choose_expand, choose_deallocate, choose_allocate, choose_within, choosing_rules}
use Rattle.layer_laws.specs.Chooses.{AreMembers}
use Rattle.layer_laws.proofs.ChoosingParts.{shown-back, other-tags, HaveOneMember, one-member, asked-as_one, out-chosen, chosen-opened, extent-member, apart-member, IsMemberChanged, with_member, changed-sound, changed-extent, changed-extents, changed-out, changed-stays, changed-routes, changed-fresh}
use Rattle.layer_laws.specs.Lawful.{IsReallocated, Reallocating}
use Rattle.layer_laws.proofs.MembersLawful.{leaf-in, some-member, GroupParts, out-some, kept-changed}
use Rattle.layer_laws.proofs.OwnChanges.{changed-wider}
use Rattle.layer_laws.proofs.Reallocated.{KeepsByCalls, kept-unmoved, kept-in_place, asked-reallocated, general-reallocated, IsShownMoved, shown-moved, shown-done, shown-emptied}

-- ---- by one member

member-reallocates : (h : Choosing) (es : List Rules) (i : ℕ) (ss : States) (cells : Cells) (b : Block) (n : ℕ) (r : After Reallocated) → AreMembers h es → HaveOneMember h b.len n → h.chosen b.len ≡ i → 1 ≤ n → i < length es
    → GroupParts es (open_with nothing ss) cells → (choosing_rules h es).is_out b (open_with nothing ss) cells ≡ true → IsReallocated (nth es i) (nth_child ss i) cells (chosen_down h b) (h.asked n) r
    → IsReallocated (choosing_rules h es) (open_with nothing ss) cells b n (after (shown_by (h.shown n) r.answer) (with_member i ss r.state) r.cells)
unfolding choosing_rules
member-reallocates h es i ss cells b n r w one at_i l li p x g =
    let e = nth es i in
    let f = choosing_rules h es in
    let old = open_with nothing ss in
    let new = with_member i ss r.state in
    let m : IsMemberChanged es i ss r.state cells r.cells = record {
      parts = p;
      there = li;
      is_set = g.is_set;
      settled = g.settled;
      others = λ j k. kept-changed e (nth es j) cells r.cells (some-member es j w.own) (other-tags es i h w j k) g.table;
    } in
    let of = λ (c : Block) (q : shown_by (h.shown n) r.answer ≡ moved_to c). shown-moved (h.shown n) r.answer c q in
    let block_of = λ (c : Block) (y : IsShownMoved (h.shown n) r.answer c). let z : c ≡ with_len y.below n = y.block ∙ w.chooses.shown n y.below (g.len y.below y.answered) in z in
    let len = λ (c : Block) (y : IsShownMoved (h.shown n) r.answer c). let z : c.len ≡ n = ap (λ (b : Block). b.len) (block_of c y) in z in
    let fits = λ (c : Block) (y : IsShownMoved (h.shown n) r.answer c). let z : h.fits c.len ≡ true = ap h.fits (len c y) ∙ one.more in z in
    let chosen = λ (c : Block) (y : IsShownMoved (h.shown n) r.answer c). let z : h.chosen c.len ≡ i = ap h.chosen (len c y) ∙ (sym one.same ∙ at_i) in z in
    let seen = λ (c : Block) (y : IsShownMoved (h.shown n) r.answer c). let z : chosen_down h c ≡ y.below = ap (chosen_down h) (block_of c y) ∙ shown-back h n y.below (g.len y.below y.answered) in z in
    let out = λ (c : Block) (y : IsShownMoved (h.shown n) r.answer c). let z : e.is_out (chosen_down h c) r.state r.cells ≡ true = rw (seen c y) (g.out y.below y.answered) in z in
    let apart = λ (c : Block) (y : IsShownMoved (h.shown n) r.answer c) (d : Block) (a : AreApart e r.state y.below d). let z : AreApart e r.state (chosen_down h c) d = subst (λ k. AreApart e r.state k d) (sym (seen c y)) a in z in
    record {
      is_set = refl;
      settled = changed-sound h es i ss r.state cells r.cells w m;
      extents = λ c o a. changed-extents h es i ss r.state cells r.cells m c o (λ k y x. g.extents (chosen_down h c) x (λ z. apart-member h es b c old i one.less k at_i y (a (shown-done (h.shown n) r.answer ∙ z))));
      routes = λ c o a. changed-routes h es i ss r.state cells r.cells m c o (λ k y x. g.routes (chosen_down h c) x (λ z. apart-member h es b c old i one.less k at_i y (a (shown-done (h.shown n) r.answer ∙ z))));
      stays = λ c o a. changed-stays h es i ss r.state cells r.cells w m c o (λ k y x. g.stays (chosen_down h c) x (λ z. apart-member h es b c old i one.less k at_i y (a (shown-done (h.shown n) r.answer ∙ z))));
      len = λ c q. len c (of c q);
      out = λ c q. let y = of c q in let k = len c y in changed-out h es i ss r.state cells r.cells m c (omega arith) (fits c y) (chosen c y) (out c y);
      fresh = λ c q d o a.
          let y = of c q in
          changed-fresh h es i ss r.state cells r.cells w m c (fits c y) (chosen c y) (out c y) d o
          (λ k z u. apart c y (chosen_down h d) (g.fresh y.below y.answered (chosen_down h d) u (apart-member h es b d old i one.less k at_i z a)));
      place = λ c q.
          let y = of c q in
          elim (g.place y.below y.answered) [
            | inl k ↦ inl (ap (λ (b : Block). b.place) (block_of c y) ∙ k)
            | inr k ↦ inr (record { either = rw (changed-extent h es i ss r.state cells r.cells m c (fits c y) (chosen c y), extent-member h es b old i one.less at_i, seen c y) k.either })
          ];
      empty = λ z. absurd (omega arith);
      some = λ q. let y = g.some (shown-emptied (h.shown n) r.answer q) in let k = w.chooses.enough n one.more in absurd (omega arith);
      count = g.count;
      table = changed-wider e f cells r.cells (λ t y. leaf-in es i t y) g.table;
    }

-- in place where both lengths are asked as one
within-case : (h : Choosing) (es : List Rules) (ss : States) (cells : Cells) (b : Block) (n : ℕ) (q : Bool) → nat_eq (h.asked n) (h.asked b.len) ≡ q → AreMembers h es → HaveOneMember h b.len n → 1 ≤ n
    → GroupParts es (open_with nothing ss) cells → IsSettled (choosing_rules h es) (open_with nothing ss) cells → (choosing_rules h es).is_out b (open_with nothing ss) cells ≡ true
    → IsReallocated (choosing_rules h es) (open_with nothing ss) cells b n (either_reallocate q (in_place n) (choose_within h es n) b (open_with nothing ss) cells)
within-case h es ss cells b n true q w one l p z x =
    let same : h.asked b.len ≡ h.asked n = grind (arith, nat_tests) in
    let v = asked-as_one h es b n (open_with nothing ss) cells one same l (out-chosen h es b (open_with nothing ss) cells x) in
    kept-in_place (choosing_rules h es) (open_with nothing ss) cells b n l refl z v.out v.extent
within-case h es ss cells b n false q w one l p z x =
    let i = h.chosen b.len in
    let t = nth_child ss i in
    let c = chosen_down h b in
    let out = out-chosen h es b (open_with nothing ss) cells x in
    let li = out-some es i c t cells out.below in
    member-reallocates h es i ss cells b n ((nth es i).reallocate (h.asked n) c t cells) w one refl l li p x
    ((w.lawful i).keeping.reallocated (h.asked n) c t cells (p.all_open i li) (p.settled i li) out.below)

-- ---- the whole

member-case : (h : Choosing) (es : List Rules) (ss : States) (cells : Cells) (b : Block) (n : ℕ) (q : Bool) → have_one_member h b.len n ≡ q → AreMembers h es → KeepsByCalls (choosing_rules h es) → 1 ≤ n
    → GroupParts es (open_with nothing ss) cells → IsSettled (choosing_rules h es) (open_with nothing ss) cells → (choosing_rules h es).is_out b (open_with nothing ss) cells ≡ true
    → IsReallocated (choosing_rules h es) (open_with nothing ss) cells b n
    (either_reallocate q (either_reallocate (nat_eq (h.asked n) (h.asked b.len)) (in_place n) (choose_within h es n))
    (general_reallocate n (offers_of_all es) (choose_expand h es) (choose_allocate h es n) (choose_deallocate h es)) b (open_with nothing ss) cells)
unfolding choosing_rules
member-case h es ss cells b n true q w calls l p z x = within-case h es ss cells b n _ refl w (one-member h b.len n q) l p z x
member-case h es ss cells b n false q w calls l p z x = general-reallocated (choosing_rules h es) (offers_of_all es) n b (open_with nothing ss) cells calls l refl z x

fits-case : (h : Choosing) (es : List Rules) (ss : States) (cells : Cells) (b : Block) (n : ℕ) (q : Bool) → AreMembers h es → KeepsByCalls (choosing_rules h es) → 1 ≤ n
    → GroupParts es (open_with nothing ss) cells → IsSettled (choosing_rules h es) (open_with nothing ss) cells → (choosing_rules h es).is_out b (open_with nothing ss) cells ≡ true
    → IsReallocated (choosing_rules h es) (open_with nothing ss) cells b n
    (either_reallocate q (either_reallocate (have_one_member h b.len n) (either_reallocate (nat_eq (h.asked n) (h.asked b.len)) (in_place n) (choose_within h es n))
    (general_reallocate n (offers_of_all es) (choose_expand h es) (choose_allocate h es n) (choose_deallocate h es))) stay b (open_with nothing ss) cells)
fits-case h es ss cells b n true w calls l p z x = member-case h es ss cells b n _ refl w calls l p z x
fits-case h es ss cells b n false w calls l p z x = kept-unmoved (choosing_rules h es) (open_with nothing ss) cells b n l refl z

pub choosing-reallocated : (h : Choosing) (es : List Rules) → AreMembers h es → KeepsByCalls (choosing_rules h es) → Reallocating (choosing_rules h es)
unfolding choosing_rules
choosing-reallocated h es w calls n b s cells o z x =
    let f = choosing_rules h es in
    let y = chosen-opened h es s cells o z in
    asked-reallocated f n (choose_deallocate h es) _ b s cells (calls.some b s cells x) o z x (calls.freed b s cells o z x) (calls.gives b s cells) (λ l m.
    subst (λ s. IsSettled f s cells → GroupParts es s cells → f.is_out b s cells ≡ true
    → IsReallocated f s cells b n (either_reallocate (h.fits n) (either_reallocate (have_one_member h b.len n) (either_reallocate (nat_eq (h.asked n) (h.asked b.len)) (in_place n) (choose_within h es n)) (general_reallocate n (offers_of_all es) (choose_expand h es) (choose_allocate h es n) (choose_deallocate h es))) stay b s cells)) (sym y.form)
    (λ z y x. fits-case h es (children_of s) cells b n (h.fits n) w calls l y z x) z y x)
