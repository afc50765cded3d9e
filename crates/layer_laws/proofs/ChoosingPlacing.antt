-- Choosing by length: where blocks lie, what changes of the table and of bytes leave, and what is set up, over lawful members with tags of their own.
use Rattle.std.proofs.Common.{◌≡◌, refl, sym, ap, subst, ℕ, ◌≤◌, ◌<◌, ◌⊎◌, inl, inr, zero, suc, true, ◌&&◌, arith, List, [], ◌∷◌, length, zero-add}
use Rattle.std.proofs.lemmas.Bool.{and_from, cases_eq}
use Rattle.space_core.specs.Cells.{Cells}
use Rattle.layer_rules.specs.declared.Block.{Block}
use Rattle.layer_rules.specs.Blocks.{end_of}
use Rattle.layer_rules.specs.Fields.{Fields, are_open, closed_fields, open_fields, child_fields}
use Rattle.layer_rules.specs.State.{nothing, child, children_of, open_with}
use Rattle.layer_rules.specs.After.{Opened}
use Rattle.layer_rules.specs.Rules.{Rules, IsSettled, HasSomeTags}
use Rattle.layer_rules.specs.Members.{nth, open_each, group_settled, offers_of_all}
use Rattle.layer_rules.specs.Choosing.{Choosing, chosen_down, choosing_rules}
use Rattle.layer_laws.proofs.Basics.{and-fst, and-snd}
use Rattle.layer_laws.proofs.Owners.{may-hold, shorter-served}
use Rattle.layer_laws.specs.Chooses.{ChoosingIsLawful, AreMembers}
use Rattle.layer_laws.specs.Lawful.{Covering, Routing, Aligning, OutTags, SettledTags, TagsKept, PlacingLaws, OwnFraming, Framing, Framed, Any, IsSameOrApart, FramingLaws, Opens, OpeningLaws, HoldingLaws}
use Rattle.layer_laws.proofs.MembersLawful.{all-regular, all-lawful, leaf-in, beside, group-parts, are-from, out-some, read-at, read-same, image-at, images-from, other-kept, least-multiple, opens-each, group-ok}
use Rattle.layer_laws.proofs.ChoosingAsked.{choosing-paths}
use Rattle.layer_laws.proofs.ChoosingParts.{out-chosen, chosen-out, chosen-opened, extent-member, apart-member}
use Rattle.layer_laws.proofs.ChoosingKeeping.{choosing-keeping}
use Rattle.layer_laws.proofs.Steps.{inside-wider}
use Rattle.layer_laws.proofs.HandingLawful.{covered-plausible}
use Rattle.layer_laws.proofs.Tests.{settled-moved}

-- a block lies in what is handed down of it
handed-end : (h : Choosing) (es : List Rules) (b : Block) → AreMembers h es → h.fits b.len ≡ true → end_of b ≤ end_of (chosen_down h b)
handed-end h es b w f = let l = w.chooses.enough b.len f in omega arith

-- ---- where a block lies

choosing-covers : (h : Choosing) (es : List Rules) → AreMembers h es → Covering (choosing_rules h es)
unfolding choosing_rules
choosing-covers h es w b s cells z o =
    let f = choosing_rules h es in
    let i = h.chosen b.len in
    let x = out-chosen h es b s cells o in
    let r = chosen-opened h es s cells x.is_set z in
    let c = (w.lawful i).placing.covers (chosen_down h b) (child s i) cells (r.settled i (out-some es i (chosen_down h b) (child s i) cells x.below)) x.below in
    let q = extent-member h es b s i x.fits refl in
    let l = handed-end h es b w x.fits in
    let upto = c.upto in
    let inner : end_of b ≤ end_of ((nth es i).extent (chosen_down h b) (child s i)) = omega arith in
    record {
      some = rw q c.some;
      from = rw q c.from;
      upto = rw q inner;
      leaf = λ k y z. leaf-in es i _ (c.leaf k (rw q at y) (rw q at z));
    }

choosing-some : (h : Choosing) (es : List Rules) → AreMembers h es → HasSomeTags (choosing_rules h es)
unfolding choosing_rules
choosing-some h es w = record { least = w.own.some }

choosing-routed : (h : Choosing) (es : List Rules) → AreMembers h es → Routing (choosing_rules h es)
unfolding choosing_rules
choosing-routed h es w b s cells m z o =
    let i = h.chosen b.len in
    let c = chosen_down h b in
    let x = out-chosen h es b s cells o in
    let r = chosen-opened h es s cells x.is_set z in
    and_from _ _ (covered-plausible (choosing_rules h es) b s cells (choosing-some h es w) m x.some (choosing-covers h es w b s cells z o))
    (and_from _ _ x.fits ((w.lawful i).placing.routed c (child s i) cells m (r.settled i (out-some es i c (child s i) cells x.below)) x.below))

choosing-aligned : (h : Choosing) (es : List Rules) → AreMembers h es → Aligning (choosing_rules h es)
unfolding choosing_rules
choosing-aligned h es w b s cells z o =
    let i = h.chosen b.len in
    let c = chosen_down h b in
    let x = out-chosen h es b s cells o in
    let r = chosen-opened h es s cells x.is_set z in
    let l = out-some es i c (child s i) cells x.below in
    least-multiple es i b.place w.regular l ((w.lawful i).placing.aligned c (child s i) cells (r.settled i l) x.below)

-- ---- changes of the table

member-kept : (h : Choosing) (es : List Rules) (i : ℕ) (old new : Cells) → TagsKept (choosing_rules h es) old new → TagsKept (nth es i) old new
unfolding choosing_rules
member-kept h es i old new k = record { at = λ c l. k.at c (leaf-in es i _ l); back = λ c l. k.back c (leaf-in es i _ l) }

choosing-out_tags : (h : Choosing) (es : List Rules) → AreMembers h es → OutTags (choosing_rules h es)
choosing-out_tags h es w b s old new k o =
    let i = h.chosen b.len in
    let x = out-chosen h es b s old o in
    chosen-out h es b s new (record { is_set = x.is_set; some = x.some; fits = x.fits; below = (w.lawful i).placing.out_tags (chosen_down h b) (child s i) old new (member-kept h es i old new k) x.below })

choosing-settled_tags : (h : Choosing) (es : List Rules) → AreMembers h es → SettledTags (choosing_rules h es)
unfolding choosing_rules
choosing-settled_tags h es w s old new k z =
    settled-moved (choosing_rules h es) s old new (group_settled es s old) (group_settled es s new) (choosing-some h es w) k
    (λ o z. let x = group-parts es s old z in
    subst (λ u. group_settled es u new ≡ true) (sym x.form)
    (are-from es (children_of s) new x.children (λ j l. (x.all_open j l, (w.lawful j).placing.settled_tags (child s j) old new (member-kept h es j old new k) (x.settled j l))))) z

pub choosing-placing : (h : Choosing) (es : List Rules) → AreMembers h es → PlacingLaws (choosing_rules h es)
choosing-placing h es w = record { covers = choosing-covers h es w; routed = choosing-routed h es w; aligned = choosing-aligned h es w; out_tags = choosing-out_tags h es w; settled_tags = choosing-settled_tags h es w }

-- ---- what is set up

choosing-opens : (h : Choosing) (es : List Rules) → AreMembers h es → Opens (choosing_rules h es)
unfolding choosing_rules
choosing-opens h es w need cells o n q =
    let x = group-ok nothing (open_each es (h.need need) 0 1 cells) o q in
    let g = opens-each es w.own w.regular w.lawful (h.need need) 0 1 cells x.0 n x.1 in
    subst (λ (p : Opened). IsSettled (choosing_rules h es) p.state p.cells) x.2 (are-from es x.0.0 x.0.1 g.count g.members)

pub choosing-opening : (h : Choosing) (es : List Rules) → AreMembers h es → OpeningLaws (choosing_rules h es)
unfolding choosing_rules
choosing-opening h es w = record { closed_settled = λ cells. refl; closed_image = λ bytes. refl; opens = choosing-opens h es w }

-- ---- bytes

-- what holds of the bytes of each member, from its fields
abbrev pub EachFramed : List Rules → Fields → (old new : List ℕ) → Cells → (ℕ → Block → Type 0) → Type 0
EachFramed es fs old new cells Clean = (j : ℕ) → j < length es → Framed (nth es j) (child_fields fs j) old new cells (Clean j)

group-framed : (h : Choosing) (es : List Rules) (fs : Fields) (old new : List ℕ) (cells : Cells) (Clean : ℕ → Block → Type 0) → are_open fs ≡ true → EachFramed es fs old new cells Clean
    → Framed (choosing_rules h es) fs old new cells (λ c. Clean (h.chosen c.len) (chosen_down h c))
unfolding choosing_rules
group-framed h es closed_fields old new cells Clean o f = absurd (cc)
group-framed h es (open_fields kept fss) old new cells Clean o f =
    let fs = open_fields kept fss in
    let s = (choosing_rules h es).read fs old in
    let at = λ (j : ℕ) (l : j < length es). let q = read-at es 0 j fs old l in rw zero-add at q in
    let clean = λ (c : Block) (o : (choosing_rules h es).is_out c s cells ≡ true) (y : Clean (h.chosen c.len) (chosen_down h c)) (x : (choosing_rules h es).is_clean c s old ≡ true).
    let j = h.chosen c.len in
    let d = chosen_down h c in
    let b = (out-chosen h es c s cells o).below in
    let l = out-some es j d (child s j) cells b in
    let z : (nth es j).is_clean d (child s j) new ≡ true = rw (at j l) ((f j l).clean d (rw (at j l) at b) y (rw (at j l) at x)) in z in
    record {
      state = ap (λ ss. open_with nothing ss) (read-same es 0 fs old new (λ j l. rw zero-add (f j l).state));
      image = images-from es 0 fs s new (λ j l. rw zero-add (rw (at j l) (f j l).image));
      clean = clean;
      marked = clean;
    }

-- nothing is out of a closed group
shut : (h : Choosing) (es : List Rules) (b : Block) (bytes : List ℕ) (cells : Cells) → (choosing_rules h es).is_out b ((choosing_rules h es).read closed_fields bytes) cells ≡ true → ⊥
unfolding choosing_rules
shut h es b bytes cells o = let x = out-chosen h es b ((choosing_rules h es).read closed_fields bytes) cells o in let y = x.is_set in cc

choosing-own : (h : Choosing) (es : List Rules) → AreMembers h es → OwnFraming (choosing_rules h es)
unfolding choosing_rules
choosing-own h es w closed_fields old new cells z i k =
    record { state = refl; image = refl; clean = λ c o y z. absurd (shut h es c old cells o); marked = λ c o y z. absurd (shut h es c old cells o) }
choosing-own h es w (open_fields kept fss) old new cells z i k =
    let fs = open_fields kept fss in
    let s = (choosing_rules h es).read fs old in
    let p = group-parts es s cells z in
    let at = λ (j : ℕ) (l : j < length es). let q = read-at es 0 j fs old l in rw zero-add at q in
    group-framed h es fs old new cells (λ j. Any) refl
    (λ j l. (w.lawful j).framing.own_framed (child_fields fs j) old new cells (rw (at j l) at (p.settled j l)) (rw (at j l) at (let q = image-at es 0 j fs s old i l in rw zero-add at q)) (record { length_same = k.length_same; at = λ m y. k.at m (leaf-in es j _ y) }))

-- of the written member a block is the same or apart, and any block of another is untouched
abbrev pub SeenSame : List Rules → Fields → (bytes : List ℕ) → (i : ℕ) → Block → ℕ → Block → Type 0
SeenSame es fs bytes i b j c = j ≡ i → IsSameOrApart (nth es j) ((nth es j).read (child_fields fs j) bytes) b c

pub written-case : (es : List Rules) (fs : Fields) (old new : List ℕ) (cells : Cells) (i : ℕ) (b : Block) (j : ℕ) → (j ≡ i) ⊎ (j ≡ i → ⊥)
    → Framed (nth es i) (child_fields fs i) old new cells (IsSameOrApart (nth es i) ((nth es i).read (child_fields fs i) old) b)
    → ((j ≡ i → ⊥) → Framed (nth es j) (child_fields fs j) old new cells Any)
    → Framed (nth es j) (child_fields fs j) old new cells (SeenSame es fs old i b j)
written-case es fs old new cells i b j (inl e) f g =
    let x = subst (λ k. Framed (nth es k) (child_fields fs k) old new cells (IsSameOrApart (nth es k) ((nth es k).read (child_fields fs k) old) b)) (sym e) f in
    record { state = x.state; image = x.image; clean = λ c o y. x.clean c o (y e); marked = λ c o y. x.marked c o (y e) }
written-case es fs old new cells i b j (inr m) f g = let x = g m in record { state = x.state; image = x.image; clean = λ c o y. x.clean c o tt; marked = λ c o y. x.marked c o tt }

choosing-framed : (h : Choosing) (es : List Rules) → AreMembers h es → Framing (choosing_rules h es)
unfolding choosing_rules
choosing-framed h es w closed_fields old new cells b z i o k = absurd (shut h es b old cells o)
choosing-framed h es w (open_fields kept fss) old new cells b z i o k =
    let fs = open_fields kept fss in
    let s = (choosing_rules h es).read fs old in
    let p = group-parts es s cells z in
    let at = λ (j : ℕ) (l : j < length es). let q = read-at es 0 j fs old l in rw zero-add at q in
    let n = h.chosen b.len in
    let d = chosen_down h b in
    let out = out-chosen h es b s cells o in
    let x = out.below in
    let ln = out-some es n d (child s n) cells x in
    let settled = λ (j : ℕ) (l : j < length es). rw (at j l) at (p.settled j l) in
    let image = λ (j : ℕ) (l : j < length es). rw (at j l) at (let q = image-at es 0 j fs s old i l in rw zero-add at q) in
    let c = (w.lawful n).placing.covers d (child s n) cells (p.settled n ln) x in
    let from : d.place ≤ b.place = omega arith in
    let inside = inside-wider b d old new from (handed-end h es b w out.fits) k in
    let f = (w.lawful n).framing.framed (child_fields fs n) old new cells d (settled n ln) (image n ln) (rw (at n ln) at x) inside in
    let whole = group-framed h es fs old new cells (SeenSame es fs old n d) refl
    (λ j l. written-case es fs old new cells n d j (cases_eq j n) f
    (λ q. (w.lawful j).framing.own_framed (child_fields fs j) old new cells (settled j l) (image j l)
    (other-kept (nth es n) (nth es j) (child s n) cells old new d c (λ t y z. beside es n j t w.own.distinct (λ e. q (sym e)) y z) inside))) in
    let seen = λ (a : Block) (od : (choosing_rules h es).is_out a s cells ≡ true) (z : IsSameOrApart (choosing_rules h es) s b a).
    let oa = out-chosen h es a s cells od in
    let m = h.chosen a.len in
    let lm = out-some es m (chosen_down h a) (child s m) cells oa.below in
    let y : SeenSame es fs old n d m (chosen_down h a) =
    λ q. elim z [ inl e ↦ inl (ap (chosen_down h) e) | inr u ↦ inr (rw (at m lm) at (apart-member h es b a s m out.fits oa.fits (sym q) refl u)) ] in y in
    record {
      state = whole.state;
      image = whole.image;
      clean = λ a od z y. whole.clean a od (seen a od z) y;
      marked = λ a od z y. whole.marked a od (seen a od z) y;
    }

pub choosing-framing : (h : Choosing) (es : List Rules) → AreMembers h es → FramingLaws (choosing_rules h es)
unfolding choosing_rules
choosing-framing h es w = record { own_framed = choosing-own h es w; framed = choosing-framed h es w; marked = λ b s bytes h. h }

-- ---- whose a block is

each-owns : (es : List Rules) (i : ℕ) → i < length es → (offers_of_all es).owns ≡ true → (nth es i).offers.owns ≡ true
each-owns [] i l h = absurd (omega arith)
each-owns (e ∷ es) zero l h = and-fst e.offers.owns (offers_of_all es).owns h
each-owns (e ∷ es) (suc i) l h = each-owns es i (omega arith) (and-snd e.offers.owns (offers_of_all es).owns h)

pub choosing-holding : (h : Choosing) (es : List Rules) → AreMembers h es → HoldingLaws (choosing_rules h es)
unfolding choosing_rules
choosing-holding h es w =
    record {
      out_held = λ offered b s cells z o.
          let i = h.chosen b.len in
          let d = chosen_down h b in
          let x = out-chosen h es b s cells o in
          let y = chosen-opened h es s cells x.is_set z in
          let l = out-some es i d (child s i) cells x.below in
          let held = (w.lawful i).holding.out_held (each-owns es i l offered) d (child s i) cells (y.settled i l) x.below in
          let from : d.place ≤ b.place = omega arith in
          and_from _ _ (and_from _ _ x.is_set (shorter-served b d x.some from (handed-end h es b w x.fits) ((w.regular i).owning.held_size d (child s i) held))) (and_from _ _ x.fits held);
      own = λ b s cells z o.
          let i = h.chosen b.len in
          let d = chosen_down h b in
          let m = may-hold b s (h.fits b.len && (nth es i).holds d (child s i)) o in
          let fits = and-fst (h.fits b.len) ((nth es i).holds d (child s i)) m.rest in
          let y = chosen-opened h es s cells m.is_set z in
          let l = w.chooses.there b.len fits in
          let k = (w.lawful i).holding.own d (child s i) cells (y.settled i l) (and-snd (h.fits b.len) ((nth es i).holds d (child s i)) m.rest) in
          let end = handed-end h es b w fits in
          record { at = λ j u v. leaf-in es i _ (k.at j (omega arith) (omega arith)) };
    }

-- ---- the whole

pub choosing-lawful : ChoosingIsLawful
choosing-lawful h es c own regular lawful =
    let w : AreMembers h es = record { chooses = c; own = own; regular = all-regular es regular; lawful = all-lawful es lawful } in
    record {
      keeping = choosing-keeping h es w;
      placing = choosing-placing h es w;
      framing = choosing-framing h es w;
      opening = choosing-opening h es w;
      holding = choosing-holding h es w;
      paths = choosing-paths h es w (choosing-holding h es w) (choosing-opening h es w);
    }
