-- Held by members: where blocks lie, what changes of the table and of bytes leave, what is set up and whose a block is, over lawful members.
use Rattle.std.proofs.Common.{◌≡◌, refl, sym, ap, subst, ◌∙◌, ℕ, ◌<◌, inl, inr, Bool, true, false, List, length, Option, Some, unwrap_or, zero-add}
use Rattle.std.proofs.lemmas.Bool.{and_from, cases_eq}
use Rattle.std.specs.Option.{option_map_or}
use Rattle.size_round.specs.SizeMeanings.{IsMultiple}
use Rattle.space_core.specs.Cells.{Cells}
use Rattle.layer_rules.specs.declared.Block.{Block}
use Rattle.layer_rules.specs.Fields.{Fields, are_open, closed_fields, open_fields, child_fields}
use Rattle.layer_rules.specs.State.{State, closed, open_with, is_open, child}
use Rattle.layer_rules.specs.Members.{nth, read_each, are_images}
use Rattle.layer_rules.specs.Rules.{Rules, IsIn, IsSettled, HasSomeTags}
use Rattle.layer_laws.proofs.ChoosingPlacing.{EachFramed, SeenSame, written-case}
use Rattle.layer_laws.proofs.HandingLawful.{covered-plausible}
use Rattle.layer_laws.proofs.HeldCalls.{held-keeping}
use Rattle.layer_laws.proofs.HeldSeats.{IsHeldGroup, lawful-members, out-holder, holder-out, held-there, group-seated}
use Rattle.layer_laws.specs.HeldByMembers.{HeldByMembersIsLawful}
use Rattle.layer_laws.specs.Lawful.{Covering, Routing, Aligning, OutTags, SettledTags, TagsKept, PlacingLaws, OwnFraming, Framing, Framed, Any, IsSameOrApart, FramingLaws, OpeningLaws, HoldingLaws, PathLaws}
use Rattle.layer_laws.proofs.MembersLawful.{all-regular, all-lawful, beside, least-multiple, out-some, read-at, read-same, image-at, images-from, other-kept}
use Rattle.layer_laws.proofs.Seats.{seat-below, seat-covers}
use Rattle.layer_laws.proofs.SeatsAsked.{seats-paths}
use Rattle.layer_laws.proofs.Tests.{no-cells-kept}

-- ---- where a block lies

held-covers : (g : Rules) (es : List Rules) → IsHeldGroup g es → Covering g
held-covers g es w b s cells z o =
    let k = w.held.stands.parts s cells (out-holder g es w.held b s cells o).is_set z in
    seat-covers g es b s cells (lawful-members g es w) (group-seated g es w s cells k) o

some-tags : (g : Rules) (es : List Rules) → IsHeldGroup g es → HasSomeTags g
some-tags g es w = record { least = λ t l. w.own.some t (subst (λ ts. IsIn ts t) w.held.leaves l) }

held-routed : (g : Rules) (es : List Rules) → IsHeldGroup g es → Routing g
held-routed g es w b s cells few z o =
    let x = out-holder g es w.held b s cells o in
    let i = x.number in
    let k = w.held.stands.parts s cells x.is_set z in
    let l = out-some es i b (child s i) cells x.below in
    w.held.tells.routed b s
    ∙ and_from _ _ (covered-plausible g b s cells (some-tags g es w) few x.some (held-covers g es w b s cells z o))
    (ap (λ q. option_map_or (λ i. (nth es i).is_routed b (child s i)) q false) x.held ∙ (w.lawful i).placing.routed b (child s i) cells few (k.members i l) x.below)

held-aligned : (g : Rules) (es : List Rules) → IsHeldGroup g es → Aligning g
held-aligned g es w b s cells z o =
    let x = out-holder g es w.held b s cells o in
    let i = x.number in
    let k = w.held.stands.parts s cells x.is_set z in
    let l = out-some es i b (child s i) cells x.below in
    subst (IsMultiple b.place) (sym w.held.alignment) (least-multiple es i b.place w.regular l ((w.lawful i).placing.aligned b (child s i) cells (k.members i l) x.below))

-- ---- changes of the table

member-kept : (g : Rules) (es : List Rules) → IsHeldGroup g es → (i : ℕ) (old new : Cells) → TagsKept g old new → TagsKept (nth es i) old new
member-kept g es w i old new k = let m = lawful-members g es w in record { at = λ c l. k.at c (m.leaves i _ l); back = λ c l. k.back c (m.leaves i _ l) }

held-out_tags : (g : Rules) (es : List Rules) → IsHeldGroup g es → OutTags g
held-out_tags g es w b s old new k o =
    let x = out-holder g es w.held b s old o in
    holder-out g es w.held b s new (record { is_set = x.is_set; some = x.some; number = x.number; held = x.held; below = (w.lawful x.number).placing.out_tags b (child s x.number) old new (member-kept g es w x.number old new k) x.below })

held-settled_tags : (g : Rules) (es : List Rules) → IsHeldGroup g es → SettledTags g
held-settled_tags g es w closed old new k z =
    w.held.stands.shut new ∙ no-cells-kept g old new (some-tags g es w) k (sym (w.held.stands.shut old) ∙ z)
held-settled_tags g es w (open_with own ss) old new k z =
    let s = open_with own ss in
    let x = w.held.stands.parts s old refl z in
    w.held.stands.sound s new (record { is_set = refl; in_order = x.in_order; members = λ j l. (w.lawful j).placing.settled_tags (child s j) old new (member-kept g es w j old new k) (x.members j l) })

held-placing : (g : Rules) (es : List Rules) → IsHeldGroup g es → PlacingLaws g
held-placing g es w = record { covers = held-covers g es w; routed = held-routed g es w; aligned = held-aligned g es w; out_tags = held-out_tags g es w; settled_tags = held-settled_tags g es w }

-- ---- bytes

-- what is read of open fields, and its image
read-open : (g : Rules) (es : List Rules) (w : IsHeldGroup g es) (fs : Fields) (bytes : List ℕ) → are_open fs ≡ true → g.read fs bytes ≡ open_with (w.held.stands.own fs) (read_each es 0 fs bytes)
read-open g es w closed_fields bytes o = absurd (cc)
read-open g es w (open_fields kept fss) bytes o = w.held.stands.read (open_fields kept fss) bytes

image-open : (x y : Bool) → y ≡ true → elim y as (λ _. Bool) [ true ↦ x | false ↦ true ] ≡ x
image-open x true e = refl
image-open x false e = absurd (cc)

member-read : (g : Rules) (es : List Rules) (w : IsHeldGroup g es) (fs : Fields) (bytes : List ℕ) → are_open fs ≡ true → (j : ℕ) → j < length es → child (g.read fs bytes) j ≡ (nth es j).read (child_fields fs j) bytes
member-read g es w fs bytes o j l = ap (λ s. child s j) (read-open g es w fs bytes o) ∙ (let q = read-at es 0 j fs bytes l in rw zero-add at q)

opens-read : (g : Rules) (es : List Rules) (w : IsHeldGroup g es) (fs : Fields) (bytes : List ℕ) → are_open fs ≡ true → is_open (g.read fs bytes) ≡ true
opens-read g es w fs bytes o = w.whole.reading.opens_as_fields fs bytes ∙ o

-- what holds of the bytes of each member holds of the whole's blocks, each by its holder
group-framed : (g : Rules) (es : List Rules) (w : IsHeldGroup g es) (fs : Fields) (old new : List ℕ) (cells : Cells) (Clean : ℕ → Block → Type 0) → are_open fs ≡ true → EachFramed es fs old new cells Clean
    → Framed g fs old new cells (λ c. (j : ℕ) → w.held.holder c (g.read fs old) ≡ Some j → Clean j c)
group-framed g es w fs old new cells Clean o f =
    let s = g.read fs old in
    let tells = w.held.tells in
    let at = λ (j : ℕ) (l : j < length es). member-read g es w fs old o j l in
    let clean = λ (c : Block) (x : g.is_out c s cells ≡ true) (y : (j : ℕ) → w.held.holder c s ≡ Some j → Clean j c) (z : g.is_clean c s old ≡ true).
    let k = out-holder g es w.held c s cells x in
    let j = k.number in
    let l = out-some es j c (child s j) cells k.below in
    let seen = λ (bytes : List ℕ). let q : g.is_clean c s bytes ≡ (nth es j).is_clean c (child s j) bytes = tells.clean c s bytes ∙ ap (λ q. (nth es (unwrap_or q 0)).is_clean c (child s (unwrap_or q 0)) bytes) k.held in q in
    let was : (nth es j).is_clean c ((nth es j).read (child_fields fs j) old) old ≡ true = subst (λ u. (nth es j).is_clean c u old ≡ true) (at j l) (sym (seen old) ∙ z) in
    let below = subst (λ u. (nth es j).is_out c u cells ≡ true) (at j l) k.below in
    let now : (nth es j).is_clean c (child s j) new ≡ true = subst (λ u. (nth es j).is_clean c u new ≡ true) (sym (at j l)) ((f j l).clean c below (y j k.held) was) in
    let v : g.is_clean c s new ≡ true = seen new ∙ now in v in
    record {
      state = read-open g es w fs new o ∙ (ap (open_with (w.held.stands.own fs)) (read-same es 0 fs old new (λ j l. rw zero-add (f j l).state)) ∙ sym (read-open g es w fs old o));
      image = w.held.stands.image fs s new
          ∙ (image-open (are_images es 0 fs s new) (is_open s) (opens-read g es w fs old o)
          ∙ images-from es 0 fs s new (λ j l. rw zero-add (subst (λ u. (nth es j).is_image (child_fields fs j) u new ≡ true) (sym (at j l)) (f j l).image)));
      clean = clean;
      marked = λ c x y z. tells.marked c s new ∙ clean c x y (sym (tells.marked c s old) ∙ z);
    }

-- nothing is out of a closed one
shut : (g : Rules) (es : List Rules) (w : IsHeldGroup g es) (b : Block) (bytes : List ℕ) (cells : Cells) → g.is_out b (g.read closed_fields bytes) cells ≡ true → ⊥
shut g es w b bytes cells o =
    let x = (out-holder g es w.held b (g.read closed_fields bytes) cells o).is_set in
    let q : is_open closed ≡ true = subst (λ s. is_open s ≡ true) (w.held.stands.read closed_fields bytes) x in
    cc

-- a closed one keeps what it is read as
shut-framed : (g : Rules) (es : List Rules) (w : IsHeldGroup g es) (old new : List ℕ) (cells : Cells) (Clean : Block → Type 0) → Framed g closed_fields old new cells Clean
shut-framed g es w old new cells Clean = record {
  state = w.held.stands.read closed_fields new ∙ sym (w.held.stands.read closed_fields old);
  image = subst (λ s. g.is_image closed_fields s new ≡ true) (sym (w.held.stands.read closed_fields old)) (w.held.stands.image closed_fields closed new);
  clean = λ c o y z. absurd (shut g es w c old cells o);
  marked = λ c o y z. absurd (shut g es w c old cells o);
}

image-parts : (g : Rules) (es : List Rules) (w : IsHeldGroup g es) (fs : Fields) (s : State) (bytes : List ℕ) → is_open s ≡ true → g.is_image fs s bytes ≡ true → are_images es 0 fs s bytes ≡ true
image-parts g es w fs s bytes o i = sym (image-open (are_images es 0 fs s bytes) (is_open s) o) ∙ (sym (w.held.stands.image fs s bytes) ∙ i)

held-own : (g : Rules) (es : List Rules) → IsHeldGroup g es → OwnFraming g
held-own g es w closed_fields old new cells z i k = shut-framed g es w old new cells Any
held-own g es w (open_fields kept fss) old new cells z i k =
    let fs = open_fields kept fss in
    let s = g.read fs old in
    let set = opens-read g es w fs old refl in
    let h = w.held.stands.parts s cells set z in
    let m = lawful-members g es w in
    let at = λ (j : ℕ) (l : j < length es). member-read g es w fs old refl j l in
    let images = image-parts g es w fs s old set i in
    let f = group-framed g es w fs old new cells (λ j. Any) refl
    (λ j l. (w.lawful j).framing.own_framed (child_fields fs j) old new cells (subst (λ u. IsSettled (nth es j) u cells) (at j l) (h.members j l))
    (subst (λ u. (nth es j).is_image (child_fields fs j) u old ≡ true) (at j l) (let q = image-at es 0 j fs s old images l in rw zero-add at q))
    (record { length_same = k.length_same; at = λ n y. k.at n (m.leaves j _ y) })) in
    record { state = f.state; image = f.image; clean = λ c o y. f.clean c o (λ j q. tt); marked = λ c o y. f.marked c o (λ j q. tt) }

some-same : (o : Option ℕ) (i j : ℕ) → o ≡ Some i → o ≡ Some j → j ≡ i
some-same o i j p q = let z : Some j ≡ Some i = sym q ∙ p in cc

held-framed : (g : Rules) (es : List Rules) → IsHeldGroup g es → Framing g
held-framed g es w closed_fields old new cells b z i o k = absurd (shut g es w b old cells o)
held-framed g es w (open_fields kept fss) old new cells b z i o k =
    let fs = open_fields kept fss in
    let s = g.read fs old in
    let set = opens-read g es w fs old refl in
    let h = w.held.stands.parts s cells set z in
    let at = λ (j : ℕ) (l : j < length es). member-read g es w fs old refl j l in
    let images = image-parts g es w fs s old set i in
    let seats = group-seated g es w s cells h in
    let out = out-holder g es w.held b s cells o in
    let n = out.number in
    let ln = out-some es n b (child s n) cells out.below in
    let settled = λ (j : ℕ) (l : j < length es). subst (λ u. IsSettled (nth es j) u cells) (at j l) (h.members j l) in
    let image = λ (j : ℕ) (l : j < length es). subst (λ u. (nth es j).is_image (child_fields fs j) u old ≡ true) (at j l) (let q = image-at es 0 j fs s old images l in rw zero-add at q) in
    let c = (w.lawful n).placing.covers b (child s n) cells (h.members n ln) out.below in
    let f = (w.lawful n).framing.framed (child_fields fs n) old new cells b (settled n ln) (image n ln) (subst (λ u. (nth es n).is_out b u cells ≡ true) (at n ln) out.below) k in
    let whole = group-framed g es w fs old new cells (SeenSame es fs old n b) refl
    (λ j l. written-case es fs old new cells n b j (cases_eq j n) f
    (λ q. (w.lawful j).framing.own_framed (child_fields fs j) old new cells (settled j l) (image j l)
    (other-kept (nth es n) (nth es j) (child s n) cells old new b c (λ t y z. beside es n j t w.own.distinct (λ e. q (sym e)) y z) k))) in
    let seen = λ (a : Block) (od : g.is_out a s cells ≡ true) (y : IsSameOrApart g s b a) (j : ℕ) (held : w.held.holder a s ≡ Some j).
    let oa = out-holder g es w.held a s cells od in
    let r : SeenSame es fs old n b j a = λ e.
    let at_n : (nth es n).is_out a (child s n) cells ≡ true = subst (λ m. (nth es m).is_out a (child s m) cells ≡ true) (some-same (w.held.holder a s) j oa.number held oa.held ∙ e) oa.below in
    let below : IsSameOrApart (nth es n) (child s n) b a = elim y [ inl q ↦ inl q | inr u ↦ inr (seat-below g es n b a s cells seats out.below at_n u) ] in
    let z : IsSameOrApart (nth es j) ((nth es j).read (child_fields fs j) old) b a =
    subst (λ m. IsSameOrApart (nth es m) ((nth es m).read (child_fields fs m) old) b a) (sym e) (subst (λ u. IsSameOrApart (nth es n) u b a) (at n ln) below) in z in r in
    record {
      state = whole.state;
      image = whole.image;
      clean = λ a od y x. whole.clean a od (seen a od y) x;
      marked = λ a od y x. whole.marked a od (seen a od y) x;
    }

held-framing : (g : Rules) (es : List Rules) → IsHeldGroup g es → FramingLaws g
held-framing g es w = record { own_framed = held-own g es w; framed = held-framed g es w; marked = λ b s bytes h. w.held.tells.marked b s bytes ∙ h }

-- ---- what is set up

held-opening : (g : Rules) (es : List Rules) → IsHeldGroup g es → OpeningLaws g
held-opening g es w = record {
  closed_settled = w.held.stands.shut;
  closed_image = λ bytes. w.held.stands.image closed_fields closed bytes;
  opens = λ need cells o n e. w.held.stands.sound o.state o.cells (w.held.calls.set_up need cells o n e);
}

-- ---- whose a block is

held-holding : (g : Rules) (es : List Rules) → IsHeldGroup g es → HoldingLaws g
held-holding g es w =
    let m = lawful-members g es w in
    record {
      out_held = λ offered b s cells z o.
          let x = out-holder g es w.held b s cells o in
          let i = x.number in
          let k = w.held.stands.parts s cells x.is_set z in
          let l = out-some es i b (child s i) cells x.below in
          let held = (w.lawful i).holding.out_held (w.held.finds.offered offered i l) b (child s i) cells (k.members i l) x.below in
          w.held.finds.holds b s i k.is_set k.in_order l ((w.regular i).owning.held_size b (child s i) held) held;
      own = λ b s cells z o.
          let k = w.held.stands.parts s cells (w.whole.owning.open_holds b s o) z in
          let x = w.held.finds.held b s o in
          let c = (w.lawful x.0).holding.own b (child s x.0) cells (k.members x.0 (held-there es x.0 b (child s x.0) x.1)) x.1 in
          record { at = λ j u v. m.leaves x.0 _ (c.at j u v) };
    }

-- ---- what is said at a path's end

held-paths : (g : Rules) (es : List Rules) → IsHeldGroup g es → PathLaws g
held-paths g es w =
    seats-paths g es (record {
      members = lawful-members g es w;
      regular = w.regular;
      ends = record { asked = w.held.walks.ends; size = w.whole.owning.held_size };
      steps = w.held.walks.steps;
      out_open = λ b s cells o. (out-holder g es w.held b s cells o).is_set;
      seated = λ s cells o z. group-seated g es w s cells (w.held.stands.parts s cells o z);
    }) (held-holding g es w) (held-opening g es w)

-- ---- the whole

pub held-lawful : HeldByMembersIsLawful
held-lawful g es held own whole regular lawful =
    let w : IsHeldGroup g es = record { held = held; own = own; whole = whole; regular = all-regular es regular; lawful = all-lawful es lawful } in
    record { keeping = held-keeping g es w; placing = held-placing g es w; framing = held-framing g es w; opening = held-opening g es w; holding = held-holding g es w; paths = held-paths g es w }
