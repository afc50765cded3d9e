-- Where a block lies, what a write into it keeps, and what a layer keeps while another one, with other leaves, changes its own cells and bytes.
use Rattle.std.proofs.Common.{ℕ, ◌≡◌, ◌≤◌, ◌<◌, ◌-◌, ◌⊎◌, inl, inr, [], length, get_or, true, ap, sym, ◌∙◌, subst, arith}
use Rattle.std.proofs.lemmas.Bool.Decides.{nat_tests}
use Rattle.space_core.specs.Cells.{Cells}
use Rattle.space_core.specs.Memory.{Memory}
use Rattle.layer_rules.specs.declared.Block.{Block}
use Rattle.layer_rules.specs.Blocks.{is_apart, end_of}
use Rattle.layer_rules.specs.Rules.{Rules, IsLeaf, IsBeside, HasMadeTags, HasSomeTags}
use Rattle.layer_rules.specs.Layering.{LayerModel, state_of, kept_state, Stands, IsOutOf}
use Rattle.layer_laws.proofs.CellRooms.{rest_of_multiple}
use Rattle.layer_laws.proofs.BlockLaws.{inside-of}
use Rattle.layer_laws.specs.Lawful.{IsFreeOrOwn, TagsKept, OwnKept, Framed, Any, IsSameOrApart, IsMade}
use Rattle.layer_laws.specs.Standing.{OutIsRouted, RouteIsShort, OutIsAligned, OpenAsFields, OutIsSetUp, extent_of, OutIsPlaced, ApartShareNoByte, Writes, WriteLeaves, WriteChangesOwn, ChangesOwn, MemberChangesOwn, OthersStand, OthersKeepState, OthersKeepOut, OthersKeepBytes, OthersKeepClean, OthersKeepMarked}
use Rattle.layer_laws.proofs.StandingLaws.{some-tags, keeping, placing, framing, covers-of, room-of}

-- ---- where a block lies

pub out-placed : OutIsPlaced
out-placed t m b l h o =
    let c = covers-of t m b l h o in
    let x = extent_of t m b in
    record {
      some = c.some;
      inside = inside-of b x c.from c.upto;
      own = c.leaf;
      room = room-of x m h.memory c.some (h.sound.made.least _ (c.leaf (end_of x - 1) (omega (arith, c.some)) (omega (arith, c.some))));
    }

-- blocks within two that are apart are apart
apart-within : (x y b c : Block) → is_apart x y ≡ true → x.place ≤ b.place → end_of b ≤ end_of x → y.place ≤ c.place → end_of c ≤ end_of y → is_apart b c ≡ true
apart-within x y b c a h k l m = grind (arith, nat_tests)

pub apart-share_no_byte : ApartShareNoByte
apart-share_no_byte t m b c l h ob oc a =
    let v = covers-of t m b l h ob in
    let w = covers-of t m c l h oc in
    apart-within (extent_of t m b) (extent_of t m c) b c a.either v.from v.upto w.from w.upto

-- what is told of a block is the same whatever bytes are read
kept-routed : (t : LayerModel) (m : Memory) (b : Block) → IsMade t.rules → t.rules.is_routed b (kept_state t) ≡ t.rules.is_routed b (state_of t m)
kept-routed t m b l =
    let r = l.regular.reading in
    sym (r.routed b (kept_state t)) ∙ ap (λ s. t.rules.is_routed b s) (r.read t.fields [] m.bytes) ∙ r.routed b (state_of t m)

pub kept-extent : (t : LayerModel) (m : Memory) (b : Block) → IsMade t.rules → t.rules.extent b (kept_state t) ≡ extent_of t m b
kept-extent t m b l =
    let r = l.regular.reading in
    sym (r.extent b (kept_state t)) ∙ ap (λ s. t.rules.extent b s) (r.read t.fields [] m.bytes) ∙ r.extent b (state_of t m)

pub out-routed : OutIsRouted
out-routed t m b l h o = kept-routed t m b l ∙ (placing t m l h).routed b (state_of t m) m.cells h.memory.cells h.sound.settled o

pub route-short : RouteIsShort
route-short t m b l = omega (arith, l.regular.telling.route_depth b (state_of t m), l.shallow)

pub out-aligned : OutIsAligned
out-aligned t m b l h o = rest_of_multiple b.place t.rules.alignment ((placing t m l h).aligned b (state_of t m) m.cells h.sound.settled o)

pub open-as_fields : OpenAsFields
open-as_fields t m l = l.regular.reading.opens_as_fields t.fields m.bytes

pub out-set_up : OutIsSetUp
out-set_up t m b l h o = sym (open-as_fields t m l) ∙ (keeping t m l h).out_open b (state_of t m) m.cells o

-- ---- a write

framed-of : (t : LayerModel) (m m' : Memory) (b : Block) → IsMade t.rules → Stands t m → IsOutOf t m b → Writes b m m' → Framed t.rules t.fields m.bytes m'.bytes m.cells (IsSameOrApart t.rules (state_of t m) b)
framed-of t m m' b l h o k = (framing t m l h).framed t.fields m.bytes m'.bytes m.cells b h.sound.settled h.image o k.bytes

-- what a change of bytes alone leaves standing
stands-again : (t : LayerModel) (m m' : Memory) → Stands t m → m'.cells ≡ m.cells → m'.leaves ≡ m.leaves → length m'.bytes ≡ length m.bytes → state_of t m' ≡ state_of t m → t.rules.is_image t.fields (state_of t m) m'.bytes ≡ true → Stands t m'
stands-again t m m' h ec el es q i =
    record {
      memory = record { sizes = rw (es, ec) h.memory.sizes; cells = rw ec h.memory.cells; leaves = rw el h.memory.leaves };
      sound = record { distinct = h.sound.distinct; made = subst (λ n. HasMadeTags n t.rules) (sym el) h.sound.made; settled = rw (q, ec) h.sound.settled };
      image = subst (λ s. t.rules.is_image t.fields s m'.bytes ≡ true) (sym q) i;
    }

pub write-keeps : WriteLeaves
write-keeps t m m' b l h o k =
    let f = framed-of t m m' b l h o k in
    record {
      stands = stands-again t m m' h k.cells k.leaves k.bytes.length_same f.state f.image;
      state = f.state;
      out = λ c p. rw (f.state, k.cells) p;
      clean = λ c p z w. subst (λ s. t.rules.is_clean c s m'.bytes ≡ true) (sym f.state) (f.clean c p z w);
      marked = λ c p z w. subst (λ s. t.rules.is_marked c s m'.bytes ≡ true) (sym f.state) (f.marked c p z w);
    }

-- a place is before a run, behind it, or in it
three : (lo hi i : ℕ) → (i < lo) ⊎ ((hi ≤ i) ⊎ ((lo ≤ i) × (i < hi)))
three lo hi i = grind arith

pub write-changes_own : WriteChangesOwn
write-changes_own t m m' b l h o k =
    let c = covers-of t m b l h o in
    record {
      memory = (write-keeps t m m' b l h o k).stands.memory;
      size = k.bytes.length_same;
      leaves = k.leaves;
      cells = λ i. inl (ap (λ (x : Cells). get_or x.tags i 0) k.cells);
      foreign = record {
        at = λ i a z. elim (three b.place (end_of b) i) [
          | inl y ↦ k.bytes.below i y
          | inr e ↦ elim e [ inl y ↦ k.bytes.above i y | inr y ↦ absurd (z (c.leaf i (omega (arith, c.from, y.0)) (omega (arith, c.upto, y.1)))) ]
        ];
      };
    }

-- ---- changes of one layer

own-wider : (e f : Rules) → ((t : ℕ) → IsLeaf e t → IsLeaf f t) → (t : ℕ) → IsFreeOrOwn e t → IsFreeOrOwn f t
own-wider e f up t (inl z) = inl z
own-wider e f up t (inr z) = inr (up t z)

pub member-changes_own : MemberChangesOwn
member-changes_own e f m m' up k =
    record {
      memory = k.memory;
      size = k.size;
      leaves = k.leaves;
      cells = λ c. elim (k.cells c) [ inl z ↦ inl z | inr z ↦ inr (own-wider e f up _ z.0, own-wider e f up _ z.1) ];
      foreign = record { at = λ i a z. k.foreign.at i a (λ l. z (up _ l)) };
    }

-- ---- other layers

-- a cell of this layer's leaves is none that the other may change
not-theirs : (e f : Rules) (t : ℕ) → HasSomeTags f → IsBeside e f → IsLeaf f t → IsFreeOrOwn e t → ⊥
not-theirs e f t w b l (inl z) = let s = w.least t l in omega arith
not-theirs e f t w b l (inr z) = b.apart t z l

pub tags-beside : (e f : Rules) (m m' : Memory) → HasSomeTags f → IsBeside e f → ChangesOwn e m m' → TagsKept f m.cells m'.cells
tags-beside e f m m' w b k =
    record {
      at = λ c l. elim (k.cells c) [ inl z ↦ z | inr z ↦ absurd (not-theirs e f _ w b l z.0) ];
      back = λ c l. elim (k.cells c) [ inl z ↦ sym z | inr z ↦ absurd (not-theirs e f _ w b l z.1) ];
    }

pub bytes-beside : (e f : Rules) (m m' : Memory) → HasSomeTags f → IsBeside e f → ChangesOwn e m m' → OwnKept f m.cells m.bytes m'.bytes
bytes-beside e f m m' w b k =
    record { length_same = k.size; at = λ i l. k.foreign.at i (λ z. not-theirs e f _ w b l (inl z)) (λ z. b.apart _ z l) }

framed-beside : (e : Rules) (u : LayerModel) (m m' : Memory) → IsMade u.rules → Stands u m → IsBeside e u.rules → ChangesOwn e m m' → Framed u.rules u.fields m.bytes m'.bytes m.cells Any
framed-beside e u m m' l h b k = let w = some-tags u m h in (framing u m l h).own_framed u.fields m.bytes m'.bytes m.cells h.sound.settled h.image (bytes-beside e u.rules m m' w b k)

pub others-stand : OthersStand
others-stand e u m m' l h b k =
    let f = framed-beside e u m m' l h b k in
    let w = some-tags u m h in
    record {
      memory = k.memory;
      sound = record {
        distinct = h.sound.distinct;
        made = subst (λ n. HasMadeTags n u.rules) (sym k.leaves) h.sound.made;
        settled = rw f.state ((placing u m l h).settled_tags (state_of u m) m.cells m'.cells (tags-beside e u.rules m m' w b k) h.sound.settled);
      };
      image = subst (λ s. u.rules.is_image u.fields s m'.bytes ≡ true) (sym f.state) f.image;
    }

pub others-keep_state : OthersKeepState
others-keep_state e u m m' l h b k = (framed-beside e u m m' l h b k).state

pub others-keep_out : OthersKeepOut
others-keep_out e u m m' l h b k c o =
    let w = some-tags u m h in
    rw (framed-beside e u m m' l h b k).state ((placing u m l h).out_tags c (state_of u m) m.cells m'.cells (tags-beside e u.rules m m' w b k) o)

pub others-keep_bytes : OthersKeepBytes
others-keep_bytes e u m m' l h b k c o i x y =
    let v = covers-of u m c l h o in
    (bytes-beside e u.rules m m' (some-tags u m h) b k).at i (v.leaf i (omega (arith, v.from)) (omega (arith, v.upto)))

pub others-keep_clean : OthersKeepClean
others-keep_clean e u m m' l h b k c o z =
    let f = framed-beside e u m m' l h b k in subst (λ s. u.rules.is_clean c s m'.bytes ≡ true) (sym f.state) (f.clean c o tt z)

pub others-keep_marked : OthersKeepMarked
others-keep_marked e u m m' l h b k c o z =
    let f = framed-beside e u m m' l h b k in subst (λ s. u.rules.is_marked c s m'.bytes ≡ true) (sym f.state) (f.marked c o tt z)
