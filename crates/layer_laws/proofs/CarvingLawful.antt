-- What is carved from a chunk is lawful over a regular and lawful parent: where blocks lie, bytes, what is set up, and what is held.
use Rattle.std.proofs.Common.{◌≡◌, refl, sym, subst, ap₂, ℕ, ◌≤◌, inl, inr, true, arith, List}
use Rattle.std.proofs.lemmas.Bool.{and_from}
use Rattle.size_round.specs.Sizes.{limit}
use Rattle.space_core.specs.Cells.{Cells}
use Rattle.layer_rules.specs.declared.Block.{Block}
use Rattle.layer_rules.specs.Blocks.{lies_in}
use Rattle.layer_rules.specs.Fields.{Kept, FieldsOf, closed_fields, open_fields, nth_fields}
use Rattle.layer_rules.specs.Rules.{Rules, IsSettled, HasSomeTags}
use Rattle.layer_rules.specs.Setting.{need_of, chunk_given}
use Rattle.layer_rules.specs.State.{open_with, one_child, own_of, child}
use Rattle.layer_laws.proofs.BlockLaws.{lies_from}
use Rattle.layer_laws.proofs.CarvingKeeping.{in-order, out-in, carving-keeping}
use Rattle.layer_laws.proofs.CarvingParts.{image-parts, is_carving, is_carving-parts, is_carving-whole, carving-parts, carving-whole}
use Rattle.layer_laws.proofs.CarvingRegular.{carving-regular}
use Rattle.layer_laws.proofs.HandingLawful.{covered-plausible}
use Rattle.layer_laws.proofs.Owners.{may-hold, served-size, size-may_hold}
use Rattle.layer_laws.proofs.PathEnds.{neither-chunk, end-paths}
use Rattle.layer_laws.proofs.Steps.{within-ok, then-ok, chunk-ok, inside-wider}
use Rattle.layer_laws.proofs.Tests.{settled-moved}
use Rattle.layer_laws.specs.Carves.{BesideKept, Carves, CarvingIsLawful}
use Rattle.layer_laws.specs.Carving.{Carving, carving_rules}
use Rattle.layer_laws.specs.ChunkLaws.{HasChunk}
use Rattle.layer_laws.specs.Lawful.{IsRegular, Good, Covering, Routing, Aligning, OutTags, SettledTags, TagsKept, Opens, OpennessLaws, OwnFraming, Framing, Framed, Any, IsSameOrApart, PlacingLaws, FramingLaws, KeepingLaws, OpeningLaws, HoldingLaws, PathLaws}

-- ---- where blocks lie

carving-covers : (c : Carving) (e : Rules) → Carves c e → IsRegular e → PlacingLaws e → Covering (carving_rules c e)
carving-covers c e w r law b s cells h o =
    let y = out-in c e b s cells o in
    let x = carving-parts c e s cells y.0 h in
    let l = w.lies b (own_of s) (in-order c e s cells w r law.aligned x) y.1 in
    let k = law.covers (c.chunk (own_of s)) (child s 0) cells x.below x.chunk.out in
    record {
      some = omega (arith, l.from, l.upto, y.1.some);
      from = l.from;
      upto = l.upto;
      leaf = λ i p q. k.leaf i (omega (arith, k.from, l.first)) (omega (arith, k.upto, l.last));
    }

carving-some : (c : Carving) (e : Rules) → HasSomeTags e → HasSomeTags (carving_rules c e)
carving-some c e t = record { least = t.least }

carving-routed : (c : Carving) (e : Rules) → Carves c e → HasSomeTags e → IsRegular e → PlacingLaws e → Routing (carving_rules c e)
carving-routed c e w t r law b s cells few h o =
    let y = out-in c e b s cells o in
    let x = carving-parts c e s cells y.0 h in
    let l = w.lies b (own_of s) (in-order c e s cells w r law.aligned x) y.1 in
    and_from _ _ (covered-plausible (carving_rules c e) b s cells (carving-some c e t) few y.1.some (carving-covers c e w r law b s cells h o)) l.room

carving-aligned : (c : Carving) (e : Rules) → Carves c e → IsRegular e → Aligning e → Aligning (carving_rules c e)
carving-aligned c e w r law b s cells h o =
    let y = out-in c e b s cells o in
    let x = carving-parts c e s cells y.0 h in
    (w.lies b (own_of s) (in-order c e s cells w r law x) y.1).aligned

carving-out_tags : (c : Carving) (e : Rules) → OutTags (carving_rules c e)
carving-out_tags c e b s old new k o = o

kept-below : (c : Carving) (e : Rules) (old new : Cells) → TagsKept (carving_rules c e) old new → TagsKept e old new
kept-below c e old new k = record { at = k.at; back = k.back }

carving-settled_tags : (c : Carving) (e : Rules) → HasSomeTags e → OutTags e → SettledTags e → SettledTags (carving_rules c e)
carving-settled_tags c e t out law s old new k h =
    let v = kept-below c e old new k in
    settled-moved e s old new (is_carving c e s old) (is_carving c e s new) t v
    (λ o z. let x = is_carving-parts c e s old z in
    subst (λ u. is_carving c e u new ≡ true) (sym x.form)
    (is_carving-whole c e (own_of s) (child s 0) new x.kind x.passes x.parent (record { out = out (c.chunk (own_of s)) (child s 0) old new v x.chunk.out; bound = x.chunk.bound }) (law (child s 0) old new v x.below))) h

carving-placing : (c : Carving) (e : Rules) → Carves c e → HasSomeTags e → IsRegular e → PlacingLaws e → PlacingLaws (carving_rules c e)
carving-placing c e w t r p = record {
  covers = carving-covers c e w r p;
  routed = carving-routed c e w t r p;
  aligned = carving-aligned c e w r p.aligned;
  out_tags = carving-out_tags c e;
  settled_tags = carving-settled_tags c e t p.out_tags p.settled_tags;
}

-- ---- what is set up

carving-opens : (c : Carving) (e : Rules) → Carves c e → OpennessLaws e → Good e → Opens e → Opens (carving_rules c e)
carving-opens c e w stays good law need cells o n q =
    let size = c.chunk_len need in
    let x = within-ok size _ o q in
    let y = then-ok 1 (e.set_up (need_of need size) cells) (λ o. chunk_given (c.first need) (e.allocate size o.state o.cells)) o x.1 in
    let g = good size y.0.state y.0.cells (stays.set_up (need_of need size) cells y.0 y.1) (law (need_of need size) cells y.0 n y.1) in
    let r = e.allocate size y.0.state y.0.cells in
    let z = chunk-ok (c.first need) r o y.2 in
    let b = z.0.block in
    let len : b.len ≡ size = g.len z.0 z.1 in
    let k = w.opens need b len in
    let bound = x.0 in
    let has : HasChunk e b r.state r.cells = record { out = g.out z.0 z.1; bound = omega (arith, len, bound) } in
    subst (λ o. IsSettled (carving_rules c e) o.state o.cells) z.2
    (carving-whole c e (c.first need b) r.state r.cells k.kind k.passes g.is_set (subst (λ d. HasChunk e d r.state r.cells) (sym k.chunk) has) g.settled)

carving-opening : (c : Carving) (e : Rules) → Carves c e → OpennessLaws e → KeepingLaws e → OpeningLaws e → OpeningLaws (carving_rules c e)
carving-opening c e w r k p = record { closed_settled = λ cells. refl; closed_image = λ bytes. refl; opens = carving-opens c e w r k.good p.opens }

-- ---- bytes

-- where each byte of the chunk that is no block's stays, and the parent keeps what it asks
carving-kept : (c : Carving) (e : Rules) (kept : Kept) (fss : FieldsOf) (old new : List ℕ) (cells : Cells) (Clean Inner : Block → Type 0) → Carves c e → IsRegular e → Aligning e
    → (let s = (carving_rules c e).read (open_fields kept fss) old in IsSettled (carving_rules c e) s cells → (carving_rules c e).is_image (open_fields kept fss) s old ≡ true
    → BesideKept c (c.read kept old) old new → Framed e (nth_fields fss 0) old new cells Inner → Inner (c.chunk (own_of s)) → Framed (carving_rules c e) (open_fields kept fss) old new cells Clean)
carving-kept c e kept fss old new cells Clean Inner w r law h i k f inner =
    let own = c.read kept old in
    let t = e.read (nth_fields fss 0) old in
    let x = carving-parts c e (open_with own (one_child t)) cells refl h in
    let m = image-parts c e (open_fields kept fss) (open_with own (one_child t)) old refl i in
    let same = w.beside kept old new (in-order c e (open_with own (one_child t)) cells w r law x) m.own k in
    record {
      state = ap₂ (λ own t. open_with own (one_child t)) same.read f.state;
      image = and_from _ _ same.image (and_from _ _ (f.clean (c.chunk own) x.chunk.out inner m.clean) f.image);
      clean = λ d o y v. v;
      marked = λ d o y v. v;
    }

carving-own_framed : (c : Carving) (e : Rules) → Carves c e → IsRegular e → PlacingLaws e → OwnFraming e → OwnFraming (carving_rules c e)
carving-own_framed c e w r p law closed_fields old new cells h i k = record { state = refl; image = refl; clean = λ d o y v. v; marked = λ d o y v. v }
carving-own_framed c e w r p law (open_fields kept fss) old new cells h i k =
    let s = (carving_rules c e).read (open_fields kept fss) old in
    let x = carving-parts c e s cells refl h in
    let l = p.covers (c.chunk (own_of s)) (child s 0) cells x.below x.chunk.out in
    let below = law (nth_fields fss 0) old new cells x.below (image-parts c e (open_fields kept fss) s old refl i).below (record { length_same = k.length_same; at = k.at }) in
    carving-kept c e kept fss old new cells Any Any w r p.aligned h i
    (record { length_same = k.length_same; at = λ j from upto beside. k.at j (l.leaf j (omega (arith, l.from)) (omega (arith, l.upto))) }) below tt

carving-framed : (c : Carving) (e : Rules) → Carves c e → IsRegular e → PlacingLaws e → Framing e → Framing (carving_rules c e)
carving-framed c e w r p law closed_fields old new cells b h i o k = absurd (let y = (out-in c e b ((carving_rules c e).read closed_fields old) cells o).0 in cc)
carving-framed c e w r p law (open_fields kept fss) old new cells b h i o k =
    let f = carving_rules c e in
    let s = f.read (open_fields kept fss) old in
    let x = carving-parts c e s cells refl h in
    let y = (out-in c e b s cells o).1 in
    let l = w.lies b (own_of s) (in-order c e s cells w r p.aligned x) y in
    let below = law (nth_fields fss 0) old new cells (c.chunk (own_of s)) x.below (image-parts c e (open_fields kept fss) s old refl i).below x.chunk.out (inside-wider b (c.chunk (own_of s)) old new (omega (arith, l.from, l.first)) (omega (arith, l.upto, l.last)) k) in
    carving-kept c e kept fss old new cells (IsSameOrApart f s b) (IsSameOrApart e (child s 0) (c.chunk (own_of s))) w r p.aligned h i
    (record { length_same = k.length_same; at = λ j from upto beside. elim (beside b y) [ inl d ↦ k.below j d | inr d ↦ k.above j d ] }) below (inl refl)

carving-framing : (c : Carving) (e : Rules) → Carves c e → IsRegular e → PlacingLaws e → FramingLaws e → FramingLaws (carving_rules c e)
carving-framing c e w r p law = record { own_framed = carving-own_framed c e w r p law.own_framed; framed = carving-framed c e w r p law.framed; marked = λ b s bytes h. h }

-- ---- what is held lies in the room, and this in the chunk

carving-holding : (c : Carving) (e : Rules) → Carves c e → IsRegular e → PlacingLaws e → HoldingLaws (carving_rules c e)
carving-holding c e w r p =
    record {
      out_held = λ offered b s cells h o.
          let y = out-in c e b s cells o in
          let x = carving-parts c e s cells y.0 h in
          let l = w.lies b (own_of s) (in-order c e s cells w r p.aligned x) y.1 in
          let len : b.len ≤ limit = omega (arith, l.from, l.upto, l.first, l.last, x.chunk.bound) in
          and_from _ _ (and_from _ _ y.0 (served-size b.len y.1.some len)) l.room;
      own = λ b s cells h o.
          let m = may-hold b s (lies_in b (c.room (own_of s))) o in
          let x = carving-parts c e s cells m.is_set h in
          let k = p.covers (c.chunk (own_of s)) (child s 0) cells x.below x.chunk.out in
          let l = lies_from b (c.room (own_of s)) m.rest in
          let n = w.room (own_of s) (in-order c e s cells w r p.aligned x) in
          record { at = λ i u v. k.leaf i (omega (arith, k.from, n.from, l.0)) (omega (arith, k.upto, n.upto, l.1)) };
    }

-- ---- what is said at a path's end: by the layer itself, since its parent serves no block

carving-paths : (c : Carving) (e : Rules) → Carves c e → IsRegular e → PlacingLaws e → PathLaws (carving_rules c e)
carving-paths c e w r p =
    end-paths (carving_rules c e) (record { asked = λ b s. refl; size = λ b s z. size-may_hold b s (lies_in b (c.room (own_of s))) z }) (λ i path b s. neither-chunk i)
    (carving-holding c e w r p)

pub carving-lawful : CarvingIsLawful
carving-lawful c e w t r p = record {
  keeping = carving-keeping c e w r p.placing.aligned (carving-regular c e w.regular r).taking;
  placing = carving-placing c e w t r p.placing;
  framing = carving-framing c e w r p.placing p.framing;
  opening = carving-opening c e w r.openness p.keeping p.opening;
  holding = carving-holding c e w r p.placing;
  paths = carving-paths c e w r p.placing;
}
