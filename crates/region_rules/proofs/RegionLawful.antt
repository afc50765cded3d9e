-- A region is lawful over a regular and lawful parent.
use Rattle.std.proofs.Common.{◌≡◌, refl, sym, ap, subst, ◌∙◌, ℕ, ◌≤◌, ◌+◌, ◌-◌, ◌%◌, inl, inr, true, ◌&&◌, arith, nat_le, nat_eq, max}
use Rattle.std.proofs.lemmas.Bool.Decides.{nat_tests}
use Rattle.std.proofs.Math.Nat.{zero-mod, add-mul-mod_self_right}
use Rattle.size_round.specs.Sizes.{up, ceil_div}
use Rattle.size_round.specs.SizeMeanings.{IsMultiple, IsPower}
use Rattle.size_round.proofs.UpLeast.{enough_times, up_is_least}
use Rattle.size_round.proofs.PowerLaws.{power_is_some}
use Rattle.space_core.specs.Cells.{Cells}
use Rattle.layer_rules.specs.declared.Block.{Block}
use Rattle.layer_rules.specs.Blocks.{block, end_of, is_apart, with_len}
use Rattle.layer_rules.specs.State.{State, Own, region_own, open_with, one_child, is_open, own_of, child, chunk_in, position_in, chunk_of, position_of}
use Rattle.layer_rules.specs.Rules.{Rules, IsSettled}
use Rattle.layer_laws.proofs.BlockLaws.{apart_from, inside-of}
use Rattle.layer_laws.proofs.CarvingLawful.{carving-lawful}
use Rattle.layer_laws.proofs.CarvingParts.{is_carving, is_carving-parts, carving-whole}
use Rattle.layer_laws.proofs.Tests.{opened}
use Rattle.layer_laws.specs.Carving.{alone}
use Rattle.layer_laws.proofs.ChunkLaws.{rounded-len}
use Rattle.layer_laws.proofs.CellRooms.{multiple_of_multiple, multiple_from_rest, rest_of_multiple}
use Rattle.layer_laws.proofs.Multiples.{multiple-sum, multiple-difference, divide-max}
use Rattle.layer_laws.specs.Carves.{Serves, Changes, IsInOrder, IsOutIn, LiesWell, CarvesNew, CarvesNewAt, TakesBack, GrowsThere, TakesAllBack, Carves}
use Rattle.region_rules.proofs.RegionRegular.{region-serves, region-moves, region-regularly}
use Rattle.region_rules.specs.RegionRules.{region_chunk, region_next, region_aligned, region_expand, region_deallocate, is_out_of_region, is_region_own, is_region, region_carving, region_rules}
use Rattle.region_rules.specs.RegionMeanings.{IsRegionSize, IsRegion, RegionParts, IsOutRegion, OutOfRegion, OpenRegionIsSound, RegionIsLawful}

-- ---- what the tests say

own-form : (own : Own) → is_region_own own ≡ true → own ≡ region_own (chunk_in own) (position_in own)
own-form (region_own chunk position) h = refl
own-form _ h = absurd (cc)

region-of : (size align : ℕ) (chunk : Block) (p : ℕ) → is_region size align chunk p ≡ true → IsRegion size align chunk p
region-of size align chunk p h = record { len = grind (arith, nat_tests); start = grind (arith, nat_tests); stop = grind (arith, nat_tests); aligned = grind (arith, nat_tests) }

of-region : (size align : ℕ) (chunk : Block) (p : ℕ) → IsRegion size align chunk p → is_region size align chunk p ≡ true
of-region size align chunk p r = grind (arith, nat_tests, r.len, r.start, r.stop, r.aligned)

pub region-parts : (size align : ℕ) (e : Rules) (s : State) (cells : Cells) → is_carving (region_carving size align) e s cells ≡ true → RegionParts size align e s cells
region-parts size align e s cells h =
    let x = is_carving-parts (region_carving size align) e s cells h in
    record {
      form = x.form ∙ ap (λ own. open_with own (one_child (child s 0))) (own-form (own_of s) x.kind);
      parent = x.parent;
      region = region-of size align (chunk_of s) (position_of s) x.passes;
      out = x.chunk.out;
      bound = x.chunk.bound;
      below = x.below;
    }

out-own : (size align : ℕ) (b : Block) (s : State) → is_open s ≡ true → IsOutIn (region_carving size align) b (own_of s) → IsOutRegion align b s
out-own size align b s is_set o = let out = o.out in record { is_set = is_set; some = o.some; from = grind (arith, nat_tests); aligned = grind (arith, nat_tests); upto = grind (arith, nat_tests) }

own-out : (align : ℕ) (b : Block) (s : State) → IsOutRegion align b s → is_out_of_region align b (own_of s) ≡ true
own-out align b s o = grind (arith, nat_tests, o.from, o.aligned, o.upto)

pub out-region : (size align : ℕ) (e : Rules) (b : Block) (s : State) (cells : Cells) → (region_rules size align e).is_out b s cells ≡ true → IsOutRegion align b s
unfolding region_rules
out-region size align e b s cells o = record { is_set = grind (arith, nat_tests); some = grind (arith, nat_tests); from = grind (arith, nat_tests); aligned = grind (arith, nat_tests); upto = grind (arith, nat_tests) }

pub region-out : (size align : ℕ) (e : Rules) (b : Block) (s : State) (cells : Cells) → IsOutRegion align b s → (region_rules size align e).is_out b s cells ≡ true
unfolding region_rules
region-out size align e b s cells o = grind (arith, nat_tests, o.is_set, o.some, o.from, o.aligned, o.upto)

-- ---- where blocks lie

region-lies : (size align : ℕ) → 1 ≤ align → (b : Block) (own : Own) → IsInOrder (region_carving size align) own → IsOutIn (region_carving size align) b own → LiesWell (region_carving size align) own b
region-lies size align w b (region_own chunk p) h o =
    let r = region-of size align chunk p h.passes in
    let x = out-own size align b (alone (region_own chunk p)) refl o in
    let g = enough_times b.len align w in
    let q : chunk.place + (b.place - chunk.place) ≡ b.place = omega (arith, x.from) in
    record {
      from = omega arith;
      upto = omega arith;
      first = x.from;
      last = omega (arith, x.upto, r.stop);
      room = inside-of b chunk x.from (omega (arith, x.upto, r.stop));
      aligned = subst (λ n. IsMultiple n align) q (multiple-sum chunk.place (b.place - chunk.place) align h.aligned (multiple_from_rest (b.place - chunk.place) align x.aligned));
    }
region-lies size align w b _ h o = absurd (let k = h.kind in cc)

-- ---- a request

-- a rounded length does not change what is left over
add_up-mod : (x n a : ℕ) → (x + up n a) % a ≡ x % a
add_up-mod x n a = add-mul-mod_self_right x (ceil_div n a) a

-- behind a place in order by a rounded length it is in order again
region-behind : (size align n q : ℕ) (chunk : Block) → IsRegion size align chunk q → q + up n align ≤ end_of chunk → IsRegion size align chunk (q + up n align)
region-behind size align n q chunk h room = record {
  len = h.len;
  start = omega (arith, h.start);
  stop = room;
  aligned =
      ap (λ k. k % align) (let e : q + up n align - chunk.place ≡ q - chunk.place + up n align = omega (arith, h.start) in e)
      ∙ add_up-mod (q - chunk.place) n align ∙ h.aligned;
}

-- from the place q on, at the position or behind it
region-new : (size align n p q : ℕ) (chunk : Block) → 1 ≤ align → 1 ≤ n → p ≤ q → IsRegion size align chunk q → q + up n align ≤ end_of chunk → CarvesNew (region_carving size align) (region_own chunk p) n q (region_own chunk (q + up n align))
region-new size align n p q chunk w l behind r room =
    let g = enough_times n align w in
    let new = alone (region_own chunk (q + up n align)) in
    record {
      order = record { kind = refl; passes = of-region size align chunk (q + up n align) (region-behind size align n q chunk r room); chunk = refl };
      stays = λ b o.
          let x = out-own size align b (alone (region_own chunk p)) refl o in
          record { out = own-out align b new (record { is_set = refl; some = x.some; from = x.from; aligned = x.aligned; upto = omega (arith, x.upto) }); extent = refl };
      out = own-out align (block q n) new (record { is_set = refl; some = l; from = r.start; aligned = r.aligned; upto = omega arith });
      fresh = λ b o. let x = out-own size align b (alone (region_own chunk p)) refl o in let u = x.upto in grind (arith, nat_tests);
    }

region-allocates : (size align n : ℕ) (own : Own) (t : State) (cells : Cells) → 1 ≤ align → 1 ≤ n → IsInOrder (region_carving size align) own
    → (let s = open_with own (one_child t) in Serves (CarvesNew (region_carving size align) own n) n s cells (region_next align n s cells))
region-allocates size align n (region_own chunk p) t cells w l h =
    region-serves (CarvesNew (region_carving size align) (region_own chunk p) n) p (up n align) n (open_with (region_own chunk p) (one_child t)) cells
    (λ room. region-new size align n p p chunk w l (omega arith) (region-of size align chunk p h.passes) room)
region-allocates size align n _ t cells w l h = absurd (let k = h.kind in cc)

-- ---- a request at an alignment

-- the next multiple of both alignments is in order, where it lies in the chunk
next-in_order : (size align a p : ℕ) (chunk : Block) → IsPower align → IsPower a → IsMultiple chunk.place align → IsRegion size align chunk p → (let q = up p (max a align) in q ≤ end_of chunk → (p ≤ q) × IsRegion size align chunk q × IsMultiple q a)
next-in_order size align a p chunk u v k r stop =
    let some = power_is_some align u in
    let next = up_is_least p (max a align) (omega arith) in
    let both = divide-max a align v u in
    let q = up p (max a align) in (
      next.enough,
      record {
        len = r.len;
        start = omega (arith, r.start, next.enough);
        stop = stop;
        aligned = rest_of_multiple (q - chunk.place) align (multiple-difference q chunk.place align (multiple_of_multiple q (max a align) align next.has both.1) k);
      },
      multiple_of_multiple q (max a align) a next.has both.0,
    )

region-aligned_allocates : (size align n a : ℕ) (own : Own) (t : State) (cells : Cells) → IsPower align → IsPower a → 1 ≤ n → IsInOrder (region_carving size align) own
    → (let s = open_with own (one_child t) in Serves (CarvesNewAt (region_carving size align) own n a) n s cells (region_aligned align n a s cells))
region-aligned_allocates size align n a (region_own chunk p) t cells u v l h =
    let q = up p (max a align) in
    region-serves (CarvesNewAt (region_carving size align) (region_own chunk p) n a) q (up n align) n (open_with (region_own chunk p) (one_child t)) cells
    (λ room.
    let x = next-in_order size align a p chunk u v h.aligned (region-of size align chunk p h.passes) (omega arith) in
    record { carves = region-new size align n p q chunk (power_is_some align u) l x.0 x.1 room; aligned = x.2 })
region-aligned_allocates size align n a _ t cells u v l h = absurd (let k = h.kind in cc)

-- ---- a block is given back

region-back : (size align p : ℕ) (chunk b : Block) → 1 ≤ align → b.place + up b.len align ≡ p → IsRegion size align chunk p → IsOutRegion align b (alone (region_own chunk p)) → TakesBack (region_carving size align) (region_own chunk p) b (region_own chunk b.place)
region-back size align p chunk b w last r x =
    let g = enough_times b.len align w in
    record {
      order = record { kind = refl; passes = of-region size align chunk b.place (record { len = r.len; start = x.from; stop = omega (arith, r.stop); aligned = x.aligned }); chunk = refl };
      stays = λ d o a.
          let y = out-own size align d (alone (region_own chunk p)) refl o in
          let k = enough_times d.len align w in
          record {
            out = own-out align d (alone (region_own chunk b.place)) (record {
              is_set = refl;
              some = y.some;
              from = y.from;
              aligned = y.aligned;
              upto = elim (apart_from (block b.place (up b.len align)) (block d.place (up d.len align)) a) [ inl l ↦ omega (arith, y.upto, y.some) | inr l ↦ l ];
            });
            extent = refl;
          };
    }

region-deallocates : (size align : ℕ) (b : Block) (own : Own) (t : State) (cells : Cells) → 1 ≤ align → IsInOrder (region_carving size align) own → IsOutIn (region_carving size align) b own
    → (let s = open_with own (one_child t) in Changes (TakesBack (region_carving size align) own b) s cells (region_deallocate align b s cells))
region-deallocates size align b (region_own chunk p) t cells w h o =
    region-moves (TakesBack (region_carving size align) (region_own chunk p) b) b.place (nat_eq (b.place + up b.len align) p) (open_with (region_own chunk p) (one_child t)) cells
    (λ q. region-back size align p chunk b w (grind (arith, nat_tests)) (region-of size align chunk p h.passes) (out-own size align b (alone (region_own chunk p)) refl o))
region-deallocates size align b _ t cells w h o = absurd (let k = h.kind in cc)

-- ---- a block grows

up-monotone : (m n a : ℕ) → 1 ≤ a → m ≤ n → up m a ≤ up n a
up-monotone m n a h l = let r = up_is_least n a h in let e = r.enough in (up_is_least m a h).least (up n a) r.has (omega arith)

region-longer : (size align p : ℕ) (chunk b : Block) (delta : ℕ) → 1 ≤ align → b.place + up b.len align ≡ p → b.place + up (b.len + delta) align ≤ end_of chunk → IsRegion size align chunk p → IsOutRegion align b (alone (region_own chunk p))
    → GrowsThere (region_carving size align) (region_own chunk p) b delta (region_own chunk (b.place + up (b.len + delta) align))
region-longer size align p chunk b delta w last room r x =
    let m = b.len + delta in
    let grows = up-monotone b.len m align w (omega arith) in
    let at : IsRegion size align chunk b.place = record { len = r.len; start = x.from; stop = omega (arith, r.stop); aligned = x.aligned } in
    let new = alone (region_own chunk (b.place + up m align)) in
    record {
      order = record { kind = refl; passes = of-region size align chunk (b.place + up m align) (region-behind size align m b.place chunk at room); chunk = refl };
      stays = λ d o a.
          let y = out-own size align d (alone (region_own chunk p)) refl o in
          record { out = own-out align d new (record { is_set = refl; some = y.some; from = y.from; aligned = y.aligned; upto = omega (arith, y.upto) }); extent = refl };
      out = own-out align (with_len b m) new (record { is_set = refl; some = omega (arith, x.some); from = x.from; aligned = x.aligned; upto = omega arith });
      fresh = λ d o a.
          let y = out-own size align d (alone (region_own chunk p)) refl o in
          let k = enough_times d.len align w in
          far (block b.place (up b.len align)) (block d.place (up d.len align)) (up m align) (omega (arith, y.some)) (omega (arith, y.upto)) a;
    }
  where
    far : (x y : Block) (m : ℕ) → 1 ≤ y.len → end_of y ≤ end_of x → is_apart x y ≡ true → is_apart (block x.place m) y ≡ true
    far x y m l u h = grind (arith, nat_tests)

region-expands : (size align delta : ℕ) (b : Block) (own : Own) (t : State) (cells : Cells) → 1 ≤ align → IsInOrder (region_carving size align) own → IsOutIn (region_carving size align) b own
    → (let s = open_with own (one_child t) in Changes (GrowsThere (region_carving size align) own b delta) s cells (region_expand align delta b s cells))
region-expands size align delta b (region_own chunk p) t cells w h o =
    let last = b.place + up (b.len + delta) align in
    region-moves (GrowsThere (region_carving size align) (region_own chunk p) b delta) last (nat_eq (b.place + up b.len align) p && nat_le last (end_of chunk)) (open_with (region_own chunk p) (one_child t)) cells
    (λ q. region-longer size align p chunk b delta w (grind (arith, nat_tests)) (grind (arith, nat_tests)) (region-of size align chunk p h.passes) (out-own size align b (alone (region_own chunk p)) refl o))
region-expands size align delta b _ t cells w h o = absurd (let k = h.kind in cc)

-- ---- what it opens with, and all blocks are taken back

no-rest : (p a : ℕ) → (p - p) % a ≡ 0
no-rest p a = let z : p - p ≡ 0 = omega arith in rw z (zero-mod a)

-- from its chunk's start
region-empty : (size align : ℕ) (chunk : Block) → chunk.len ≡ region_chunk size align chunk.len → is_region size align chunk chunk.place ≡ true
region-empty size align chunk len = of-region size align chunk chunk.place (record { len = len; start = omega arith; stop = omega arith; aligned = no-rest chunk.place align })

region-all_back : (size align : ℕ) (own : Own) → 1 ≤ align → IsInOrder (region_carving size align) own → TakesAllBack (region_carving size align) own (region_own (chunk_in own) (chunk_in own).place)
region-all_back size align (region_own chunk p) w h = record {
  order = record { kind = refl; passes = region-empty size align chunk (region-of size align chunk p h.passes).len; chunk = refl };
  none = λ b o.
      let x = out-own size align b (alone (region_own chunk chunk.place)) refl o in
      let g = enough_times b.len align w in
      absurd (omega (arith, x.upto, x.from, x.some, g));
}
region-all_back size align _ w h = absurd (let k = h.kind in cc)

-- ---- what the kit asks

region-carves : (size align : ℕ) (e : Rules) → IsRegionSize size align e → Carves (region_carving size align) e
region-carves size align e w =
    let some = power_is_some align w.power in
    record {
      regular = region-regularly size align e w;
      below = w.align_below;
      opens = λ need chunk q. record { kind = refl; passes = region-empty size align chunk (rounded-len size align need chunk.len some q); chunk = refl };
      room = λ own h. record { from = omega arith; upto = omega arith };
      lies = region-lies size align some;
      allocate = λ n own t cells l h. region-allocates size align n own t cells some l h;
      aligned_allocate = λ o n a own t cells l v h. region-aligned_allocates size align n a own t cells w.power v l h;
      expand = λ delta b own t cells h o. region-expands size align delta b own t cells some h o;
      deallocate = λ b own t cells h o. region-deallocates size align b own t cells some h o;
      deallocate_all = λ own h. region-all_back size align own some h;
      beside = λ k old new h i kept. record { read = refl; image = refl };
    }

pub region_is_lawful : RegionIsLawful
unfolding region_rules
region_is_lawful size align e w t r p = carving-lawful (region_carving size align) e (region-carves size align e w) t r p

-- ---- what the tests mean

pub out_of_region : OutOfRegion
out_of_region size align e b s cells = (out-region size align e b s cells, region-out size align e b s cells)

-- the numbers of an open region that is sound
parts-whole : (size align : ℕ) (e : Rules) (s : State) (cells : Cells) → RegionParts size align e s cells → IsSettled (region_rules size align e) s cells
unfolding region_rules
parts-whole size align e s cells x =
    let c = region_carving size align in
    let own = region_own (chunk_of s) (position_of s) in
    subst (λ u. IsSettled (region_rules size align e) u cells) (sym x.form)
    (carving-whole c e own (child s 0) cells refl (of-region size align (chunk_of s) (position_of s) x.region) x.parent (record { out = x.out; bound = x.bound }) x.below)

pub open_region_is_sound : OpenRegionIsSound
unfolding region_rules
open_region_is_sound size align e s cells o = (
  λ h. region-parts size align e s cells (opened s e.leaf_tags cells (is_carving (region_carving size align) e s cells) o h),
  parts-whole size align e s cells,
)
