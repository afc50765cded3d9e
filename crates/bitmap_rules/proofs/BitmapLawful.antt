-- A bitmap is lawful over a regular and lawful parent.
use Rattle.std.proofs.Common.{◌≡◌, refl, sym, ap, subst, ◌∙◌, ℕ, ◌≤◌, ◌+◌, ◌-◌, ◌*◌, ◌/◌, ◌%◌, inr, ⊎_elim, true, false, arith, List, Bool, length, replicate, max}
use Rattle.std.proofs.Math.Nat.{mul_comm}
use Rattle.std.proofs.lemmas.Bool.{cases_lt}
use Rattle.std.proofs.lemmas.Bool.Decides.{nat_tests}
use Rattle.std.proofs.lemmas.List.{length-replicate}
use Rattle.size_round.specs.Sizes.{ceil_div}
use Rattle.size_round.specs.SizeMeanings.{IsMultiple, IsPower}
use Rattle.space_core.specs.Cells.{Cells}
use Rattle.space_core.specs.Runs.{put_run, is_free_run}
use Rattle.layer_rules.specs.declared.Block.{Block}
use Rattle.layer_rules.specs.Blocks.{block, end_of, with_len}
use Rattle.layer_rules.specs.Rules.{Rules}
use Rattle.layer_rules.specs.State.{State, Own, bitmap_own, open_with, one_child, is_open, own_of, base_in, base_of, chunk_in, chunk_of, units_in, units_of}
use Rattle.layer_rules.specs.Units.{first_unit, unit_count}
use Rattle.layer_laws.proofs.BlockLaws.{inside-of, lies_from}
use Rattle.layer_laws.proofs.CarvingLawful.{carving-lawful}
use Rattle.layer_laws.proofs.CellRooms.{multiple_of_multiple, power_in_power, multiple_from_rest, rest_of_multiple}
use Rattle.layer_laws.proofs.FirstRuns.{free_runs_are_free, taken_runs_are_taken, first_run_is_first}
use Rattle.layer_laws.proofs.RunWrites.{units_are_put}
use Rattle.layer_laws.proofs.UnitRows.{HasUnits, has-units, in-order, units-sum, units-stay, units-stay_beside, units-new, new-apart, longer-apart, put-grown, free-at_unit, row-count, none-taken}
use Rattle.layer_laws.specs.Carves.{Serves, Changes, IsInOrder, IsOutIn, LiesWell, RoomInChunk, StaysOut, CarvesNew, CarvesNewAt, TakesBack, GrowsThere, TakesAllBack, OpensWith, Carves}
use Rattle.layer_laws.specs.Carving.{alone}
use Rattle.bitmap_rules.proofs.BitmapFraming.{bitmap-beside}
use Rattle.bitmap_rules.proofs.BitmapParts.{bitmap-of, of-bitmap}
use Rattle.bitmap_rules.proofs.BitmapPlaces.{bitmap_place_is_least}
use Rattle.bitmap_rules.proofs.BitmapRegular.{bitmap-serves, bitmap-takes, bitmap-expands, bitmap-regularly}
use Rattle.bitmap_rules.specs.BitmapMeanings.{BitmapIsLawful, IsBitmapOf, IsBitmapSize, IsOutBitmap}
use Rattle.bitmap_rules.specs.BitmapRules.{bitmap_aligned_allocate, bitmap_allocate, bitmap_carving, bitmap_chunk, bitmap_count, bitmap_deallocate, bitmap_expand, bitmap_opened, bitmap_place_at, bitmap_rules, further_units_free, is_out_of_bitmap, units_block, units_free}

-- ---- the units of a block that is out

units-of : (unit : ℕ) (b : Block) (s : State) → 1 ≤ unit → IsOutBitmap unit b s → HasUnits unit (base_of s) (units_of s) b
units-of unit b s h o =
    let l = lies_from b (units_block unit s) o.inside in
    has-units unit (base_of s) (units_of s) b h o.some l.0 ((taken_runs_are_taken (units_of s) (first_unit unit (base_of s) b) (unit_count unit (base_of s) b)).0 o.taken)

-- the end of the chunk is that of its last unit
chunk-end : (unit count : ℕ) (chunk : Block) (base : ℕ) (units : List Bool) → IsBitmapOf unit count chunk base units → end_of chunk ≡ base + length units * unit
chunk-end unit count chunk base units m = omega (arith, m.len, m.start)

-- the units end where the chunk does
units-fill : (unit count : ℕ) (s : State) → 1 ≤ unit → IsBitmapOf unit count (chunk_of s) (base_of s) (units_of s) → end_of (units_block unit s) ≡ end_of (chunk_of s)
units-fill unit count s h m =
    let last = chunk-end unit count (chunk_of s) (base_of s) (units_of s) m in
    ap (λ n. base_of s + unit * n) (row-count unit (base_of s) (end_of (chunk_of s)) (length (units_of s)) h last) ∙ omega (arith, last, mul_comm unit (length (units_of s)))

-- what a block's units take up lies within the chunk
extent-within : (unit count : ℕ) (s : State) (b : Block) → 1 ≤ unit → IsBitmapOf unit count (chunk_of s) (base_of s) (units_of s) → HasUnits unit (base_of s) (units_of s) b
    → base_of s + unit * (first_unit unit (base_of s) b + unit_count unit (base_of s) b) ≤ end_of (chunk_of s)
extent-within unit count s b h m u =
    let l = in-order unit (base_of s) _ _ u.within in
    omega (arith, chunk-end unit count (chunk_of s) (base_of s) (units_of s) m, mul_comm unit (length (units_of s)))

of-units : (unit count : ℕ) (b : Block) (s : State) → 1 ≤ unit → 1 ≤ b.len → b.place % 16 ≡ 0 → IsBitmapOf unit count (chunk_of s) (base_of s) (units_of s) → HasUnits unit (base_of s) (units_of s) b → is_out_of_bitmap unit b s ≡ true
of-units unit count b s h some aligned m u =
    let w = extent-within unit count s b h m u in
    let touch = u.touch in
    let upto : end_of b ≤ end_of (units_block unit s) = subst (λ k. end_of b ≤ k) (sym (units-fill unit count s h m)) (omega (arith, touch.upto)) in
    let inside = inside-of b (units_block unit s) u.above upto in
    let taken = (taken_runs_are_taken (units_of s) (first_unit unit (base_of s) b) (unit_count unit (base_of s) b)).1 u.taken in
    grind (arith, nat_tests)

out-own : (unit count : ℕ) (b : Block) (s : State) → is_open s ≡ true → IsOutIn (bitmap_carving unit count) b (own_of s) → IsOutBitmap unit b s
out-own unit count b s is_set o = let out = o.out in record { is_set = is_set; some = o.some; aligned = grind (arith, nat_tests); inside = grind (arith, nat_tests); taken = grind (arith, nat_tests) }

-- with other units, as many, it is in order
other-units : (unit count : ℕ) (chunk : Block) (base : ℕ) (units new : List Bool) → IsBitmapOf unit count chunk base units → length new ≡ length units → IsBitmapOf unit count chunk base new
other-units unit count chunk base units new m l = record { least = rw l m.least; len = rw l m.len; start = rw l m.start }

-- ---- where blocks lie

bitmap-lies : (unit count : ℕ) → 1 ≤ unit → (b : Block) (own : Own) → IsInOrder (bitmap_carving unit count) own → IsOutIn (bitmap_carving unit count) b own → LiesWell (bitmap_carving unit count) own b
bitmap-lies unit count w b (bitmap_own chunk base units) h o =
    let s = alone (bitmap_own chunk base units) in
    let m = bitmap-of unit count chunk base units h.passes in
    let x = out-own unit count b s refl o in
    let u = units-of unit b s w x in
    let touch = u.touch in
    let within = extent-within unit count s b w m u in
    let sum = units-sum unit base (first_unit unit base b) (unit_count unit base b) in
    let upto = touch.upto in
    let start = m.start in
    record { from = touch.from; upto = omega arith; first = omega arith; last = omega arith; room = x.inside; aligned = multiple_from_rest b.place 16 x.aligned }
bitmap-lies unit count w b _ h o = absurd (let k = h.kind in cc)

bitmap-room : (unit count : ℕ) → 1 ≤ unit → (own : Own) → IsInOrder (bitmap_carving unit count) own → RoomInChunk (bitmap_carving unit count) own
bitmap-room unit count w (bitmap_own chunk base units) h =
    let m = bitmap-of unit count chunk base units h.passes in
    let fill = units-fill unit count (alone (bitmap_own chunk base units)) w m in
    let start = m.start in
    record { from = omega arith; upto = omega arith }
bitmap-room unit count w _ h = absurd (let k = h.kind in cc)

-- ---- a request

-- a block that is out stays so where its units stay taken
stays-out : (unit count : ℕ) (chunk : Block) (base : ℕ) (units new : List Bool) (b : Block) → 1 ≤ unit → IsBitmapOf unit count chunk base new → IsOutBitmap unit b (alone (bitmap_own chunk base units)) → HasUnits unit base new b
    → StaysOut (bitmap_carving unit count) (bitmap_own chunk base units) (bitmap_own chunk base new) b
stays-out unit count chunk base units new b h m x u = record { out = of-units unit count b (alone (bitmap_own chunk base new)) h x.some x.aligned m u; extent = refl }

bitmap-new : (unit count n p : ℕ) (chunk : Block) (base : ℕ) (units : List Bool) → 1 ≤ unit → 1 ≤ n → IsBitmapOf unit count chunk base units → p % 16 ≡ 0 → base ≤ p → units_free unit base units (block p n) ≡ true
    → CarvesNew (bitmap_carving unit count) (bitmap_own chunk base units) n p (bitmap_own chunk base (put_run true (first_unit unit base (block p n)) (unit_count unit base (block p n)) units))
bitmap-new unit count n p chunk base units h l r aligned above free =
    let b = block p n in
    let i = first_unit unit base b in
    let m = unit_count unit base b in
    let s = alone (bitmap_own chunk base units) in
    let run = (free_runs_are_free units i m).0 free in
    let q = other-units unit count chunk base units (put_run true i m units) r (units_are_put true i m units).size in
    record {
      order = record { kind = refl; passes = of-bitmap unit count chunk base (put_run true i m units) q; chunk = refl };
      stays = λ d o.
          let x = out-own unit count d s refl o in
          stays-out unit count chunk base units (put_run true i m units) d h q x (units-stay unit base units i m d (units-of unit d s h x));
      out = of-units unit count b (alone (bitmap_own chunk base (put_run true i m units))) h l aligned q (units-new unit base units b h l above run);
      fresh = λ d o. new-apart unit base units b d h l above run (units-of unit d s h (out-own unit count d s refl o));
    }

-- the units begin at a multiple of 16
base-aligned : (unit count : ℕ) (chunk : Block) (base : ℕ) (units : List Bool) → IsMultiple chunk.place 16 → IsBitmapOf unit count chunk base units → base % 16 ≡ 0
base-aligned unit count chunk base units at m =
    let rest : chunk.place % 16 ≡ 0 = rest_of_multiple chunk.place 16 at in
    let k = ceil_div (8 * ceil_div (length units) 64) 16 in
    let q : base ≡ chunk.place + k * 16 = m.start in
    omega arith

unit-aligned : (unit base i : ℕ) → unit % 16 ≡ 0 → base % 16 ≡ 0 → (base + unit * i) % 16 ≡ 0
unit-aligned unit base i u b =
    let q : unit ≡ (unit / 16) * 16 = omega arith in
    let r : unit * i ≡ (unit / 16 * i) * 16 = ap (λ x. x * i) q ∙ turned (unit / 16) i in
    omega arith
  where
    turned : (a i : ℕ) → a * 16 * i ≡ (a * i) * 16
    turned a i = grind arith

-- from the least run of free units
bitmap-allocates : (unit count n : ℕ) (own : Own) (t : State) (cells : Cells) → 1 ≤ unit → unit % 16 ≡ 0 → 1 ≤ n → IsInOrder (bitmap_carving unit count) own
    → (let s = open_with own (one_child t) in Serves (CarvesNew (bitmap_carving unit count) own n) n s cells (bitmap_allocate unit n s cells))
bitmap-allocates unit count n (bitmap_own chunk base units) t cells h v l o =
    let m = bitmap-of unit count chunk base units o.passes in
    bitmap-serves (CarvesNew (bitmap_carving unit count) (bitmap_own chunk base units) n) unit n (open_with (bitmap_own chunk base units) (one_child t)) cells
    (λ i q.
    let f = first_run_is_first (λ i. true) (ceil_div n unit) 0 units i q in
    let y : i - 0 ≡ i = omega arith in
    let free = subst (λ j. is_free_run units j (ceil_div n unit) ≡ true) y f.free in
    bitmap-new unit count n (base + unit * i) chunk base units h l m (unit-aligned unit base i v (base-aligned unit count chunk base units o.aligned m)) (omega arith) (free-at_unit unit base i n units h free))
bitmap-allocates unit count n _ t cells h v l o = absurd (let k = o.kind in cc)

-- ---- a request at an alignment

-- a multiple of the greater of both is one of each
multiple-of_max : (p a : ℕ) → IsPower a → IsMultiple p (max a 16) → IsMultiple p a × (p % 16 ≡ 0)
multiple-of_max p a q m = ⊎_elim
    (λ l.
    let e : max a 16 ≡ 16 = omega arith in
    let k : IsMultiple p 16 = subst (λ x. IsMultiple p x) e m in
    (multiple_of_multiple p 16 a k (power_in_power a 16 q (4, refl) (omega arith)), rest_of_multiple p 16 k))
    (λ l.
    let e : max a 16 ≡ a = omega arith in
    let k : IsMultiple p a = subst (λ x. IsMultiple p x) e m in
    (k, rest_of_multiple p 16 (multiple_of_multiple p a 16 k (power_in_power 16 a (4, refl) q l))))
    (cases_lt a 16)

bitmap-aligned_allocates : (unit count n a : ℕ) (own : Own) (t : State) (cells : Cells) → 1 ≤ unit → IsPower a → 1 ≤ n → IsInOrder (bitmap_carving unit count) own
    → (let s = open_with own (one_child t) in Serves (CarvesNewAt (bitmap_carving unit count) own n a) n s cells (bitmap_aligned_allocate unit n a s cells))
bitmap-aligned_allocates unit count n a (bitmap_own chunk base units) t cells h w l o =
    let s = open_with (bitmap_own chunk base units) (one_child t) in
    bitmap-takes (CarvesNewAt (bitmap_carving unit count) (bitmap_own chunk base units) n a) unit n (bitmap_place_at unit n (max a 16) s) s cells
    (λ p q.
    let f = bitmap_place_is_least unit n (max a 16) s p (omega arith) q in
    let m = multiple-of_max p a w f.aligned in
    record { carves = bitmap-new unit count n p chunk base units h l (bitmap-of unit count chunk base units o.passes) m.1 f.above f.free; aligned = m.0 })
bitmap-aligned_allocates unit count n a _ t cells h w l o = absurd (let k = o.kind in cc)

-- ---- a block is given back

bitmap-deallocates : (unit count : ℕ) (b : Block) (own : Own) (t : State) (cells : Cells) → 1 ≤ unit → IsInOrder (bitmap_carving unit count) own
    → (let s = open_with own (one_child t) in Changes (TakesBack (bitmap_carving unit count) own b) s cells (bitmap_deallocate unit b s cells))
bitmap-deallocates unit count b (bitmap_own chunk base units) t cells h o =
    let s = alone (bitmap_own chunk base units) in
    let new = put_run false (first_unit unit base b) (unit_count unit base b) units in
    let q = other-units unit count chunk base units new (bitmap-of unit count chunk base units o.passes) (units_are_put false (first_unit unit base b) (unit_count unit base b) units).size in
    inr (record {
      own = bitmap_own chunk base new;
      leaves = refl;
      fits = record {
        order = record { kind = refl; passes = of-bitmap unit count chunk base new q; chunk = refl };
        stays = λ d x a.
            let y = out-own unit count d s refl x in
            stays-out unit count chunk base units new d h q y (units-stay_beside unit base units b d h a (units-of unit d s h y));
      };
    })
bitmap-deallocates unit count b _ t cells h o = absurd (let k = o.kind in cc)

-- ---- a block grows

bitmap-longer : (unit count : ℕ) (chunk : Block) (base : ℕ) (units : List Bool) (b : Block) (delta : ℕ) → 1 ≤ unit → IsBitmapOf unit count chunk base units → IsOutBitmap unit b (alone (bitmap_own chunk base units))
    → further_units_free unit (b.len + delta) b (alone (bitmap_own chunk base units)) ≡ true
    → (let c = with_len b (b.len + delta) in GrowsThere (bitmap_carving unit count) (bitmap_own chunk base units) b delta (bitmap_own chunk base (put_run true (first_unit unit base c) (unit_count unit base c) units)))
bitmap-longer unit count chunk base units b delta h r x free =
    let s = alone (bitmap_own chunk base units) in
    let c = with_len b (b.len + delta) in
    let i = first_unit unit base b in
    let few = unit_count unit base b in
    let m = unit_count unit base c in
    let new = put_run true i m units in
    let q = other-units unit count chunk base units new r (units_are_put true i m units).size in
    let u = units-of unit b s h x in
    let run = (free_runs_are_free units (i + few) (m - few)).0 free in
    let some = x.some in
    record {
      order = record { kind = refl; passes = of-bitmap unit count chunk base new q; chunk = refl };
      stays = λ d o a.
          let y = out-own unit count d s refl o in
          stays-out unit count chunk base units new d h q y (units-stay unit base units i m d (units-of unit d s h y));
      out = of-units unit count c (alone (bitmap_own chunk base new)) h (omega arith) x.aligned q (has-units unit base new c h (omega arith) u.above (put-grown units i few m u.taken run));
      fresh = λ d o a. longer-apart unit base units b c d h refl run a (units-of unit d s h (out-own unit count d s refl o));
    }

bitmap-grows : (unit count delta : ℕ) (b : Block) (own : Own) (t : State) (cells : Cells) → 1 ≤ unit → IsInOrder (bitmap_carving unit count) own → IsOutIn (bitmap_carving unit count) b own
    → (let s = open_with own (one_child t) in Changes (GrowsThere (bitmap_carving unit count) own b delta) s cells (bitmap_expand unit delta b s cells))
bitmap-grows unit count delta b (bitmap_own chunk base units) t cells h o x =
    bitmap-expands (GrowsThere (bitmap_carving unit count) (bitmap_own chunk base units) b delta) unit delta b (open_with (bitmap_own chunk base units) (one_child t)) cells
    (λ q. bitmap-longer unit count chunk base units b delta h (bitmap-of unit count chunk base units o.passes) (out-own unit count b (alone (bitmap_own chunk base units)) refl x) q)
bitmap-grows unit count delta b _ t cells h o x = absurd (let k = o.kind in cc)

-- ---- what it opens with, and all blocks are taken back

bitmap-all_back : (unit count : ℕ) (own : Own) → 1 ≤ unit → IsInOrder (bitmap_carving unit count) own → TakesAllBack (bitmap_carving unit count) own (bitmap_own (chunk_in own) (base_in own) (replicate (length (units_in own)) false))
bitmap-all_back unit count (bitmap_own chunk base units) h o =
    let none = replicate (length units) false in
    let q = other-units unit count chunk base units none (bitmap-of unit count chunk base units o.passes) (length-replicate (length units) false) in
    record {
      order = record { kind = refl; passes = of-bitmap unit count chunk base none q; chunk = refl };
      none = λ b x.
          let s = alone (bitmap_own chunk base none) in
          let u = units-of unit b s h (out-own unit count b s refl x) in
          let some = u.touch.some in
          none-taken (length units) (first_unit unit base b) (u.taken (first_unit unit base b) (omega arith) (omega arith));
    }
bitmap-all_back unit count _ h o = absurd (let k = o.kind in cc)

bitmap-opens : (unit count need : ℕ) (chunk : Block) → chunk.len ≡ bitmap_chunk unit (bitmap_count unit count need) → OpensWith (bitmap_carving unit count) chunk (bitmap_opened (bitmap_count unit count need) chunk)
bitmap-opens unit count need chunk len =
    let units = bitmap_count unit count need in
    let many : length (replicate units false) ≡ units = length-replicate units false in
    let least : count ≤ units = omega arith in
    record { kind = refl; passes = of-bitmap unit count chunk _ (replicate units false) (record { least = rw many least; len = rw many len; start = rw many refl }); chunk = refl }

-- ---- what the kit asks

bitmap-carves : (unit count : ℕ) (e : Rules) → IsBitmapSize unit count e → Carves (bitmap_carving unit count) e
bitmap-carves unit count e w =
    let least = w.unit_least in
    let h : 1 ≤ unit = omega arith in
    record {
      regular = bitmap-regularly unit count e w;
      below = w.aligned;
      opens = bitmap-opens unit count;
      room = bitmap-room unit count h;
      lies = bitmap-lies unit count h;
      allocate = λ n own t cells l o. bitmap-allocates unit count n own t cells h w.whole l o;
      aligned_allocate = λ q n a own t cells l v o. bitmap-aligned_allocates unit count n a own t cells h v l o;
      expand = λ delta b own t cells o x. bitmap-grows unit count delta b own t cells h o x;
      deallocate = λ b own t cells o x. bitmap-deallocates unit count b own t cells h o;
      deallocate_all = λ own o. bitmap-all_back unit count own h o;
      beside = bitmap-beside unit count;
    }

pub bitmap-lawful : BitmapIsLawful
unfolding bitmap_rules
bitmap-lawful unit count e w t r p = carving-lawful (bitmap_carving unit count) e (bitmap-carves unit count e w) t r p
