-- A kr is lawful over a regular and lawful parent.
use Rattle.std.proofs.Common.{◌≡◌, refl, sym, ap, ap₂, subst, ◌∙◌, ℕ, ◌≤◌, ◌+◌, ◌-◌, ◌*◌, ◌/◌, inl, inr, true, false, arith, List, Bool, length, replicate}
use Rattle.std.proofs.lemmas.List.{length-replicate}
use Rattle.size_round.specs.Sizes.{ceil_div, up}
use Rattle.size_round.specs.SizeMeanings.{IsMultiple}
use Rattle.size_round.proofs.UpLeast.{enough_times}
use Rattle.space_core.specs.Cells.{Cells}
use Rattle.space_core.specs.Runs.{put_run, is_free_run}
use Rattle.layer_rules.specs.declared.Block.{Block}
use Rattle.layer_rules.specs.Blocks.{block, end_of}
use Rattle.layer_rules.specs.Rules.{Rules}
use Rattle.layer_rules.specs.State.{Mode, Own, State, chunk_in, kr_own, list_mode, one_child, open_with, region_mode, units_in}
use Rattle.layer_rules.specs.Units.{first_unit, unit_count}
use Rattle.layer_laws.proofs.BlockLaws.{inside-of}
use Rattle.layer_laws.proofs.CarvingLawful.{carving-lawful}
use Rattle.layer_laws.proofs.ChunkLaws.{rounded-len}
use Rattle.layer_laws.proofs.CellRooms.{multiple_from_rest}
use Rattle.layer_laws.proofs.FirstRuns.{free_runs_are_free, first_run_is_first}
use Rattle.layer_laws.proofs.Multiples.{multiple-sum}
use Rattle.layer_laws.proofs.RunWrites.{units_are_put}
use Rattle.layer_laws.proofs.UnitRows.{HasUnits, units-stay, units-stay_beside, units-new, new-apart, put-free, none-taken}
use Rattle.layer_laws.specs.Carves.{Serves, Changes, IsInOrder, IsOutIn, LiesWell, StaysOut, CarvesNew, TakesBack, TakesAllBack, OpensWith, Carves}
use Rattle.layer_laws.specs.Carving.{alone}
use Rattle.layer_laws.specs.UnitMeanings.{AreAll}
use Rattle.kr_rules.proofs.KrFraming.{kr-beside}
use Rattle.kr_rules.proofs.KrParts.{kr-of, of-kr}
use Rattle.kr_rules.proofs.KrRegular.{kr-serves, kr-regularly}
use Rattle.kr_rules.proofs.KrTails.{tail-taken, tail-opened, fits-parts}
use Rattle.kr_rules.proofs.KrUnits.{IsAtUnit, apart-whole, at-unit, count-whole, of-units, out-own, units-of}
use Rattle.kr_rules.specs.KrMeanings.{HasFreeTail, IsKr, IsKrSize, IsOutKr, KrIsLawful}
use Rattle.kr_rules.specs.KrRules.{kr_allocate, kr_carving, kr_chunk, kr_deallocate, kr_opened, kr_rules, kr_tail_fits}

-- ---- where blocks lie

kr-lies : (size : ℕ) (b : Block) (own : Own) → IsInOrder (kr_carving size) own → IsOutIn (kr_carving size) b own → LiesWell (kr_carving size) own b
kr-lies size b (kr_own chunk mode position units) h o =
    let s = alone (kr_own chunk mode position units) in
    let k = kr-of size chunk mode position units h.passes in
    let x = out-own size b s refl o in
    let u = units-of b s x in
    let g = enough_times b.len 16 (omega arith) in
    let last : b.place + up b.len 16 ≤ end_of chunk = omega (arith, u.within, count-whole chunk.place b (at-unit b s x), x.from, x.aligned, k.count) in
    let q : chunk.place + (b.place - chunk.place) ≡ b.place = omega (arith, x.from) in
    record {
      from = omega arith;
      upto = omega arith;
      first = x.from;
      last = last;
      room = inside-of b chunk x.from (omega arith);
      aligned = subst (λ n. IsMultiple n 16) q (multiple-sum chunk.place (b.place - chunk.place) 16 h.aligned (multiple_from_rest (b.place - chunk.place) 16 x.aligned));
    }
kr-lies size b _ h o = absurd (let k = h.kind in cc)

-- ---- a request

-- a block that is out stays so where it has its units
stays-out : (size : ℕ) (chunk : Block) (mode mode' : Mode) (position position' : ℕ) (units new : List Bool) (b : Block) → IsOutKr b (alone (kr_own chunk mode position units)) → HasUnits 16 chunk.place new b
    → StaysOut (kr_carving size) (kr_own chunk mode position units) (kr_own chunk mode' position' new) b
stays-out size chunk mode mode' position position' units new b x u = record { out = of-units b (alone (kr_own chunk mode' position' new)) (at-unit b (alone (kr_own chunk mode position units)) x) u; extent = refl }

-- a free run from unit i on is taken
kr-new : (size n p i : ℕ) (chunk : Block) (mode mode' : Mode) (position position' : ℕ) (units : List Bool) → 1 ≤ n → p ≡ chunk.place + 16 * i → AreAll false units i (up n 16 / 16) → IsKr size chunk mode' position' (put_run true i (up n 16 / 16) units)
    → CarvesNew (kr_carving size) (kr_own chunk mode position units) n p (kr_own chunk mode' position' (put_run true i (up n 16 / 16) units))
kr-new size n p i chunk mode mode' position position' units l at free k =
    let b = block p n in
    let s = alone (kr_own chunk mode position units) in
    let m = up n 16 / 16 in
    let there : IsAtUnit chunk.place b = record { from = omega arith; aligned = omega arith } in
    let first : first_unit 16 chunk.place b ≡ i = omega arith in
    let many : unit_count 16 chunk.place b ≡ m = count-whole chunk.place b there in
    let run : AreAll false units (first_unit 16 chunk.place b) (unit_count 16 chunk.place b) =
    subst (λ (j : ℕ). AreAll false units j (unit_count 16 chunk.place b)) (sym first) (subst (λ (q : ℕ). AreAll false units i q) (sym many) free) in
    let same : put_run true (first_unit 16 chunk.place b) (unit_count 16 chunk.place b) units ≡ put_run true i m units = ap₂ (λ (j q : ℕ). put_run true j q units) first many in
    record {
      order = record { kind = refl; passes = of-kr size chunk mode' position' (put_run true i m units) k; chunk = refl };
      stays = λ d o. let x = out-own size d s refl o in stays-out size chunk mode mode' position position' units (put_run true i m units) d x (units-stay 16 chunk.place units i m d (units-of d s x));
      out = of-units b (alone (kr_own chunk mode' position' (put_run true i m units))) there (subst (λ us. HasUnits 16 chunk.place us b) same (units-new 16 chunk.place units b (omega arith) l there.from run));
      fresh = λ d o.
          let x = out-own size d s refl o in
          apart-whole chunk.place b d there (at-unit d s x) ∙ new-apart 16 chunk.place units b d (omega arith) l there.from run (units-of d s x);
    }

-- from the tail
kr-new_tail : (size n : ℕ) (chunk : Block) (mode : Mode) (position : ℕ) (units : List Bool) → 1 ≤ n → IsKr size chunk mode position units → kr_tail_fits (up n 16) (alone (kr_own chunk mode position units)) ≡ true
    → CarvesNew (kr_carving size) (kr_own chunk mode position units) n position (kr_own chunk region_mode (position + up n 16) (put_run true ((position - chunk.place) / 16) (up n 16 / 16) units))
kr-new_tail size n chunk mode position units l h q =
    let f = fits-parts (up n 16) (alone (kr_own chunk mode position units)) q in
    let tail = h.tail f.served in
    let i = (position - chunk.place) / 16 in
    let whole = (free_runs_are_free units i ((end_of chunk - position) / 16)).0 tail.free in
    let room = f.room in
    let few : up n 16 / 16 ≤ (end_of chunk - position) / 16 = omega arith in
    kr-new size n position i chunk mode region_mode position (position + up n 16) units l (omega (arith, tail.start, tail.aligned)) (λ k from upto. whole k from (omega arith))
    (record { len = h.len; count = (units_are_put true i (up n 16 / 16) units).size ∙ h.count; tail = λ z. tail-taken chunk position (ceil_div n 16) units f.room tail })

kr-allocates : (size n : ℕ) (own : Own) (t : State) (cells : Cells) → 1 ≤ n → IsInOrder (kr_carving size) own → (let s = open_with own (one_child t) in Serves (CarvesNew (kr_carving size) own n) n s cells (kr_allocate (up n 16) n s cells))
kr-allocates size n (kr_own chunk mode position units) t cells l o =
    let h = kr-of size chunk mode position units o.passes in
    kr-serves (CarvesNew (kr_carving size) (kr_own chunk mode position units) n) (up n 16) n (open_with (kr_own chunk mode position units) (one_child t)) cells
    (λ q. kr-new_tail size n chunk mode position units l h q)
    (λ i q.
    let f = first_run_is_first (λ i. true) (up n 16 / 16) 0 units i q in
    let z : i - 0 ≡ i = omega arith in
    let free = (free_runs_are_free units i (up n 16 / 16)).0 (subst (λ j. is_free_run units j (up n 16 / 16) ≡ true) z f.free) in
    kr-new size n (chunk.place + 16 * i) i chunk mode list_mode position position units l refl free
    (record { len = h.len; count = (units_are_put true i (up n 16 / 16) units).size ∙ h.count; tail = λ z. absurd (cc) }))
kr-allocates size n _ t cells l o = absurd (let k = o.kind in cc)

-- ---- a block is given back

freed-tail : (chunk : Block) (position : ℕ) (units : List Bool) (i n : ℕ) → HasFreeTail chunk position units → HasFreeTail chunk position (put_run false i n units)
freed-tail chunk position units i n h =
    let j = (position - chunk.place) / 16 in
    let m = (end_of chunk - position) / 16 in
    record {
      start = h.start;
      stop = h.stop;
      aligned = h.aligned;
      free = (free_runs_are_free (put_run false i n units) j m).1 (put-free units i n j m ((free_runs_are_free units j m).0 h.free));
    }

kr-deallocates : (size : ℕ) (b : Block) (own : Own) (t : State) (cells : Cells) → IsInOrder (kr_carving size) own → IsOutIn (kr_carving size) b own
    → (let s = open_with own (one_child t) in Changes (TakesBack (kr_carving size) own b) s cells (kr_deallocate b s cells))
kr-deallocates size b (kr_own chunk mode position units) t cells o out =
    let s = alone (kr_own chunk mode position units) in
    let h = kr-of size chunk mode position units o.passes in
    let i = first_unit 16 chunk.place b in
    let n = up b.len 16 / 16 in
    let new = put_run false i n units in
    let x = out-own size b s refl out in
    let there = at-unit b s x in
    let same : put_run false i (unit_count 16 chunk.place b) units ≡ new = ap (λ (q : ℕ). put_run false i q units) (count-whole chunk.place b there) in
    let q : IsKr size chunk mode position new = record { len = h.len; count = (units_are_put false i n units).size ∙ h.count; tail = λ q. freed-tail chunk position units i n (h.tail q) } in
    inr (record {
      own = kr_own chunk mode position new;
      leaves = refl;
      fits = record {
        order = record { kind = refl; passes = of-kr size chunk mode position new q; chunk = refl };
        stays = λ d z a.
            let y = out-own size d s refl z in
            stays-out size chunk mode mode position position units new d y
            (subst (λ us. HasUnits 16 chunk.place us d) same (units-stay_beside 16 chunk.place units b d (omega arith) (sym (apart-whole chunk.place b d there (at-unit d s y)) ∙ a) (units-of d s y)));
      };
    })
kr-deallocates size b _ t cells o out = absurd (let k = o.kind in cc)

-- ---- what it opens with, and all blocks are taken back

-- with each unit free it serves from its tail, which is its whole chunk
kr-empty : (size : ℕ) (chunk : Block) (n : ℕ) → chunk.len ≡ kr_chunk size chunk.len → n ≡ chunk.len / 16 → IsKr size chunk region_mode chunk.place (replicate n false)
kr-empty size chunk n len count = record { len = len; count = length-replicate n false ∙ count; tail = λ q. subst (λ m. HasFreeTail chunk chunk.place (replicate m false)) (sym count) (tail-opened chunk) }

kr-all_back : (size : ℕ) (own : Own) → IsInOrder (kr_carving size) own → TakesAllBack (kr_carving size) own (kr_own (chunk_in own) region_mode (chunk_in own).place (replicate (length (units_in own)) false))
kr-all_back size (kr_own chunk mode position units) o =
    let h = kr-of size chunk mode position units o.passes in
    let none = replicate (length units) false in
    record {
      order = record { kind = refl; passes = of-kr size chunk region_mode chunk.place none (kr-empty size chunk (length units) h.len h.count); chunk = refl };
      none = λ b x.
          let s = alone (kr_own chunk region_mode chunk.place none) in
          let u = units-of b s (out-own size b s refl x) in
          let some = u.touch.some in
          none-taken (length units) (first_unit 16 chunk.place b) (u.taken (first_unit 16 chunk.place b) (omega arith) (omega arith));
    }
kr-all_back size _ o = absurd (let k = o.kind in cc)

kr-opens : (size need : ℕ) (chunk : Block) → chunk.len ≡ kr_chunk size need → OpensWith (kr_carving size) chunk (kr_opened chunk)
kr-opens size need chunk len =
    record { kind = refl; passes = of-kr size chunk region_mode chunk.place (replicate (chunk.len / 16) false) (kr-empty size chunk (chunk.len / 16) (rounded-len size 16 need chunk.len (omega arith) len) refl); chunk = refl }

-- ---- what the kit asks

kr-carves : (size : ℕ) (e : Rules) → IsKrSize size e → Carves (kr_carving size) e
kr-carves size e w = record {
  regular = kr-regularly size;
  below = w.aligned;
  opens = kr-opens size;
  room = λ own h. record { from = omega arith; upto = omega arith };
  lies = kr-lies size;
  allocate = kr-allocates size;
  aligned_allocate = λ o. absurd (cc);
  expand = λ delta b own t cells h o. inl refl;
  deallocate = kr-deallocates size;
  deallocate_all = kr-all_back size;
  beside = kr-beside size;
}

pub kr-lawful : KrIsLawful
unfolding kr_rules
kr-lawful size e w t r p = carving-lawful (kr_carving size) e (kr-carves size e w) t r p
