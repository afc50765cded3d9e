-- What `deallocate`, `deallocate_all` and `expand` of a bitmap do.
use Rattle.std.proofs.Common.{◌≡◌, refl, sym, ◌∙◌, ap, ap₂, subst, ℕ, ◌+◌, ◌-◌, ◌*◌, ◌/◌, ◌%◌, ◌^◌, ◌≤◌, ◌<◌, ◌⊎◌, inl, inr, ⊎_elim, Bool, true, false, List, length, replicate, slice_get, Option, Some, nat_eq, nat_lt, arith}
use Rattle.std.proofs.Math.Nat.{mul-le-mul_left, mul-le-mul_right}
use Rattle.std.proofs.lemmas.Bool.{cases_lt}
use Rattle.std.proofs.lemmas.Bool.Decides.{nat_tests}
use Rattle.std.proofs.lemmas.Option.{slice_get_within}
use Rattle.size_round.specs.Sizes.{limit}
use Rattle.size_round.proofs.UpLeast.{ceil_div-least}
use Rattle.space_core.specs.Memory.{Memory}
use Rattle.space_core.specs.Runs.{is_free_run, put_run}
use Rattle.layer_rules.specs.declared.Block.{Block}
use Rattle.layer_rules.specs.After.{After, after, Opened}
use Rattle.layer_rules.specs.Blocks.{block, end_of, with_len}
use Rattle.layer_rules.specs.Expanding.{expanded_unless}
use Rattle.layer_rules.specs.Layering.{LayerModel, state_of, deallocated, expanded, all_deallocated, Stands, IsOutOf, Deallocates, DeallocatesAll, Expands}
use Rattle.layer_rules.specs.State.{State}
use Rattle.layer_rules.specs.Units.{first_unit, unit_count}
use Rattle.layer_laws.specs.UnitMeanings.{AreAll}
use Rattle.layer_laws.proofs.BlockLaws.{lies_from}
use Rattle.layer_laws.proofs.CellBytes.{unit_below, units_in_order}
use Rattle.layer_laws.proofs.FirstRuns.{free_runs_are_free, taken_runs_are_taken}
use Rattle.layer_laws.proofs.RunWrites.{units_are_put}
use Rattle.bitmap_rules.specs.BitmapRules.{bitmap_rules, bitmap_deallocate, bitmap_expand, bitmap_with, further_units_free, units_block}
use Rattle.bitmap_rules.specs.BitmapMeanings.{IsOutBitmap}
use Rattle.bitmap_rules.proofs.BitmapParts.{out_of_bitmap}
use Rattle.bitmapped_block.specs.declared.bits.BitRow.{BitRow}
use Rattle.bitmapped_block.specs.declared.bitmapped.Bitmap.{Bitmap}
use Rattle.bitmapped_block.specs.BitmapModel.{bitmap_model}
use Rattle.bitmapped_block.specs.BitmapSizes.{row_of}
use Rattle.bitmapped_block.specs.UnitBits.{units_at, IsNext, IsPutRow, IsClearedRow}
use Rattle.bitmapped_block.proofs.Marking.{IsLeft, left, marked-put, marked-cleared, nothing-moved}
use Rattle.bitmapped_block.proofs.Placing.{behind-is}
use Rattle.bitmapped_block.proofs.RowBits.{same_by_get}
use Rattle.bitmapped_block.proofs.Seeking.{not_free, too_long}
use Rattle.bitmapped_block.proofs.Standing.{IsHere, IsOpen, bitmap_state, model-at, open-at, row-length, unit-inside}

-- ---- a block that is out

pub record IsOutHere (unit : ℕ) (b : Bitmap) (row : BitRow) (units : List Bool) (c : Block) : Type 0 where
  pub some : 1 ≤ c.len
  pub above : b.base ≤ c.place
  pub upto : end_of c ≤ 16777216
  pub within : first_unit unit b.base c + unit_count unit b.base c ≤ row.count
  pub behind : 1 ≤ unit_count unit b.base c
  pub taken : AreAll true units (first_unit unit b.base c) (unit_count unit b.base c)

out-here : (unit count : ℕ) (b : Bitmap) (t : LayerModel) (m : Memory) (c : Block) → IsOpen unit count b t m → IsOutOf (bitmap_model unit count (Some b) t) m c → IsOutHere unit b (row_of b) (units_at m.bytes (row_of b)) c
out-here unit count b t m c h o =
    let units = units_at m.bytes (row_of b) in
    let s = bitmap_state b units (state_of t m) in
    let x = subst (λ (z : State). IsOutBitmap unit c z) h.state ((out_of_bitmap unit count t.rules c (state_of (bitmap_model unit count (Some b) t) m) m.cells).0 o) in
    let l = lies_from c (units_block unit s) x.inside in
    let some = x.some in
    let least = h.unit_least in
    let taken = (taken_runs_are_taken units (first_unit unit b.base c) (unit_count unit b.base c)).0 x.taken in
    let behind = unit_below (c.place - b.base) (end_of c - b.base) unit (omega arith) (omega (arith, l.0)) in
    let last = first_unit unit b.base c + unit_count unit b.base c in
    let n = row-length unit count b t m h in
    let within : last ≤ b.count = (let w = slice_get_within units (last - 1) true (taken (last - 1) (omega arith) (omega arith)) in omega arith) in
    let i = unit-inside unit count b t m 0 h (omega arith) in
    let room = fill (end_of b.chunk - b.base) unit in
    record { some = some; above = l.0; upto = omega (arith, l.0, l.1, i.few, room, h.sized.len, h.sized.start); within = within; behind = omega arith; taken = taken }
  where
    fill : (x unit : ℕ) → unit * (x / unit) ≤ x
    fill x unit = grind arith

pub out-at : (unit count : ℕ) (o : Option Bitmap) (b : Bitmap) (row : BitRow) (t : LayerModel) (m : Memory) (c : Block) → o ≡ Some b → row ≡ row_of b → IsHere unit count o t m → IsOutOf (bitmap_model unit count o t) m c → IsOutHere unit b row (units_at m.bytes row) c
out-at unit count o b row t m c q e h p =
    let x = open-at unit count o b t m q h in
    let y = out-here unit count b t m c x (subst (λ (z : Option Bitmap). IsOutOf (bitmap_model unit count z t) m c) q p) in
    subst (λ (r : BitRow). IsOutHere unit b r (units_at m.bytes r) c) (sym e) y

-- ---- it is taken back

pub takes-back : (unit count first size : ℕ) (o : Option Bitmap) (b : Bitmap) (row : BitRow) (t : LayerModel) (m m' : Memory) (c : Block) → o ≡ Some b → row ≡ row_of b → IsHere unit count o t m
    → first ≡ first_unit unit b.base c → size ≡ unit_count unit b.base c → IsPutRow false row first size m m' → Deallocates (bitmap_model unit count o t) (bitmap_model unit count o t) m m' c true
unfolding bitmap_rules
takes-back unit count first size o b row t m m' c q e h y z w =
    let x = open-at unit count o b t m q h in
    let u = bitmap_model unit count (Some b) t in
    let units = units_at m.bytes (row_of b) in
    let l = left unit count b _ t m m' x (marked-put false row first size b m m' e w) in
    let rule : deallocated u m c ≡ after true (bitmap_state b (put_run false first size units) (state_of t m)) m.cells =
    ap (λ s. bitmap_deallocate unit c s m.cells) x.state ∙ ap₂ (λ i n. after true (bitmap_state b (put_run false i n units) (state_of t m)) m.cells) (sym y) (sym z) in
    subst (λ (z : LayerModel). Deallocates z z m m' c true) (model-at unit count o b t q)
    (record {
      frame = l.frame;
      opened = refl;
      answer = ap (λ (r : After Bool). r.answer) (sym rule);
      state = l.state ∙ ap (λ (r : After Bool). r.state) (sym rule);
      cells = l.cells ∙ ap (λ (r : After Bool). r.cells) (sym rule);
      others = λ d p a. l.others d p;
    })

-- all are
pub takes-all : (unit count : ℕ) (o : Option Bitmap) (b : Bitmap) (row : BitRow) (t : LayerModel) (m m' : Memory) → o ≡ Some b → row ≡ row_of b → IsHere unit count o t m → IsClearedRow row m m' → DeallocatesAll (bitmap_model unit count o t) (bitmap_model unit count o t) m m'
unfolding bitmap_rules
takes-all unit count o b row t m m' q e h w =
    let x = open-at unit count o b t m q h in
    let u = bitmap_model unit count (Some b) t in
    let l = left unit count b _ t m m' x (marked-cleared row b m m' e w) in
    let n = row-length unit count b t m x in
    let state : (all_deallocated u m).state ≡ bitmap_state b (replicate b.count false) (state_of t m) =
    ap (λ s. ((bitmap_rules unit count t.rules).deallocate_all s m.cells).state) x.state ∙ ap (λ k. bitmap_state b (replicate k false) (state_of t m)) n in
    subst (λ (z : LayerModel). DeallocatesAll z z m m') (model-at unit count o b t q) (record { frame = l.frame; opened = refl; state = l.state ∙ sym state; cells = l.cells })

-- ---- it grows

-- a block that is longer begins at the same unit, and ends no sooner
pub record IsLonger (unit base : ℕ) (c : Block) (m : ℕ) : Type 0 where
  pub first : first_unit unit base (with_len c m) ≡ first_unit unit base c
  pub more : unit_count unit base c ≤ unit_count unit base (with_len c m)

pub longer : (unit base : ℕ) (c : Block) (m : ℕ) → 1 ≤ unit → c.len ≤ m → IsLonger unit base c m
longer unit base c m h l =
    let o = units_in_order (c.place + c.len - base + (unit - 1)) (c.place + m - base + (unit - 1)) unit h (omega arith) in
    record { first = refl; more = omega arith }

-- to put a longer run where its front is put already is to put the rest
put-longer : (us : List Bool) (i few n : ℕ) → few ≤ n → AreAll true us i few → put_run true i n us ≡ put_run true (i + few) (n - few) us
put-longer us i few n l h =
    let p = units_are_put true i n us in
    let r = units_are_put true (i + few) (n - few) us in
    same_by_get (put_run true i n us) (put_run true (i + few) (n - few) us) (p.size ∙ sym r.size) (λ k a. ⊎_elim
    (λ b. p.below k b ∙ sym (r.below k (omega arith)))
    (λ b. ⊎_elim
    (λ c. p.inside k (let s = p.size in omega arith) b (omega arith) ∙ sym (h k b c) ∙ sym (r.below k c))
    (λ c. ⊎_elim
    (λ d. p.inside k (let s = p.size in omega arith) b d ∙ sym (r.inside k (let s = p.size in omega arith) c (omega arith)))
    (λ d. p.behind k d ∙ sym (r.behind k (omega arith)))
    (cases_lt k (i + n)))
    (cases_lt k (i + few)))
    (cases_lt k i))

-- an expansion within the limit is asked for
asked : (unit count delta : ℕ) (b : Bitmap) (t : LayerModel) (m : Memory) (c : Block) → 1 ≤ delta → c.len + delta ≤ limit
    → expanded (bitmap_model unit count (Some b) t) m c delta ≡ bitmap_expand unit delta c (state_of (bitmap_model unit count (Some b) t) m) m.cells
unfolding bitmap_rules
asked unit count delta b t m c l u =
    let z : nat_eq delta 0 ≡ false = grind (arith, nat_tests, l) in
    let y : nat_lt limit (c.len + delta) ≡ false = grind (arith, nat_tests, u) in
    ap₂ (λ p q. expanded_unless p q (bitmap_expand unit delta) c (state_of (bitmap_model unit count (Some b) t) m) m.cells) z y

-- one that is refused
not-grown : (t : LayerModel) (m : Memory) (b : Block) (delta : ℕ) → Stands t m → expanded t m b delta ≡ after false (state_of t m) m.cells → Expands t t m m b b delta false
not-grown t m b delta h q =
    record {
      frame = nothing-moved t m h;
      opened = refl;
      answer = ap (λ (x : After Bool). x.answer) (sym q);
      block = refl;
      state = ap (λ (x : After Bool). x.state) (sym q);
      cells = ap (λ (x : After Bool). x.cells) (sym q);
      carried = record { bytes = λ i x. refl; clean = λ x. x; marked = λ x. x };
      others = λ c o z. record { bytes = record { at = λ i x y. refl }; clean = λ x. x; marked = λ x. x };
    }

-- past the limit none grows
pub grown-too_long : (unit count delta : ℕ) (o : Option Bitmap) (t : LayerModel) (m : Memory) (c : Block) → 1 ≤ delta → limit < c.len + delta → Stands (bitmap_model unit count o t) m
    → Expands (bitmap_model unit count o t) (bitmap_model unit count o t) m m c c delta false
unfolding bitmap_rules
grown-too_long unit count delta o t m c l u h =
    let z : nat_eq delta 0 ≡ false = grind (arith, nat_tests, l) in
    let y : nat_lt limit (c.len + delta) ≡ true = grind (arith, nat_tests, u) in
    let s = state_of (bitmap_model unit count o t) m in
    not-grown (bitmap_model unit count o t) m c delta h (ap₂ (λ p q. expanded_unless p q (bitmap_expand unit delta) c s m.cells) z y)

-- the further units of a block, as the code counts them
pub record IsFurther (unit base delta from upto : ℕ) (c : Block) : Type 0 where
  pub start : from ≡ first_unit unit base c + unit_count unit base c
  pub stop : upto ≡ first_unit unit base c + unit_count unit base (with_len c (c.len + delta))

further-run : (unit base delta from upto : ℕ) (c : Block) → IsFurther unit base delta from upto c → upto - from ≡ unit_count unit base (with_len c (c.len + delta)) - unit_count unit base c
further-run unit base delta from upto c f = omega (arith, f.start, f.stop)

-- where they are not all there and free, the block stays
pub stuck : (unit count delta from upto : ℕ) (o : Option Bitmap) (b : Bitmap) (row : BitRow) (t : LayerModel) (m : Memory) (c : Block) → o ≡ Some b → row ≡ row_of b → IsHere unit count o t m → 1 ≤ delta → c.len + delta ≤ limit → IsFurther unit b.base delta from upto c
    → is_free_run (units_at m.bytes row) from (upto - from) ≡ false → Expands (bitmap_model unit count o t) (bitmap_model unit count o t) m m c c delta false
stuck unit count delta from upto o b row t m c q e h l u f z =
    let x = open-at unit count o b t m q h in
    let units = units_at m.bytes (row_of b) in
    let s = bitmap_state b units (state_of t m) in
    let free : further_units_free unit (c.len + delta) c s ≡ false =
    sym (ap₂ (λ i n. is_free_run units i n) f.start (further-run unit b.base delta from upto c f)) ∙ subst (λ (r : BitRow). is_free_run (units_at m.bytes r) from (upto - from) ≡ false) e z in
    let rule = asked unit count delta b t m c l u ∙ ap (λ s. bitmap_expand unit delta c s m.cells) x.state
    ∙ ap (λ k. elim k as (λ _. After Bool) [ true ↦ after true (bitmap_with true unit (with_len c (c.len + delta)) s) m.cells | false ↦ after false s m.cells ]) free ∙ ap (λ s. after false s m.cells) (sym x.state) in
    subst (λ (z : LayerModel). Expands z z m m c c delta false) (model-at unit count o b t q) (not-grown (bitmap_model unit count (Some b) t) m c delta x.stands rule)

-- a taken unit among them, or one that is not there
pub taken-further : (us : List Bool) (from upto k : ℕ) → IsNext true us from upto k → k < upto → is_free_run us from (upto - from) ≡ false
taken-further us from upto k x l = let s = x.start in not_free us from (upto - from) k s (omega arith) (x.here l)

pub beyond-further : (us : List Bool) (from upto count : ℕ) → length us ≡ count → from ≤ count → count < upto → is_free_run us from (upto - from) ≡ false
beyond-further us from upto count e l m = too_long us from (upto - from) (omega arith) (omega arith)

-- where they are, they are taken
pub grows : (unit count delta from upto k : ℕ) (o : Option Bitmap) (b : Bitmap) (row : BitRow) (t : LayerModel) (m m' : Memory) (c : Block) → o ≡ Some b → row ≡ row_of b → IsHere unit count o t m → 1 ≤ delta → c.len + delta ≤ limit
    → IsOutOf (bitmap_model unit count o t) m c → IsFurther unit b.base delta from upto c → IsNext true (units_at m.bytes row) from upto k → upto ≤ k → IsPutRow true row from (upto - from) m m'
    → Expands (bitmap_model unit count o t) (bitmap_model unit count o t) m m' c (with_len c (c.len + delta)) delta true
unfolding bitmap_rules
grows unit count delta from upto k o b row t m m' c q e h l u p f y z w =
    let x = open-at unit count o b t m q h in
    let some = x.unit_least in
    let d = with_len c (c.len + delta) in
    let units = units_at m.bytes (row_of b) in
    let s = bitmap_state b units (state_of t m) in
    let out = subst (λ (z : Option Bitmap). IsOutOf (bitmap_model unit count z t) m c) q p in
    let here = out-here unit count b t m c x out in
    let more = (longer unit b.base c (c.len + delta) (omega arith) (omega arith)).more in
    let y' = subst (λ (r : BitRow). IsNext true (units_at m.bytes r) from upto k) e y in
    let start = y'.start in
    let most = y'.most in
    let run = further-run unit b.base delta from upto c f in
    let all : is_free_run units from (upto - from) ≡ true = (free_runs_are_free units from (upto - from)).1 (λ j a g. y'.before j a (omega arith)) in
    let free : further_units_free unit (c.len + delta) c s ≡ true = sym (ap₂ (λ i n. is_free_run units i n) f.start run) ∙ all in
    let put : put_run true from (upto - from) units ≡ put_run true (first_unit unit b.base d) (unit_count unit b.base d) units =
    ap₂ (λ i n. put_run true i n units) f.start run ∙ sym (put-longer units (first_unit unit b.base c) (unit_count unit b.base c) (unit_count unit b.base d) more here.taken) in
    let rule = asked unit count delta b t m c l u ∙ ap (λ s. bitmap_expand unit delta c s m.cells) x.state
    ∙ ap (λ k. elim k as (λ _. After Bool) [ true ↦ after true (bitmap_with true unit d s) m.cells | false ↦ after false s m.cells ]) free
    ∙ ap (λ us. after true (bitmap_state b us (state_of t m)) m.cells) (sym put) in
    let v = left unit count b _ t m m' x (marked-put true row from (upto - from) b m m' e w) in
    let stay = v.others c out in
    subst (λ (z : LayerModel). Expands z z m m' c d delta true) (model-at unit count o b t q)
    (record {
      frame = v.frame;
      opened = refl;
      answer = ap (λ (x : After Bool). x.answer) (sym rule);
      block = refl;
      state = v.state ∙ ap (λ (x : After Bool). x.state) (sym rule);
      cells = v.cells ∙ ap (λ (x : After Bool). x.cells) (sym rule);
      carried = record { bytes = λ i a. stay.bytes.at (c.place + i) (omega arith) (omega arith); clean = λ x. x; marked = λ x. x };
      others = λ e o z. v.others e o;
    })

-- ---- what the code computes of a longer block

pub further-of : (unit base delta first count first' count' : ℕ) (c : Block) → first ≡ first_unit unit base c → count ≡ unit_count unit base c → first' ≡ first_unit unit base (with_len c (c.len + delta)) → count' ≡ unit_count unit base (with_len c (c.len + delta))
    → IsFurther unit base delta (first + count) (first' + count') c
further-of unit base delta first count first' count' c a b d e = record { start = ap₂ (λ i n. i + n) a b; stop = ap₂ (λ i n. i + n) d e }

-- the numbers of its units are not large, and the further ones stand behind the others
pub record AreFew (from upto count : ℕ) : Type 0 where
  pub order : from ≤ upto
  pub within : from ≤ count
  pub few : count ≤ 16777216
  pub most : upto ≤ 1099528404992

pub few-further : (unit count delta from upto : ℕ) (o : Option Bitmap) (b : Bitmap) (row : BitRow) (t : LayerModel) (m : Memory) (c : Block) → o ≡ Some b → row ≡ row_of b → IsHere unit count o t m → c.len + delta ≤ limit → IsOutOf (bitmap_model unit count o t) m c
    → IsFurther unit b.base delta from upto c → AreFew from upto row.count
few-further unit count delta from upto o b row t m c q e h u p f =
    let x = open-at unit count o b t m q h in
    let some = x.unit_least in
    let out = out-at unit count o b row t m c q e h p in
    let more = (longer unit b.base c (c.len + delta) (omega arith) (omega arith)).more in
    let len = out.some in
    let above = out.above in
    let z = c.place + (c.len + delta) - b.base in
    let self : z ≤ z * unit = (let k : z * 1 ≤ z * unit = mul-le-mul_left z (omega arith) in omega arith) in
    let last = ceil_div-least z unit z (omega arith) self in
    let behind = behind-is unit b.base c.place (c.len + delta) (omega arith) (omega arith) above in
    let i = unit-inside unit count b t m b.count x (omega arith) in
    let same : row.count ≡ b.count = ap (λ (r : BitRow). r.count) e in
    let k : 1 * b.count ≤ unit * b.count = mul-le-mul_right b.count (omega arith) in
    record { order = omega (arith, f.start, f.stop); within = omega (arith, f.start, out.within); few = omega (arith, i.end, i.few); most = omega (arith, f.stop, out.upto) }
