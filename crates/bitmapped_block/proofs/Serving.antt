-- What `allocate` and `aligned_allocate` of a bitmap do.
use Rattle.std.proofs.Common.{◌≡◌, refl, sym, ◌∙◌, ap, ap₂, subst, ℕ, ◌+◌, ◌-◌, ◌*◌, ◌/◌, ◌%◌, ◌^◌, ◌≤◌, ◌<◌, Bool, true, false, [], List, Option, Some, None, max, nat_eq, nat_lt, length, arith}
use Rattle.std.proofs.Math.Nat.{mul_comm, lt_of_mul-lt-mul_right}
use Rattle.std.proofs.lemmas.Bool.Decides.{nat_tests}
use Rattle.std.proofs.lemmas.Nat.{div-add-mod', div-mul-add, mod_below}
use Rattle.std.proofs.lemmas.Option.{slice_get_within}
use Rattle.size_round.specs.Sizes.{limit, ceil_div}
use Rattle.size_round.proofs.UpLeast.{enough_times, times_below, ceil_div-least}
use Rattle.space_core.specs.Cells.{Cells}
use Rattle.space_core.specs.Memory.{Memory}
use Rattle.space_core.specs.Runs.{first_run, put_run}
use Rattle.layer_rules.specs.declared.Block.{Block}
use Rattle.layer_rules.specs.After.{After, after, Placed, placed, refuse}
use Rattle.layer_rules.specs.Allocating.{served_unless}
use Rattle.layer_rules.specs.Blocks.{block}
use Rattle.layer_rules.specs.Layering.{LayerModel, state_of, allocated, aligned_allocated, block_in, Stands, Allocates, AlignedAllocates, IsCleanOf}
use Rattle.layer_rules.specs.State.{State}
use Rattle.layer_rules.specs.Units.{first_unit, unit_count}
use Rattle.layer_laws.proofs.CellBytes.{unit_below}
use Rattle.layer_laws.proofs.FirstRuns.{free_runs_are_free}
use Rattle.layer_laws.proofs.StandingLaws.{refused}
use Rattle.bitmap_rules.specs.BitmapRules.{bitmap_rules, bitmap_allocate, bitmap_aligned_allocate, bitmap_take, free_place}
use Rattle.bitmap_rules.proofs.BitmapPlaces.{free_place_is_least}
use Rattle.bitmapped_block.specs.declared.bits.BitRow.{BitRow}
use Rattle.bitmapped_block.specs.declared.bitmapped.Bitmap.{Bitmap}
use Rattle.bitmapped_block.specs.BitmapModel.{bitmap_model}
use Rattle.bitmapped_block.specs.declared.places.Units.{Units}
use Rattle.bitmapped_block.specs.BitmapSizes.{row_of, held_units}
use Rattle.bitmapped_block.specs.UnitBits.{units_at, HasWords, IsPutRow}
use Rattle.bitmapped_block.specs.UnitPlaces.{AreUnits}
use Rattle.bitmapped_block.proofs.RowBits.{units-length}
use Rattle.bitmapped_block.proofs.Seeking.{run-within}
use Rattle.bitmapped_block.proofs.Marking.{IsLeft, left, marked-put, nothing-moved}
use Rattle.bitmapped_block.proofs.Standing.{IsHere, IsOpen, bitmap_state, model-at, open-at, row-length, unit-inside, whole-row}

-- ---- the units of a block at a unit's place

at-unit : (unit base i : ℕ) → 1 ≤ unit → (base + unit * i - base) / unit ≡ i
at-unit unit base i h =
    let q : base + unit * i - base ≡ i * unit + 0 = omega (arith, mul_comm unit i) in
    ap (λ x. x / unit) q ∙ div-mul-add i unit 0 (omega arith)

ceil-add : (unit i n : ℕ) → 1 ≤ unit → ceil_div (i * unit + n) unit ≡ i + ceil_div n unit
ceil-add unit i n h =
    let e : i * unit + n + (unit - 1) ≡ i * unit + (n + (unit - 1)) = omega arith in
    ap (λ x. x / unit) e ∙ div-plus unit i (n + (unit - 1)) h
  where
    div-plus : (unit i x : ℕ) → 1 ≤ unit → (i * unit + x) / unit ≡ i + x / unit
    div-plus unit i x h =
        let s : i * unit + x ≡ (i + x / unit) * unit + x % unit = (let d = div-add-mod' x unit in let r : (i + x / unit) * unit ≡ i * unit + x / unit * unit = grind arith in omega arith) in
        ap (λ y. y / unit) s ∙ div-mul-add (i + x / unit) unit (x % unit) (mod_below x unit (omega arith))

units-at_unit : (unit base i n : ℕ) → 1 ≤ unit → unit_count unit base (block (base + unit * i) n) ≡ ceil_div n unit
units-at_unit unit base i n h =
    let q : base + unit * i + n - base ≡ i * unit + n = omega (arith, mul_comm unit i) in
    let e : ceil_div (base + unit * i + n - base) unit ≡ i + ceil_div n unit = ap (λ x. ceil_div x unit) q ∙ ceil-add unit i n h in
    let f = at-unit unit base i h in
    omega arith

-- ---- a request, by what was found

-- a block that was served, in a bitmap whose units are these
pub served : (unit count n : ℕ) (b : Bitmap) (units : List Bool) (t : LayerModel) (m m' : Memory) (c : Block) → IsLeft unit count b units t m m'
    → allocated (bitmap_model unit count (Some b) t) m n ≡ after (Some (placed c [])) (bitmap_state b units (state_of t m)) m.cells
    → Allocates (bitmap_model unit count (Some b) t) (bitmap_model unit count (Some b) t) m m' n (Some c)
unfolding bitmap_rules
served unit count n b units t m m' c l q =
    record {
      frame = l.frame;
      opened = refl;
      answer = ap (λ (x : After (Option Placed)). block_in x.answer) (sym q);
      state = l.state ∙ ap (λ (x : After (Option Placed)). x.state) (sym q);
      cells = l.cells ∙ ap (λ (x : After (Option Placed)). x.cells) (sym q);
      others = l.others;
      made = λ d e. refl;
    }

-- so at a multiple
pub aligned-served : (unit count n a : ℕ) (b : Bitmap) (units : List Bool) (t : LayerModel) (m m' : Memory) (c : Block) → IsLeft unit count b units t m m'
    → aligned_allocated (bitmap_model unit count (Some b) t) m n a ≡ after (Some (placed c [])) (bitmap_state b units (state_of t m)) m.cells
    → AlignedAllocates (bitmap_model unit count (Some b) t) (bitmap_model unit count (Some b) t) m m' n a (Some c)
unfolding bitmap_rules
aligned-served unit count n a b units t m m' c l q =
    record {
      frame = l.frame;
      opened = refl;
      answer = ap (λ (x : After (Option Placed)). block_in x.answer) (sym q);
      state = l.state ∙ ap (λ (x : After (Option Placed)). x.state) (sym q);
      cells = l.cells ∙ ap (λ (x : After (Option Placed)). x.cells) (sym q);
      others = l.others;
      made = λ d e. refl;
    }

aligned-refused : (t : LayerModel) (m : Memory) (n a : ℕ) → Stands t m → aligned_allocated t m n a ≡ refuse (state_of t m) m.cells → AlignedAllocates t t m m n a None
aligned-refused t m n a h q =
    record {
      frame = nothing-moved t m h;
      opened = refl;
      answer = ap (λ (x : After (Option Placed)). block_in x.answer) (sym q);
      state = ap (λ (x : After (Option Placed)). x.state) (sym q);
      cells = ap (λ (x : After (Option Placed)). x.cells) (sym q);
      others = λ b o. record { bytes = record { at = λ i x y. refl }; clean = λ x. x; marked = λ x. x };
      made = λ b e. absurd (cc);
    }

-- ---- the rule

-- the least run is taken
rule-run : (unit n : ℕ) (b : Bitmap) (units : List Bool) (s : State) (cells : Cells) (i : ℕ) → 1 ≤ unit → first_run (λ i. true) (ceil_div n unit) 0 units ≡ Some i
    → bitmap_allocate unit n (bitmap_state b units s) cells ≡ after (Some (placed (block (b.base + unit * i) n) [])) (bitmap_state b (put_run true i (ceil_div n unit) units) s) cells
rule-run unit n b units s cells i h e =
    ap (λ o. elim o as (λ _. After (Option Placed)) [ None ↦ refuse (bitmap_state b units s) cells | Some i ↦ bitmap_take unit n (Some (b.base + unit * i)) (bitmap_state b units s) cells ]) e
    ∙ ap₂ (λ j k. after (Some (placed (block (b.base + unit * i) n) [])) (bitmap_state b (put_run true j k units) s) cells) (at-unit unit b.base i h) (units-at_unit unit b.base i n h)

rule-no_run : (unit n : ℕ) (b : Bitmap) (units : List Bool) (s : State) (cells : Cells) → first_run (λ i. true) (ceil_div n unit) 0 units ≡ None → bitmap_allocate unit n (bitmap_state b units s) cells ≡ refuse (bitmap_state b units s) cells
rule-no_run unit n b units s cells e =
    ap (λ o. elim o as (λ _. After (Option Placed)) [ None ↦ refuse (bitmap_state b units s) cells | Some i ↦ bitmap_take unit n (Some (b.base + unit * i)) (bitmap_state b units s) cells ]) e

-- a length that is served is asked for
asked : (unit count n : ℕ) (b : Bitmap) (t : LayerModel) (m : Memory) → 1 ≤ n → n ≤ limit → allocated (bitmap_model unit count (Some b) t) m n ≡ bitmap_allocate unit n (state_of (bitmap_model unit count (Some b) t) m) m.cells
unfolding bitmap_rules
asked unit count n b t m l u =
    let z : nat_eq n 0 ≡ false = grind (arith, nat_tests, l) in
    let y : nat_lt limit n ≡ false = grind (arith, nat_tests, u) in
    let s = state_of (bitmap_model unit count (Some b) t) m in
    ap₂ (λ p q. served_unless p q (bitmap_allocate unit n) s m.cells) z y

asked-aligned : (unit count n a : ℕ) (b : Bitmap) (t : LayerModel) (m : Memory) → 1 ≤ n → n ≤ limit
    → aligned_allocated (bitmap_model unit count (Some b) t) m n a ≡ bitmap_aligned_allocate unit n a (state_of (bitmap_model unit count (Some b) t) m) m.cells
unfolding bitmap_rules
asked-aligned unit count n a b t m l u =
    let z : nat_eq n 0 ≡ false = grind (arith, nat_tests, l) in
    let y : nat_lt limit n ≡ false = grind (arith, nat_tests, u) in
    let s = state_of (bitmap_model unit count (Some b) t) m in
    ap₂ (λ p q. served_unless p q (bitmap_aligned_allocate unit n a) s m.cells) z y

-- ---- what the code did

-- the least run was found, and is taken
pub serves-run : (unit count n first : ℕ) (o : Option Bitmap) (b : Bitmap) (row : BitRow) (t : LayerModel) (m m' : Memory) → o ≡ Some b → row ≡ row_of b → IsHere unit count o t m → 1 ≤ n → n ≤ limit
    → Some first ≡ first_run (λ i. true) (ceil_div n unit) 0 (units_at m.bytes row) → IsPutRow true row first (ceil_div n unit) m m'
    → Allocates (bitmap_model unit count o t) (bitmap_model unit count o t) m m' n (Some (block (b.base + unit * first) n))
serves-run unit count n first o b row t m m' q e h l u f p =
    let x = open-at unit count o b t m q h in
    let some = x.unit_least in
    let units = units_at m.bytes (row_of b) in
    let found = sym (subst (λ (r : BitRow). Some first ≡ first_run (λ i. true) (ceil_div n unit) 0 (units_at m.bytes r)) e f) in
    let rule = asked unit count n b t m l u ∙ ap (λ s. bitmap_allocate unit n s m.cells) x.state ∙ rule-run unit n b units (state_of t m) m.cells first (omega arith) found in
    subst (λ (z : LayerModel). Allocates z z m m' n (Some (block (b.base + unit * first) n))) (model-at unit count o b t q)
    (served unit count n b (put_run true first (ceil_div n unit) units) t m m' (block (b.base + unit * first) n) (left unit count b _ t m m' x (marked-put true row first (ceil_div n unit) b m m' e p)) rule)

-- there is no such run
pub no-run : (unit count n : ℕ) (o : Option Bitmap) (b : Bitmap) (row : BitRow) (t : LayerModel) (m : Memory) → o ≡ Some b → row ≡ row_of b → IsHere unit count o t m → 1 ≤ n → n ≤ limit
    → None ≡ first_run (λ i. true) (ceil_div n unit) 0 (units_at m.bytes row) → Allocates (bitmap_model unit count o t) (bitmap_model unit count o t) m m n None
no-run unit count n o b row t m q e h l u f =
    let x = open-at unit count o b t m q h in
    let units = units_at m.bytes (row_of b) in
    let found = sym (subst (λ (r : BitRow). ◌≡◌ {A = Option ℕ} None (first_run (λ i. true) (ceil_div n unit) 0 (units_at m.bytes r))) e f) in
    let rule = asked unit count n b t m l u ∙ ap (λ s. bitmap_allocate unit n s m.cells) x.state ∙ rule-no_run unit n b units (state_of t m) m.cells found ∙ ap (λ s. refuse s m.cells) (sym x.state) in
    subst (λ (z : LayerModel). Allocates z z m m n None) (model-at unit count o b t q) (refused (bitmap_model unit count (Some b) t) m n x.stands rule)

-- a run that was found lies within the units, and in the Space
pub record IsRunInside (unit : ℕ) (b : Bitmap) (row : BitRow) (first n : ℕ) : Type 0 where
  pub within : first + n ≤ row.count
  pub product : unit * first ≤ 16777216
  pub place : b.base + unit * first ≤ 16777216

pub run-inside : (unit count n first : ℕ) (o : Option Bitmap) (b : Bitmap) (row : BitRow) (t : LayerModel) (m : Memory) → o ≡ Some b → row ≡ row_of b → IsHere unit count o t m → 1 ≤ n
    → Some first ≡ first_run (λ i. true) (ceil_div n unit) 0 (units_at m.bytes row) → IsRunInside unit b row first (ceil_div n unit)
run-inside unit count n first o b row t m q e h l f =
    let x = open-at unit count o b t m q h in
    let some = x.unit_least in
    let w = whole-row unit count b t m row x e in
    let needed = unit_below 0 n unit (omega arith) (omega arith) in
    let within = run-within (ceil_div n unit) first row.count (units_at m.bytes row) (omega arith) (units-length m.bytes row w.there.inside) f in
    let same : row.count ≡ b.count = ap (λ (r : BitRow). r.count) e in
    let i = unit-inside unit count b t m first x (omega arith) in
    record { within = within; product = omega (arith, i.end, i.few); place = omega (arith, i.end, i.few) }

-- ---- at a multiple

rule-place : (unit n a : ℕ) (b : Bitmap) (units : List Bool) (s : State) (cells : Cells) (p : ℕ) → free_place unit n (max a 16) b.base units ≡ Some p
    → bitmap_aligned_allocate unit n a (bitmap_state b units s) cells
    ≡ after (Some (placed (block p n) [])) (bitmap_state b (put_run true (first_unit unit b.base (block p n)) (unit_count unit b.base (block p n)) units) s) cells
rule-place unit n a b units s cells p e = ap (λ o. bitmap_take unit n o (bitmap_state b units s) cells) e

rule-no_place : (unit n a : ℕ) (b : Bitmap) (units : List Bool) (s : State) (cells : Cells) → free_place unit n (max a 16) b.base units ≡ None
    → bitmap_aligned_allocate unit n a (bitmap_state b units s) cells ≡ refuse (bitmap_state b units s) cells
rule-no_place unit n a b units s cells e = ap (λ o. bitmap_take unit n o (bitmap_state b units s) cells) e

-- what is asked of the row that is searched
abbrev pub found_in : (n a : ℕ) (us : Units) (m : Memory) → Option ℕ
found_in n a us m = free_place us.size n a us.base (units_at m.bytes us.row)

-- the least place was found, and its units are taken
pub serves-place : (unit count n a k p first size : ℕ) (o : Option Bitmap) (b : Bitmap) (us : Units) (row : BitRow) (t : LayerModel) (m m' : Memory) → o ≡ Some b → us ≡ held_units unit b → row ≡ row_of b → IsHere unit count o t m → 1 ≤ n → n ≤ limit
    → k ≡ max a 16 → Some p ≡ found_in n k us m → first ≡ first_unit unit b.base (block p n) → size ≡ unit_count unit b.base (block p n) → IsPutRow true row first size m m'
    → AlignedAllocates (bitmap_model unit count o t) (bitmap_model unit count o t) m m' n a (Some (block p n))
serves-place unit count n a k p first size o b us row t m m' q g e h l u j f y z w =
    let x = open-at unit count o b t m q h in
    let units = units_at m.bytes (row_of b) in
    let found = sym (subst (λ (z : ℕ). Some p ≡ free_place unit n z b.base units) j (subst (λ (v : Units). Some p ≡ found_in n k v m) g f)) in
    let rule = asked-aligned unit count n a b t m l u ∙ ap (λ s. bitmap_aligned_allocate unit n a s m.cells) x.state ∙ rule-place unit n a b units (state_of t m) m.cells p found in
    let rule' = rule ∙ ap₂ (λ i c. after (Some (placed (block p n) [])) (bitmap_state b (put_run true i c units) (state_of t m)) m.cells) (sym y) (sym z) in
    subst (λ (z : LayerModel). AlignedAllocates z z m m' n a (Some (block p n))) (model-at unit count o b t q)
    (aligned-served unit count n a b (put_run true first size units) t m m' (block p n) (left unit count b _ t m m' x (marked-put true row first size b m m' e w)) rule')

pub no-place : (unit count n a k : ℕ) (o : Option Bitmap) (b : Bitmap) (us : Units) (t : LayerModel) (m : Memory) → o ≡ Some b → us ≡ held_units unit b → IsHere unit count o t m → 1 ≤ n → n ≤ limit → k ≡ max a 16 → None ≡ found_in n k us m
    → AlignedAllocates (bitmap_model unit count o t) (bitmap_model unit count o t) m m n a None
no-place unit count n a k o b us t m q g h l u j f =
    let x = open-at unit count o b t m q h in
    let units = units_at m.bytes (row_of b) in
    let found = sym (subst (λ (z : ℕ). ◌≡◌ {A = Option ℕ} None (free_place unit n z b.base units)) j (subst (λ (v : Units). ◌≡◌ {A = Option ℕ} None (found_in n k v m)) g f)) in
    let rule = asked-aligned unit count n a b t m l u ∙ ap (λ s. bitmap_aligned_allocate unit n a s m.cells) x.state ∙ rule-no_place unit n a b units (state_of t m) m.cells found ∙ ap (λ s. refuse s m.cells) (sym x.state) in
    subst (λ (z : LayerModel). AlignedAllocates z z m m n a None) (model-at unit count o b t q) (aligned-refused (bitmap_model unit count (Some b) t) m n a x.stands rule)

-- the units that are searched
pub searched : (unit count : ℕ) (b : Bitmap) (us : Units) (t : LayerModel) (m : Memory) → IsOpen unit count b t m → us ≡ held_units unit b → HasWords m us.row × AreUnits us
searched unit count b us t m x g =
    let i = unit-inside unit count b t m b.count x (omega arith) in
    let some = x.unit_least in
    let units : AreUnits (held_units unit b) = record { some = omega arith; end = omega (arith, i.end, i.few) } in
    subst (λ (v : Units). HasWords m v.row × AreUnits v) (sym g) (x.whole.there, units)

-- the place that was found lies within the units
pub record IsPlaceInside (unit : ℕ) (b : Bitmap) (row : BitRow) (p n first size : ℕ) : Type 0 where
  pub above : b.base ≤ p
  pub fits : p + n + unit ≤ 2 ^ 63
  pub within : first ≡ first_unit unit b.base (block p n) → size ≡ unit_count unit b.base (block p n) → first + size ≤ row.count

pub place-inside : (unit count n k p first size : ℕ) (o : Option Bitmap) (b : Bitmap) (us : Units) (row : BitRow) (t : LayerModel) (m : Memory) → o ≡ Some b → us ≡ held_units unit b → row ≡ row_of b → IsHere unit count o t m → 1 ≤ n → n ≤ limit → 1 ≤ k
    → Some p ≡ found_in n k us m → IsPlaceInside unit b row p n first size
place-inside unit count n k p first size o b us row t m q g e h l u j f =
    let x = open-at unit count o b t m q h in
    let units = units_at m.bytes (row_of b) in
    let some = x.unit_least in
    let most = x.unit_most in
    let found = sym (subst (λ (v : Units). Some p ≡ found_in n k v m) g f) in
    let y = free_place_is_least unit n k b.base units p j found in
    let above = y.above in
    let touched = unit_below (p - b.base) (p + n - b.base) unit (omega arith) (omega arith) in
    let taken = (free_runs_are_free units (first_unit unit b.base (block p n)) (unit_count unit b.base (block p n))).0 y.free in
    let last = first_unit unit b.base (block p n) + unit_count unit b.base (block p n) in
    let within : last ≤ length units = (let w = slice_get_within units (last - 1) false (taken (last - 1) (omega arith) (omega arith)) in omega arith) in
    let n = row-length unit count b t m x in
    let same : row.count ≡ b.count = ap (λ (r : BitRow). r.count) e in
    let i = unit-inside unit count b t m ((p - b.base) / unit) x (omega arith) in
    let near : p < b.base + unit * ((p - b.base) / unit) + unit = omega (arith, div-add-mod' (p - b.base) unit, mod_below (p - b.base) unit (omega arith), mul_comm unit ((p - b.base) / unit)) in
    record { above = above; fits = omega (arith, i.end, i.few); within = λ y z. omega arith }
