-- Rows of units: the units that a block touches, in order of places, and how blocks fare as units of a row are taken and freed.
use Rattle.std.proofs.Common.{◌≡◌, sym, ap, ap₂, subst, ◌∙◌, ℕ, zero, suc, ◌≤◌, ◌<◌, ◌+◌, ◌-◌, ◌*◌, ◌/◌, ◌⊎◌, inl, inr, ⊎_elim, Bool, true, false, arith, List, length, replicate, Some, slice_get}
use Rattle.std.proofs.Math.Nat.{lt_of_mul-lt-mul_right, mul-le-mul_right, le_of_mul-le-mul_right, mul_comm, mul-div-le}
use Rattle.std.proofs.lemmas.Nat.{div-mul-add}
use Rattle.std.proofs.lemmas.Option.{slice_get_within}
use Rattle.size_round.specs.Sizes.{ceil_div}
use Rattle.size_round.proofs.UpLeast.{enough_times, ceil_div-least, times_below}
use Rattle.space_core.specs.Runs.{put_run, is_free_run}
use Rattle.layer_rules.specs.declared.Block.{Block}
use Rattle.layer_rules.specs.Blocks.{block, end_of, is_apart}
use Rattle.layer_rules.specs.Units.{first_unit, unit_count, touched_block}
use Rattle.layer_laws.proofs.BlockLaws.{apart_from}
use Rattle.layer_laws.proofs.CellBytes.{unit_below}
use Rattle.layer_laws.proofs.Children.{runs-apart, apart-either}
use Rattle.layer_laws.proofs.RunWrites.{units_are_put}
use Rattle.layer_laws.specs.UnitMeanings.{AreAll}
use Rattle.std.proofs.lemmas.Bool.{cases_lt}

-- ---- the units that a block touches hold it

pub record IsTouched (unit base : ℕ) (b : Block) : Type 0 where
  pub some : 1 ≤ unit_count unit base b
  pub from : base + unit * first_unit unit base b ≤ b.place
  pub upto : end_of b ≤ base + unit * (first_unit unit base b + unit_count unit base b)

pub touched : (unit base : ℕ) (b : Block) → 1 ≤ unit → 1 ≤ b.len → base ≤ b.place → IsTouched unit base b
touched unit base b h l m =
    let x = b.place - base in
    let e = end_of b - base in
    let below : x / unit < ceil_div e unit = unit_below x e unit h (omega arith) in
    let sum : x / unit + (ceil_div e unit - x / unit) ≡ ceil_div e unit = omega arith in
    let reach : e ≤ unit * ceil_div e unit = omega (arith, enough_times e unit h, mul_comm unit (ceil_div e unit)) in
    let low : unit * (x / unit) ≤ x = mul-div-le x unit in
    let upto : end_of b ≤ base + unit * ceil_div e unit = omega arith in
    record { some = omega arith; from = omega arith; upto = subst (λ k. end_of b ≤ base + unit * k) (sym sum) upto }

-- ---- places in the order of units

pub in-order : (unit base i j : ℕ) → i ≤ j → base + unit * i ≤ base + unit * j
in-order unit base i j l = let k : i * unit ≤ j * unit = mul-le-mul_right unit l in omega (arith, mul_comm unit i, mul_comm unit j)

back-in_order : (unit base i j : ℕ) → 1 ≤ unit → base + unit * i ≤ base + unit * j → i ≤ j
back-in_order unit base i j h l = le_of_mul-le-mul_right {k = unit} (omega (arith, mul_comm unit i, mul_comm unit j)) h

pub units-sum : (unit base i n : ℕ) → base + unit * i + unit * n ≡ base + unit * (i + n)
units-sum unit base i n = grind arith

pub units-apart : (unit base : ℕ) (b c : Block) → 1 ≤ unit → is_apart (touched_block unit base b) (touched_block unit base c) ≡ true
    → (first_unit unit base b + unit_count unit base b ≤ first_unit unit base c) ⊎ (first_unit unit base c + unit_count unit base c ≤ first_unit unit base b)
units-apart unit base b c h a = elim (apart_from (touched_block unit base b) (touched_block unit base c) a) [
  | inl l ↦ inl (back-in_order unit base _ _ h (subst (λ k. k ≤ base + unit * first_unit unit base c) (units-sum unit base (first_unit unit base b) (unit_count unit base b)) l))
  | inr l ↦ inr (back-in_order unit base _ _ h (subst (λ k. k ≤ base + unit * first_unit unit base b) (units-sum unit base (first_unit unit base c) (unit_count unit base c)) l))
]

pub apart-units : (unit base : ℕ) (b c : Block) → (first_unit unit base b + unit_count unit base b ≤ first_unit unit base c) ⊎ (first_unit unit base c + unit_count unit base c ≤ first_unit unit base b)
    → is_apart (touched_block unit base b) (touched_block unit base c) ≡ true
apart-units unit base b c d = apart-either (touched_block unit base b) (touched_block unit base c) (elim d [
  | inl l ↦ inl (subst (λ k. k ≤ base + unit * first_unit unit base c) (sym (units-sum unit base (first_unit unit base b) (unit_count unit base b))) (in-order unit base _ _ l))
  | inr l ↦ inr (subst (λ k. k ≤ base + unit * first_unit unit base b) (sym (units-sum unit base (first_unit unit base c) (unit_count unit base c))) (in-order unit base _ _ l))
])

-- ---- a block at a unit's place

at-unit : (unit base i : ℕ) → 1 ≤ unit → (base + unit * i - base) / unit ≡ i
at-unit unit base i h =
    let q : base + unit * i - base ≡ i * unit + 0 = omega (arith, mul_comm unit i) in
    ap (λ x. x / unit) q ∙ div-mul-add i unit 0 (omega arith)

many-units : (unit base i n : ℕ) → 1 ≤ unit → ceil_div (base + unit * i + n - base) unit ≡ i + ceil_div n unit
many-units unit base i n h =
    let k = ceil_div n unit in
    let q : base + unit * i + n - base ≡ i * unit + n = omega (arith, mul_comm unit i) in
    let sum : (i + k) * unit ≡ i * unit + k * unit = grind arith in
    let enough : n ≤ k * unit = enough_times n unit h in
    let few : k * unit < n + unit = times_below n unit h in
    let upper : ceil_div (i * unit + n) unit ≤ i + k = ceil_div-least (i * unit + n) unit (i + k) h (omega arith) in
    let e2 : i * unit + n ≤ ceil_div (i * unit + n) unit * unit = enough_times (i * unit + n) unit h in
    let next : (ceil_div (i * unit + n) unit + 1) * unit ≡ ceil_div (i * unit + n) unit * unit + unit = grind arith in
    let lower : i + k < ceil_div (i * unit + n) unit + 1 = lt-back (i + k) (ceil_div (i * unit + n) unit + 1) unit h (omega arith) in
    let same : ceil_div (i * unit + n) unit ≡ i + k = omega arith in
    ap (λ x. ceil_div x unit) q ∙ same
  where
    lt-back : (a b unit : ℕ) → 1 ≤ unit → a * unit < b * unit → a < b
    lt-back a b unit h l = lt_of_mul-lt-mul_right unit l

pub free-at_unit : (unit base i n : ℕ) (us : List Bool) → 1 ≤ unit → is_free_run us i (ceil_div n unit) ≡ true → is_free_run us (first_unit unit base (block (base + unit * i) n)) (unit_count unit base (block (base + unit * i) n)) ≡ true
free-at_unit unit base i n us h f =
    let first : first_unit unit base (block (base + unit * i) n) ≡ i = at-unit unit base i h in
    let last : ceil_div (base + unit * i + n - base) unit ≡ i + ceil_div n unit = many-units unit base i n h in
    let count : unit_count unit base (block (base + unit * i) n) ≡ ceil_div n unit = omega arith in
    ap₂ (λ j m. is_free_run us j m) first count ∙ f

-- so many units fill the row up to its end
pub row-count : (unit base stop n : ℕ) → 1 ≤ unit → stop ≡ base + n * unit → (stop - base) / unit ≡ n
row-count unit base stop n h e = let q : stop - base ≡ n * unit + 0 = omega arith in ap (λ x. x / unit) q ∙ div-mul-add n unit 0 (omega arith)

-- ---- rows of units that are put

side : (i n k : ℕ) → (k < i) ⊎ ((i + n ≤ k) ⊎ ((i ≤ k) × (k < i + n)))
side i n k = grind arith

-- what is taken stays so as more is taken, and as other units are freed
put-taken : (units : List Bool) (i n first count : ℕ) → AreAll true units first count → AreAll true (put_run true i n units) first count
put-taken units i n first count h k from upto =
    let p = units_are_put true i n units in
    let was = h k from upto in
    elim (side i n k) [
      | inl l ↦ p.below k l ∙ was
      | inr o ↦ elim o [ inl l ↦ p.behind k l ∙ was | inr m ↦ p.inside k (slice_get_within units k true was) m.0 m.1 ]
    ]

put-beside : (units : List Bool) (i n first count : ℕ) → (first + count ≤ i) ⊎ (i + n ≤ first) → AreAll true units first count → AreAll true (put_run false i n units) first count
put-beside units i n first count d h k from upto =
    let p = units_are_put false i n units in
    elim d [ inl l ↦ p.below k (omega arith) ∙ h k from upto | inr l ↦ p.behind k (omega arith) ∙ h k from upto ]

-- what is free stays so as more is freed
pub put-free : (units : List Bool) (i n first count : ℕ) → AreAll false units first count → AreAll false (put_run false i n units) first count
put-free units i n first count h k from upto =
    let p = units_are_put false i n units in
    let was = h k from upto in
    elim (side i n k) [
      | inl l ↦ p.below k l ∙ was
      | inr o ↦ elim o [ inl l ↦ p.behind k l ∙ was | inr m ↦ p.inside k (slice_get_within units k false was) m.0 m.1 ]
    ]

-- a run of which some units are taken and the others free is taken
pub put-grown : (units : List Bool) (i few n : ℕ) → AreAll true units i few → AreAll false units (i + few) (n - few) → AreAll true (put_run true i n units) i n
put-grown units i few n t f k from upto = elim (within (split k (i + few))) [ inl l ↦ l | inr l ↦ l ]
  where
    split : (a b : ℕ) → (a < b) ⊎ (b ≤ a)
    split a b = grind arith

    within : (k < i + few) ⊎ (i + few ≤ k) → (slice_get (put_run true i n units) k ≡ Some true) ⊎ (slice_get (put_run true i n units) k ≡ Some true)
    within (inl l) = inl ((units_are_put true i n units).inside k (slice_get_within units k true (t k from l)) from upto)
    within (inr l) = inr ((units_are_put true i n units).inside k (slice_get_within units k false (f k l (omega arith))) from upto)

-- no unit is taken and free
pub runs-differ : (units : List Bool) (i n first count : ℕ) → 1 ≤ n → 1 ≤ count → AreAll false units i n → AreAll true units first count → (i + n ≤ first) ⊎ (first + count ≤ i)
runs-differ units i n first count l m f t =
    runs-apart i (i + n) first (first + count) (omega arith) (omega arith) (λ k a b c d. let z : Some false ≡ Some true = sym (f k a b) ∙ t k c d in let x : ⊥ = cc in x)

-- none of these units is taken
pub none-taken : (n k : ℕ) → slice_get (replicate n false) k ≡ Some true → ⊥
none-taken zero k h = absurd (cc)
none-taken (suc n) zero h = absurd (cc)
none-taken (suc n) (suc k) h = none-taken n k h

-- ---- the units of a block that is out are there and taken

pub record HasUnits (unit base : ℕ) (units : List Bool) (b : Block) : Type 0 where
  pub above : base ≤ b.place
  pub touch : IsTouched unit base b
  pub taken : AreAll true units (first_unit unit base b) (unit_count unit base b)
  pub within : first_unit unit base b + unit_count unit base b ≤ length units

pub has-units : (unit base : ℕ) (units : List Bool) (b : Block) → 1 ≤ unit → 1 ≤ b.len → base ≤ b.place → AreAll true units (first_unit unit base b) (unit_count unit base b) → HasUnits unit base units b
has-units unit base units b h l m t =
    let u = touched unit base b h l m in
    let first = first_unit unit base b in
    let count = unit_count unit base b in
    let some : 1 ≤ count = u.some in
    let last : first + count - 1 < length units = slice_get_within units (first + count - 1) true (t (first + count - 1) (omega arith) (omega arith)) in
    record { above = m; touch = u; taken = t; within = omega arith }

-- it has them still as more are taken
pub units-stay : (unit base : ℕ) (units : List Bool) (i n : ℕ) (b : Block) → HasUnits unit base units b → HasUnits unit base (put_run true i n units) b
units-stay unit base units i n b u = record {
  above = u.above;
  touch = u.touch;
  taken = put-taken units i n (first_unit unit base b) (unit_count unit base b) u.taken;
  within = rw ((units_are_put true i n units).size) u.within;
}

-- and as those of a block apart from it are freed
pub units-stay_beside : (unit base : ℕ) (units : List Bool) (b d : Block) → 1 ≤ unit → is_apart (touched_block unit base b) (touched_block unit base d) ≡ true → HasUnits unit base units d
    → HasUnits unit base (put_run false (first_unit unit base b) (unit_count unit base b) units) d
units-stay_beside unit base units b d h a u =
    let i = first_unit unit base b in
    let n = unit_count unit base b in
    let beside : (first_unit unit base d + unit_count unit base d ≤ i) ⊎ (i + n ≤ first_unit unit base d) = elim (units-apart unit base b d h a) [ inl l ↦ inr l | inr l ↦ inl l ] in
    record {
      above = u.above;
      touch = u.touch;
      taken = put-beside units i n (first_unit unit base d) (unit_count unit base d) beside u.taken;
      within = rw ((units_are_put false i n units).size) u.within;
    }

-- a block of which the units were free and are taken now has them, and meets none that had its own
pub units-new : (unit base : ℕ) (units : List Bool) (b : Block) → 1 ≤ unit → 1 ≤ b.len → base ≤ b.place → AreAll false units (first_unit unit base b) (unit_count unit base b)
    → HasUnits unit base (put_run true (first_unit unit base b) (unit_count unit base b) units) b
units-new unit base units b h l m free =
    let i = first_unit unit base b in
    let n = unit_count unit base b in
    has-units unit base (put_run true i n units) b h l m (λ k from upto. (units_are_put true i n units).inside k (slice_get_within units k false (free k from upto)) from upto)

pub new-apart : (unit base : ℕ) (units : List Bool) (b d : Block) → 1 ≤ unit → 1 ≤ b.len → base ≤ b.place → AreAll false units (first_unit unit base b) (unit_count unit base b) → HasUnits unit base units d
    → is_apart (touched_block unit base b) (touched_block unit base d) ≡ true
new-apart unit base units b d h l m free u =
    let touch = u.touch in
    apart-units unit base b d (runs-differ units (first_unit unit base b) (unit_count unit base b) (first_unit unit base d) (unit_count unit base d) (touched unit base b h l m).some touch.some free u.taken)

-- the units of a block that is longer by free ones lie beside those of each block that it was apart from
pub longer-apart : (unit base : ℕ) (units : List Bool) (b c d : Block) → 1 ≤ unit → first_unit unit base c ≡ first_unit unit base b → AreAll false units (first_unit unit base b + unit_count unit base b) (unit_count unit base c - unit_count unit base b)
    → is_apart (touched_block unit base b) (touched_block unit base d) ≡ true → HasUnits unit base units d → is_apart (touched_block unit base c) (touched_block unit base d) ≡ true
longer-apart unit base units b c d h same free a u =
    let touch = u.touch in
    apart-units unit base c d (further (first_unit unit base b) (unit_count unit base b) (first_unit unit base c) (unit_count unit base c) (first_unit unit base d) (unit_count unit base d) same touch.some (units-apart unit base b d h a) free u.taken)
  where
    further : (i few i' m j k : ℕ) → i' ≡ i → 1 ≤ k → (i + few ≤ j) ⊎ (j + k ≤ i) → AreAll false units (i + few) (m - few) → AreAll true units j k → (i' + m ≤ j) ⊎ (j + k ≤ i')
    further i few i' m j k q some (inr l) f t = inr (omega arith)
    further i few i' m j k q some (inl l) f t = inl (⊎_elim
        (λ z. elim (runs-differ units (i + few) (m - few) j k (omega arith) some f t) [ inl y ↦ omega arith | inr y ↦ absurd (omega arith) ])
        (λ z. omega arith)
        (cases_lt few m))
