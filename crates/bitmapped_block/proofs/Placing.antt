-- The least free place at a multiple, found from one free unit to the next taken one.
use Rattle.std.proofs.Common.{◌≡◌, refl, sym, ◌∙◌, ap, ap₂, subst, ℕ, suc, ◌+◌, ◌-◌, ◌*◌, ◌/◌, ◌≤◌, ◌<◌, ⊎_elim, Bool, true, false, List, length, Option, Some, None, arith}
use Rattle.std.proofs.Math.Nat.{mul-le-mul_right, mul_comm, lt_of_mul-lt-mul_right}
use Rattle.std.proofs.lemmas.Bool.{cases_lt}
use Rattle.std.proofs.lemmas.Nat.{div-add-mod', mod_below}
use Rattle.size_round.specs.Sizes.{ceil_div, up}
use Rattle.size_round.specs.SizeMeanings.{IsMultiple}
use Rattle.size_round.proofs.UpLeast.{enough_times, ceil_div-least, up_is_least}
use Rattle.space_core.specs.Runs.{is_free_run}
use Rattle.layer_rules.specs.Blocks.{block, end_of}
use Rattle.layer_rules.specs.Units.{first_unit, unit_count}
use Rattle.layer_laws.proofs.CellBytes.{unit_below, units_in_order}
use Rattle.layer_laws.proofs.FirstRuns.{free_runs_are_free}
use Rattle.bitmap_rules.specs.BitmapRules.{free_place, units_free}
use Rattle.bitmap_rules.specs.BitmapMeanings.{IsLeastPlace, HasNoPlace}
use Rattle.bitmap_rules.proofs.BitmapPlaces.{free_place_is_least, no_free_place}
use Rattle.bitmapped_block.specs.UnitBits.{IsNext}
use Rattle.bitmapped_block.proofs.Seeking.{next-behind, not_free, too_long}

-- ---- the least place, by what holds of it

pub place-is : (unit n a base : ℕ) (us : List Bool) (p : ℕ) → 1 ≤ unit → 1 ≤ n → 1 ≤ a → IsLeastPlace unit n a base us p → Some p ≡ free_place unit n a base us
place-is unit n a base us p h l m x = sym (go (free_place unit n a base us) refl)
  where
    go : (o : Option ℕ) → free_place unit n a base us ≡ o → o ≡ Some p
    go None e = let z = no_free_place unit n a base us h l m e p x.aligned x.above in let f = x.free in absurd (cc)
    go (Some q) e =
        let y = free_place_is_least unit n a base us q m e in
        ⊎_elim
        (λ b. let z = x.least q y.aligned y.above b in let f = y.free in absurd (cc))
        (λ b. ⊎_elim
        (λ c. let z = y.least p x.aligned x.above c in let f = x.free in absurd (cc))
        (λ c. let e : q ≡ p = omega arith in ap Some e)
        (cases_lt p q))
        (cases_lt q p)

pub place-none : (unit n a base : ℕ) (us : List Bool) → 1 ≤ a → HasNoPlace unit n a base us → None ≡ free_place unit n a base us
place-none unit n a base us m x = sym (go (free_place unit n a base us) refl)
  where
    go : (o : Option ℕ) → free_place unit n a base us ≡ o → o ≡ None
    go None e = refl
    go (Some q) e = let y = free_place_is_least unit n a base us q m e in let z = x q y.aligned y.above in let f = y.free in absurd (cc)

-- ---- the units of a place

-- the units of a block end behind the first
pub behind-is : (unit base p n : ℕ) → 1 ≤ unit → 1 ≤ n → base ≤ p → first_unit unit base (block p n) + unit_count unit base (block p n) ≡ ceil_div (p + n - base) unit
behind-is unit base p n h l m = let b = unit_below (p - base) (p + n - base) unit h (omega arith) in omega arith

-- and where the bytes do before the end, with the units that are there
pub behind-within : (unit base p n count : ℕ) → 1 ≤ unit → 1 ≤ n → base ≤ p → p + n ≤ base + unit * count → first_unit unit base (block p n) + unit_count unit base (block p n) ≤ count
behind-within unit base p n count h l m e =
    let c = ceil_div-least (p + n - base) unit count h (omega (arith, mul_comm unit count)) in
    let b = behind-is unit base p n h l m in
    omega arith

-- behind the last unit no place is free
past-end : (unit base q n : ℕ) (us : List Bool) → 1 ≤ unit → 1 ≤ n → base ≤ q → base + unit * length us < q + n → units_free unit base us (block q n) ≡ false
past-end unit base q n us h l m e =
    let some = unit_below (q - base) (q + n - base) unit h (omega arith) in
    let reach = enough_times (q + n - base) unit h in
    let b = behind-is unit base q n h l m in
    let more : length us < ceil_div (q + n - base) unit = lt_of_mul-lt-mul_right unit (omega (arith, mul_comm unit (length us))) in
    too_long us (first_unit unit base (block q n)) (unit_count unit base (block q n)) (omega arith) (omega arith)

-- ---- what is passed

-- no multiple before a place is free
pub record HasNoPlaceBefore (unit n a base : ℕ) (us : List Bool) (p : ℕ) : Type 0 where
  pub aligned : IsMultiple p a
  pub above : base ≤ p
  pub none : (q : ℕ) → IsMultiple q a → base ≤ q → q < p → units_free unit base us (block q n) ≡ false

pub at-first : (unit n a base : ℕ) (us : List Bool) → 1 ≤ a → HasNoPlaceBefore unit n a base us (up base a)
at-first unit n a base us h =
    let u = up_is_least base a h in
    record { aligned = u.has; above = u.enough; none = λ q i b c. let l = u.least q i b in absurd (omega arith) }

pub free-here : (unit n a base : ℕ) (us : List Bool) (p first count : ℕ) → 1 ≤ unit → 1 ≤ n → 1 ≤ a → HasNoPlaceBefore unit n a base us p → first ≡ first_unit unit base (block p n) → count ≡ unit_count unit base (block p n)
    → IsNext true us first (first + count) (first + count) → Some p ≡ free_place unit n a base us
free-here unit n a base us p first count h l m x e f y =
    let s : first + count - first ≡ count = omega arith in
    let free = (free_runs_are_free us first count).1 (λ k b c. y.before k b (omega arith)) in
    let ends : units_free unit base us (block p n) ≡ true = ap₂ (λ i k. is_free_run us i k) (sym e) (sym f) ∙ free in
    place-is unit n a base us p h l m (record { aligned = x.aligned; above = x.above; free = ends; least = x.none })

pub none-at_all : (unit n a base : ℕ) (us : List Bool) (p : ℕ) → 1 ≤ unit → 1 ≤ n → 1 ≤ a → HasNoPlaceBefore unit n a base us p → base + unit * length us < p + n → None ≡ free_place unit n a base us
none-at_all unit n a base us p h l m x e = place-none unit n a base us m (λ q i b. ⊎_elim (λ c. x.none q i b c) (λ c. past-end unit base q n us h l b (omega arith)) (cases_lt q p))

-- a place before the next free unit is not free, nor is one before the taken unit that the block touches
pub passed-over : (unit n a base : ℕ) (us : List Bool) (p first count taken free upto : ℕ) → 1 ≤ unit → 1 ≤ n → 1 ≤ a → HasNoPlaceBefore unit n a base us p → first ≡ first_unit unit base (block p n) → count ≡ unit_count unit base (block p n)
    → IsNext true us first (first + count) taken → taken < first + count → IsNext false us taken upto free → HasNoPlaceBefore unit n a base us (up (base + unit * free) a)
passed-over unit n a base us p first count taken free upto h l m x e f y t z =
    let u = up_is_least (base + unit * free) a m in
    let enough = u.enough in
    let above = x.above in
    record {
      aligned = u.has;
      above = omega arith;
      none = λ q i b c. ⊎_elim
          (λ d. x.none q i b d)
          (λ d.
          let before : q < base + unit * free = ⊎_elim (λ g. g) (λ g. let k = u.least q i g in absurd (omega arith)) (cases_lt q (base + unit * free)) in
          let low : (q - base) / unit < free = lt_of_mul-lt-mul_right unit (omega (arith, div-add-mod' (q - base) unit, mul_comm unit free)) in
          let some = unit_below (q - base) (q + n - base) unit h (omega arith) in
          let mine = behind-is unit base p n h l above in
          let its = behind-is unit base q n h l b in
          let order : ceil_div (p + n - base) unit ≤ ceil_div (q + n - base) unit = units_in_order (p + n - base + (unit - 1)) (q + n - base + (unit - 1)) unit h (omega arith) in
          ⊎_elim
          (λ g. not_free us ((q - base) / unit) (unit_count unit base (block q n)) taken (omega arith) (omega arith) (y.here t))
          (λ g. not_free us ((q - base) / unit) (unit_count unit base (block q n)) ((q - base) / unit) (omega arith) (omega arith) (z.before ((q - base) / unit) g (let s = z.start in omega arith)))
          (cases_lt ((q - base) / unit) taken))
          (cases_lt q p);
    }

-- the next place stands behind the one that is passed
pub moves-on : (unit n a base : ℕ) (us : List Bool) (p first count taken free upto : ℕ) → 1 ≤ unit → 1 ≤ a → base ≤ p → first ≡ first_unit unit base (block p n) → IsNext true us first (first + count) taken → taken < first + count → first + count ≤ upto
    → IsNext false us taken upto free → p < up (base + unit * free) a
moves-on unit n a base us p first count taken free upto h m x e y t o z = let q : p < base + unit * free = next-place in let u = (up_is_least (base + unit * free) a m).enough in omega arith
  where
    next-place : p < base + unit * free
    next-place =
        let w : taken < free = next-behind us first count taken upto free y t o z in
        let s = y.start in
        let more : suc first * unit ≤ free * unit = mul-le-mul_right unit (omega arith) in
        let sum : suc first * unit ≡ first * unit + unit = grind arith in
        let r : p - base < first * unit + unit = subst (λ k. p - base < k * unit + unit) (sym e) (omega (arith, div-add-mod' (p - base) unit, mod_below (p - base) unit (omega arith))) in
        omega (arith, mul_comm unit free)
