-- What a bitmap tells: whom it holds, how far a block reaches, and how much is free.
use Rattle.std.proofs.Common.{◌≡◌, refl, sym, ◌∙◌, ap, ap₂, subst, ℕ, zero, suc, ◌+◌, ◌-◌, ◌*◌, ◌/◌, ◌≤◌, Bool, true, false, ◌&&◌, List, [], ◌∷◌, length, max, Option, Some, slice_get, arith}
use Rattle.std.proofs.Math.Nat.{mul_comm}
use Rattle.std.proofs.lemmas.Bool.Decides.{nat_tests}
use Rattle.std.proofs.lemmas.Nat.{div-mul-add}
use Rattle.space_core.specs.Memory.{Memory, no_memory}
use Rattle.space_core.specs.Runs.{free_count}
use Rattle.layer_rules.specs.declared.Block.{Block}
use Rattle.layer_rules.specs.declared.Fact.TheVariants as Said
use Rattle.layer_rules.specs.Blocks.{block, end_of, lies_in}
use Rattle.layer_rules.specs.Layering.{LayerModel, kept_state, state_of, IsFactOf, IsRoutedIn}
use Rattle.layer_rules.specs.Offering.{is_served_size}
use Rattle.layer_rules.specs.Owning.{is_plausible, may_hold}
use Rattle.layer_rules.specs.State.{State, base_of}
use Rattle.layer_rules.specs.UnitRows.{free_bytes, longest_bytes, longest_run}
use Rattle.layer_rules.specs.Units.{touched_block, unit_count}
use Rattle.bitmap_rules.specs.BitmapRules.{bitmap_rules, units_block}
use Rattle.bitmapped_block.specs.declared.bitmapped.Bitmap.{Bitmap}
use Rattle.bitmapped_block.specs.declared.bits.BitRow.{BitRow}
use Rattle.bitmapped_block.specs.BitmapModel.{bitmap_model}
use Rattle.bitmapped_block.specs.BitmapSizes.{IsSized, AreSized, row_of}
use Rattle.bitmapped_block.specs.UnitBits.{units_at}
use Rattle.bitmapped_block.proofs.Standing.{IsHere, bitmap_state, open-at, row-length, state-is, unit-inside}

-- ---- the units as one block

units-block : (unit : ℕ) (b : Bitmap) (us : List Bool) (s : State) → 1 ≤ unit → IsSized unit b → units_block unit (bitmap_state b us s) ≡ block b.base (unit * b.count)
units-block unit b us s h z =
    let q : end_of b.chunk - b.base ≡ b.count * unit + 0 = omega (arith, z.len, z.start) in
    let r : (end_of b.chunk - b.base) / unit ≡ b.count = ap (λ x. x / unit) q ∙ div-mul-add b.count unit 0 (omega arith) in
    ap (λ n. block b.base (unit * n)) r

-- where it is open, the state as far as no byte is read
abbrev kept_units : Bitmap → List Bool
kept_units b = units_at [] (row_of b)

kept-is : (unit count : ℕ) (b : Bitmap) (t : LayerModel) → 1 ≤ unit → IsSized unit b → kept_state (bitmap_model unit count (Some b) t) ≡ bitmap_state b (kept_units b) (kept_state t)
kept-is unit count b t h z = state-is unit count b t (no_memory 0) h z

-- the product of its numbers is not large
pub product-fits : (unit : ℕ) (b : Bitmap) → IsSized unit b → unit * b.count ≤ 1099511627776
product-fits unit b z = omega (arith, z.len, z.most, mul_comm unit b.count)

-- ---- whom it holds

pub holds-is : (unit count : ℕ) (o : Option Bitmap) (b : Bitmap) (t : LayerModel) (c : Block) (r : Bool) → o ≡ Some b → 1 ≤ unit → AreSized unit o → r ≡ (is_served_size c.len && lies_in c (block b.base (unit * b.count)))
    → r ≡ (bitmap_rules unit count t.rules).holds c (kept_state (bitmap_model unit count o t))
unfolding bitmap_rules
holds-is unit count o b t c r q h z e =
    let sized = z b q in
    let k = kept-is unit count b t h sized in
    let s = bitmap_state b (kept_units b) (kept_state t) in
    let open_holds : (may_hold c s && lies_in c (units_block unit s)) ≡ (is_served_size c.len && lies_in c (block b.base (unit * b.count))) = ap (λ d. is_served_size c.len && lies_in c d) (units-block unit b (kept_units b) (kept_state t) h sized) in
    e ∙ sym open_holds ∙ ap (λ s. may_hold c s && lies_in c (units_block unit s)) (sym k) ∙ ap (λ (x : Option Bitmap). (bitmap_rules unit count t.rules).holds c (kept_state (bitmap_model unit count x t))) (sym q)

-- ---- how far a block reaches

pub routed-above : (unit count : ℕ) (o : Option Bitmap) (b : Bitmap) (t : LayerModel) (c : Block) → o ≡ Some b → 1 ≤ unit → AreSized unit o → IsRoutedIn (bitmap_model unit count o t) c → b.base ≤ c.place
unfolding bitmap_rules
routed-above unit count o b t c q h z r =
    let sized = z b q in
    let k = kept-is unit count b t h sized in
    let s = bitmap_state b (kept_units b) (kept_state t) in
    let x : (is_plausible c && lies_in c (units_block unit s)) ≡ true =
    ap (λ s. is_plausible c && lies_in c (units_block unit s)) (sym k) ∙ subst (λ (x : Option Bitmap). IsRoutedIn (bitmap_model unit count x t) c) q r in
    grind (arith, nat_tests, x)

pub extent-is : (unit count n : ℕ) (o : Option Bitmap) (b : Bitmap) (t : LayerModel) (c : Block) → o ≡ Some b → 1 ≤ unit → AreSized unit o → n ≡ unit_count unit b.base c
    → unit * n ≡ ((bitmap_rules unit count t.rules).extent c (kept_state (bitmap_model unit count o t))).len
unfolding bitmap_rules
extent-is unit count n o b t c q h z e =
    let k = kept-is unit count b t h (z b q) in
    ap (λ n. unit * n) e ∙ ap (λ s. (touched_block unit (base_of s) c).len) (sym k) ∙ ap (λ (x : Option Bitmap). ((bitmap_rules unit count t.rules).extent c (kept_state (bitmap_model unit count x t))).len) (sym q)

-- ---- how much is free

free-within : (us : List Bool) → free_count us ≤ length us
unfolding free_count
free-within [] = omega arith
free-within (true ∷ us) = let h = free-within us in omega (arith, h)
free-within (false ∷ us) = let h = free-within us in omega (arith, h)

longest-within : (run : ℕ) (us : List Bool) → longest_run run us ≤ run + length us
unfolding longest_run
longest-within run [] = omega arith
longest-within run (true ∷ us) = let h = longest-within 0 us in omega (arith, h)
longest-within run (false ∷ us) = let h = longest-within (suc run) us in omega (arith, h)

-- what was counted is no more than there is
pub record IsTally (unit : ℕ) (free longest : ℕ) : Type 0 where
  pub all : unit * free ≤ 16777216
  pub run : unit * longest ≤ 16777216

pub tally-fits : (unit count free longest : ℕ) (o : Option Bitmap) (b : Bitmap) (row : BitRow) (t : LayerModel) (m : Memory) → o ≡ Some b → row ≡ row_of b → IsHere unit count o t m → free ≡ free_count (units_at m.bytes row) → longest ≡ longest_run 0 (units_at m.bytes row)
    → IsTally unit free longest
tally-fits unit count free longest o b row t m q e h f l =
    let x = open-at unit count o b t m q h in
    let us = units_at m.bytes row in
    let n : length us ≡ b.count = ap (λ (r : BitRow). length (units_at m.bytes r)) e ∙ row-length unit count b t m x in
    let i = unit-inside unit count b t m free x (let k = free-within us in omega arith) in
    let j = unit-inside unit count b t m longest x (let k = longest-within 0 us in omega arith) in
    record { all = omega (arith, i.end, i.few); run = omega (arith, j.end, j.few) }

pub tells-free : (unit count free longest : ℕ) (o : Option Bitmap) (b : Bitmap) (row : BitRow) (t : LayerModel) (m : Memory) → o ≡ Some b → row ≡ row_of b → IsHere unit count o t m → free ≡ free_count (units_at m.bytes row) → longest ≡ longest_run 0 (units_at m.bytes row)
    → IsFactOf (bitmap_model unit count o t) m 0 (Said.Bitmap (unit * free) (unit * longest))
unfolding bitmap_rules
tells-free unit count free longest o b row t m q e h f l =
    let x = open-at unit count o b t m q h in
    let us = units_at m.bytes (row_of b) in
    let f' : free ≡ free_count us = f ∙ ap (λ (r : BitRow). free_count (units_at m.bytes r)) e in
    let l' : longest ≡ longest_run 0 us = l ∙ ap (λ (r : BitRow). longest_run 0 (units_at m.bytes r)) e in
    let said = ap₂ (λ x y. Some (Said.Bitmap (unit * x) (unit * y))) (sym f') (sym l') in
    subst (λ (z : Option Bitmap). IsFactOf (bitmap_model unit count z t) m 0 (Said.Bitmap (unit * free) (unit * longest))) (sym q)
    (ap (λ s. slice_get ((bitmap_rules unit count t.rules).facts s m.cells) 0) x.state ∙ said)
