-- What a bitmap that stands knows: its numbers, its parent, its chunk and its bits.
use Rattle.std.proofs.Common.{◌≡◌, refl, sym, ◌∙◌, ap, ap₂, subst, ℕ, zero, suc, ◌+◌, ◌-◌, ◌*◌, ◌/◌, ◌≤◌, ◌<◌, inl, inr, ⊎_elim, Bool, true, false, List, length, get_or, nat_le, Option, Some, None, is_some, arith}
use Rattle.std.proofs.Math.Nat.{mul-le-mul_right, mul_comm}
use Rattle.std.proofs.lemmas.Bool.{cases_lt}
use Rattle.std.proofs.lemmas.Bool.Decides.{nat_tests}
use Rattle.std.proofs.lemmas.Nat.{le-div}
use Rattle.size_round.specs.Sizes.{limit}
use Rattle.space_core.specs.Memory.{Memory}
use Rattle.layer_rules.specs.declared.Block.{Block}
use Rattle.layer_rules.specs.Blocks.{end_of, lies_in}
use Rattle.layer_rules.specs.Fields.{are_open, kept_bitmap, one_field, open_fields}
use Rattle.layer_rules.specs.Layering.{LayerModel, state_of, Stands, IsSetUp, IsOutOf, IsCleanOf, Frames, Stays}
use Rattle.layer_rules.specs.Rules.{HasSomeTags}
use Rattle.layer_rules.specs.State.{State, open_with, bitmap_own, one_child, child}
use Rattle.layer_laws.specs.Lawful.{IsMade}
use Rattle.layer_laws.specs.Standing.{Writes, WriteKeeps}
use Rattle.layer_laws.proofs.BlockLaws.{lies_from}
use Rattle.layer_laws.proofs.Placement.{write-keeps, write-changes_own}
use Rattle.layer_laws.proofs.StandingLaws.{shut-stands, out-in_space}
use Rattle.layer_core.specs.declared.Layer.{Ghosts}
use Rattle.bitmap_rules.specs.BitmapRules.{bitmap_chunk, bitmap_front, bitmap_rules, most_units, read_bits, units_block, units_in_chunk}
use Rattle.bitmap_rules.specs.BitmapMeanings.{IsBitmap, IsOutBitmap}
use Rattle.bitmap_rules.proofs.BitmapParts.{open_bitmap_is_sound, open_bitmap_has_image, out_of_bitmap}
use Rattle.bitmapped_block.specs.declared.bits.BitRow.{BitRow}
use Rattle.bitmapped_block.specs.declared.bitmapped.Bitmap.{Bitmap}
use Rattle.bitmapped_block.specs.declared.bitmapped.BitmappedBlock.{BitmappedBlock}
use Rattle.bitmapped_block.specs.BitmapModel.{bitmap_model, bitmap_of}
use Rattle.bitmapped_block.specs.BitmapProper.{IsProper}
use Rattle.bitmapped_block.specs.BitmapSizes.{IsSized, AreSized, row_of}
use Rattle.bitmapped_block.specs.UnitBits.{units_at, words_end, AreWhole}
use Rattle.bitmapped_block.proofs.RowBits.{units-length}

-- ---- the units that its chunk has room for

chunk-grows : (unit count n : ℕ) → 1 ≤ unit → count < n → bitmap_chunk unit count < bitmap_chunk unit n
chunk-grows unit count n h l =
    let k : (count + 1) * unit ≤ n * unit = mul-le-mul_right unit (omega arith) in
    let s : (count + 1) * unit ≡ count * unit + unit = grind arith in
    omega arith

most-is : (unit count n : ℕ) → 1 ≤ unit → count ≤ n → most_units unit (bitmap_chunk unit count) n ≡ count
unfolding most_units
most-is unit count zero h l = omega arith
most-is unit count (suc n) h l = ⊎_elim
    (λ a.
    let g = chunk-grows unit count (suc n) h a in
    let e : nat_le (bitmap_chunk unit (suc n)) (bitmap_chunk unit count) ≡ false = grind (arith, nat_tests, g) in
    ap (λ b. elim b as (λ _. ℕ) [ true ↦ suc n | false ↦ most_units unit (bitmap_chunk unit count) n ]) e ∙ most-is unit count n h (omega arith))
    (λ a.
    let q : suc n ≡ count = omega arith in
    let e : nat_le (bitmap_chunk unit (suc n)) (bitmap_chunk unit count) ≡ true = (let r = ap (bitmap_chunk unit) q in grind (arith, nat_tests, r)) in
    ap (λ b. elim b as (λ _. ℕ) [ true ↦ suc n | false ↦ most_units unit (bitmap_chunk unit count) n ]) e ∙ q)
    (cases_lt count (suc n))

pub units-in_chunk : (unit : ℕ) (b : Bitmap) → 1 ≤ unit → IsSized unit b → units_in_chunk unit b.chunk ≡ b.count
units-in_chunk unit b h s =
    ap (λ n. most_units unit n (n / unit)) s.len
    ∙ most-is unit b.count (bitmap_chunk unit b.count / unit) h (le-div b.count (bitmap_chunk unit b.count) unit (omega arith) (omega arith))

-- ---- its state

-- the state of a bitmap whose units are these, over the parent's
abbrev pub bitmap_state : Bitmap → List Bool → State → State
bitmap_state b units s = open_with (bitmap_own b.chunk b.base units) (one_child s)

pub state-is : (unit count : ℕ) (b : Bitmap) (t : LayerModel) (m : Memory) → 1 ≤ unit → IsSized unit b → state_of (bitmap_model unit count (Some b) t) m ≡ bitmap_state b (units_at m.bytes (row_of b)) (state_of t m)
unfolding bitmap_rules
state-is unit count b t m h s =
    ap (λ n. open_with (bitmap_own b.chunk (b.chunk.place + bitmap_front n) (read_bits m.bytes b.chunk.place 0 n)) (one_child (state_of t m))) (units-in_chunk unit b h s)
    ∙ ap (λ (k : ℕ). bitmap_state (record b { base = k }) (units_at m.bytes (row_of b)) (state_of t m)) (sym s.start)

-- ---- what it stands on

-- what each call of a bitmap finds
pub record IsHere (unit count : ℕ) (o : Option Bitmap) (t : LayerModel) (m : Memory) : Type 0 where
  pub made : IsMade t.rules
  pub proper : IsProper unit count t.rules
  pub together : are_open t.fields ≡ is_some o
  pub sized : AreSized unit o
  pub stands : Stands (bitmap_model unit count o t) m

pub here : {P : Type 0} {G : Ghosts P} → ((p : P) → IsMade (G.model p).rules) → (l : BitmappedBlock P G) (m : Memory) → Stands (bitmap_of G.model l) m → IsHere l.unit l.count l.bitmap (G.model l.parent) m
here made l m h = record { made = made l.parent; proper = l.proper; together = l.together; sized = l.sized; stands = h }

-- where it is closed its parent stands too
shut-parent : (unit count : ℕ) (t : LayerModel) (m : Memory) → IsHere unit count None t m → Stands t m
unfolding bitmap_rules
shut-parent unit count t m h =
    let x = h.stands.sound in
    let w : HasSomeTags t.rules = record { least = x.made.least } in
    shut-stands t m h.stands.memory x.distinct (record { least = x.made.least; most = x.made.most }) h.made.regular.reading (h.made.lawful x.distinct w).opening h.together x.settled

-- what an open bitmap has
pub record IsOpen (unit count : ℕ) (b : Bitmap) (t : LayerModel) (m : Memory) : Type 0 where
  pub unit_least : 16 ≤ unit
  pub unit_most : unit ≤ 1048576
  pub made : IsMade t.rules
  pub sized : IsSized unit b
  pub parent : Stands t m
  pub out : IsOutOf t m b.chunk
  pub clean : IsCleanOf t m b.chunk
  pub whole : AreWhole m (row_of b)
  pub inside : end_of b.chunk ≤ length m.bytes
  pub state : state_of (bitmap_model unit count (Some b) t) m ≡ bitmap_state b (units_at m.bytes (row_of b)) (state_of t m)
  pub stands : Stands (bitmap_model unit count (Some b) t) m

words-below : (unit : ℕ) (b : Bitmap) → IsSized unit b → words_end (row_of b) ≤ b.base
words-below unit b s = omega (arith, s.start)

pub open-of : (unit count : ℕ) (b : Bitmap) (t : LayerModel) (m : Memory) → IsHere unit count (Some b) t m → IsOpen unit count b t m
unfolding bitmap_rules
open-of unit count b t m h =
    let u = bitmap_model unit count (Some b) t in
    let s = state_of u m in
    let size = h.proper.size in
    let least = size.unit_least in
    let x = h.stands.sound in
    let p = (open_bitmap_is_sound unit count t.rules s m.cells refl).0 x.settled in
    let i = (open_bitmap_has_image unit count t.rules u.fields s m.bytes refl).0 h.stands.image in
    let sized : IsSized unit b = h.sized b refl in
    let q = state-is unit count b t m (omega arith) sized in
    let parent : Stands t m = record { memory = h.stands.memory; sound = record { distinct = x.distinct; made = record { least = x.made.least; most = x.made.most }; settled = p.below }; image = i.below } in
    let inside = out-in_space t m b.chunk h.made parent p.chunk.out in
    let n = units-in_chunk unit b (omega arith) sized in
    let w = words-below unit b sized in
    record {
      unit_least = least;
      unit_most = size.unit_most;
      made = h.made;
      sized = sized;
      parent = parent;
      out = p.chunk.out;
      clean = i.clean;
      whole = record {
        there = record { memory = h.stands.memory; inside = omega (arith, inside, w, sized.len, sized.start) };
        bits = subst (λ (k : ℕ). IsBitmap m.bytes b.chunk.place (read_bits m.bytes b.chunk.place 0 k)) n i.words;
      };
      inside = inside;
      state = q;
      stands = h.stands;
    }

pub parent-stands : (unit count : ℕ) (o : Option Bitmap) (t : LayerModel) (m : Memory) → IsHere unit count o t m → Stands t m
parent-stands unit count None t m h = shut-parent unit count t m h
parent-stands unit count (Some b) t m h = (open-of unit count b t m h).parent

-- the bitmap that the code finds
pub open-at : (unit count : ℕ) (o : Option Bitmap) (b : Bitmap) (t : LayerModel) (m : Memory) → o ≡ Some b → IsHere unit count o t m → IsOpen unit count b t m
open-at unit count o b t m q h = open-of unit count b t m (subst (λ (z : Option Bitmap). IsHere unit count z t m) q h)

-- the words of the row that the code asks for, and its units, stand in the Space
pub whole-row : (unit count : ℕ) (b : Bitmap) (t : LayerModel) (m : Memory) (row : BitRow) → IsOpen unit count b t m → row ≡ row_of b → AreWhole m row
whole-row unit count b t m row h e = subst (λ (r : BitRow). AreWhole m r) (sym e) h.whole

pub row-length : (unit count : ℕ) (b : Bitmap) (t : LayerModel) (m : Memory) → IsOpen unit count b t m → length (units_at m.bytes (row_of b)) ≡ b.count
row-length unit count b t m h = units-length m.bytes (row_of b) h.whole.there.inside

-- the units stand in the Space
pub record AreInside (unit : ℕ) (b : Bitmap) (i : ℕ) : Type 0 where
  pub end : b.base + unit * i ≤ end_of b.chunk
  pub few : end_of b.chunk ≤ 16777216

pub unit-inside : (unit count : ℕ) (b : Bitmap) (t : LayerModel) (m : Memory) (i : ℕ) → IsOpen unit count b t m → i ≤ b.count → AreInside unit b i
unit-inside unit count b t m i h l =
    let k : i * unit ≤ b.count * unit = mul-le-mul_right unit l in
    let s = h.sized in
    let inside = h.inside in
    let memory = h.parent.memory in
    record { end = omega (arith, mul_comm unit i, s.len, s.start); few = omega (arith, memory.sizes, memory.cells) }

-- the model of the bitmap that the code finds
pub model-at : (unit count : ℕ) (o : Option Bitmap) (b : Bitmap) (t : LayerModel) → o ≡ Some b → bitmap_model unit count (Some b) t ≡ bitmap_model unit count o t
model-at unit count o b t q = ap (λ (z : Option Bitmap). bitmap_model unit count z t) (sym q)
