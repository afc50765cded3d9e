-- What a call that changes bits alone leaves of a bitmap and of its parent.
use Rattle.std.proofs.Common.{◌≡◌, refl, sym, ◌∙◌, ap, subst, ℕ, ◌+◌, ◌≤◌, ◌<◌, inl, Bool, true, false, List, replicate, Option, Some, arith}
use Rattle.space_core.specs.Memory.{Memory}
use Rattle.space_core.specs.Runs.{put_run}
use Rattle.layer_rules.specs.declared.Block.{Block}
use Rattle.layer_rules.specs.Blocks.{end_of}
use Rattle.layer_rules.specs.Layering.{LayerModel, state_of, Stands, IsOutOf, Frames, Stays}
use Rattle.layer_rules.specs.State.{State}
use Rattle.layer_laws.specs.Standing.{Writes}
use Rattle.layer_laws.proofs.BlockLaws.{lies_from}
use Rattle.layer_laws.proofs.Placement.{write-keeps, write-changes_own}
use Rattle.bitmap_rules.specs.BitmapRules.{bitmap_rules, units_block}
use Rattle.bitmap_rules.specs.BitmapMeanings.{IsBitmap, IsOutBitmap}
use Rattle.bitmap_rules.proofs.BitmapParts.{open_bitmap_has_image, out_of_bitmap}
use Rattle.bitmapped_block.specs.declared.bits.BitRow.{BitRow}
use Rattle.bitmapped_block.specs.declared.bitmapped.Bitmap.{Bitmap}
use Rattle.bitmapped_block.specs.BitmapModel.{bitmap_model}
use Rattle.bitmapped_block.specs.BitmapSizes.{IsSized, row_of}
use Rattle.bitmapped_block.specs.UnitBits.{units_at, words_end, AreWhole, KeepsOthers, IsPutRow, IsClearedRow}
use Rattle.bitmapped_block.proofs.Standing.{IsOpen, bitmap_state, state-is}

-- the words stand in front of the units
pub words-below : (unit : ℕ) (b : Bitmap) → IsSized unit b → words_end (row_of b) ≤ b.base
words-below unit b s = omega (arith, s.start)

-- bits alone have changed, and the units are these
pub record IsMarked (b : Bitmap) (us : List Bool) (m m' : Memory) : Type 0 where
  pub units : units_at m'.bytes (row_of b) ≡ us
  pub whole : AreWhole m' (row_of b)
  pub others : KeepsOthers (row_of b) m.bytes m'.bytes
  pub after : m' ≡ record m { bytes = m'.bytes }

-- to the parent that is a write into the chunk
pub chunk-written : (unit : ℕ) (b : Bitmap) (m m' : Memory) → IsSized unit b → KeepsOthers (row_of b) m.bytes m'.bytes → m' ≡ record m { bytes = m'.bytes } → Writes b.chunk m m'
chunk-written unit b m m' s k e =
    let w = words-below unit b s in
    let upto : words_end (row_of b) ≤ end_of b.chunk = omega (arith, w, s.len, s.start) in
    record {
      cells = ap (λ (x : Memory). x.cells) e;
      leaves = ap (λ (x : Memory). x.leaves) e;
      bytes = record { length_same = k.size; below = k.below; above = λ i l. k.above i (omega arith) };
    }

-- what such a call leaves
pub record IsLeft (unit count : ℕ) (b : Bitmap) (units : List Bool) (t : LayerModel) (m m' : Memory) : Type 0 where
  pub frame : Frames (bitmap_model unit count (Some b) t) (bitmap_model unit count (Some b) t) m m'
  pub state : state_of (bitmap_model unit count (Some b) t) m' ≡ bitmap_state b units (state_of t m)
  pub cells : m'.cells ≡ m.cells
  pub others : (c : Block) → IsOutOf (bitmap_model unit count (Some b) t) m c → Stays (bitmap_model unit count (Some b) t) (bitmap_model unit count (Some b) t) m m' c

-- a block that is out begins behind the words
pub out-behind : (unit count : ℕ) (b : Bitmap) (t : LayerModel) (m : Memory) (c : Block) → IsOpen unit count b t m → IsOutOf (bitmap_model unit count (Some b) t) m c → words_end (row_of b) ≤ c.place
out-behind unit count b t m c h o =
    let s = state_of (bitmap_model unit count (Some b) t) m in
    let x = (out_of_bitmap unit count t.rules c s m.cells).0 o in
    let x' = subst (λ (z : State). IsOutBitmap unit c z) h.state x in
    let l = lies_from c (units_block unit (bitmap_state b (units_at m.bytes (row_of b)) (state_of t m))) x'.inside in
    let w = words-below unit b h.sized in
    omega (arith, l.0)

pub left : (unit count : ℕ) (b : Bitmap) (units : List Bool) (t : LayerModel) (m m' : Memory) → IsOpen unit count b t m → IsMarked b units m m' → IsLeft unit count b units t m m'
unfolding bitmap_rules
left unit count b units t m m' h k =
    let u = bitmap_model unit count (Some b) t in
    let some = h.unit_least in
    let writes = chunk-written unit b m m' h.sized k.others k.after in
    let w = write-keeps t m m' b.chunk h.made h.parent h.out writes in
    let o = write-changes_own t m m' b.chunk h.made h.parent h.out writes in
    let s = state-is unit count b t m' (omega arith) h.sized in
    let words : IsBitmap m'.bytes b.chunk.place (units_at m'.bytes (row_of b)) = k.whole.bits in
    let image = (open_bitmap_has_image unit count t.rules u.fields (bitmap_state b (units_at m'.bytes (row_of b)) (state_of t m')) m'.bytes refl).1
    (record { words = words; clean = w.clean b.chunk h.out (inl refl) h.clean; below = w.stands.image }) in
    record {
      frame = record {
        rules = refl;
        image = subst (λ (z : State). (bitmap_rules unit count t.rules).is_image u.fields z m'.bytes ≡ true) (sym s) image;
        memory = o.memory;
        size = o.size;
        leaves = o.leaves;
        foreign = record { at = o.foreign.at };
      };
      state = s ∙ ap (λ us. bitmap_state b us (state_of t m')) k.units ∙ ap (bitmap_state b units) w.state;
      cells = writes.cells;
      others = λ c p.
          let z = out-behind unit count b t m c h p in
          record { bytes = record { at = λ i x y. k.others.above i (omega arith) }; clean = λ x. x; marked = λ x. x };
    }

-- nothing has changed
pub nothing-moved : (t : LayerModel) (m : Memory) → Stands t m → Frames t t m m
nothing-moved t m h = record { rules = refl; image = h.image; memory = h.memory; size = refl; leaves = refl; foreign = record { at = λ i a z. refl } }

-- a run of bits that is put, and all that are cleared
pub marked-put : (x : Bool) (row : BitRow) (first n : ℕ) (b : Bitmap) (m m' : Memory) → row ≡ row_of b → IsPutRow x row first n m m' → IsMarked b (put_run x first n (units_at m.bytes (row_of b))) m m'
marked-put x row first n b m m' e p = let k = subst (λ (r : BitRow). IsPutRow x r first n m m') e p in record { units = k.units; whole = k.whole; others = k.others; after = k.after }

pub marked-cleared : (row : BitRow) (b : Bitmap) (m m' : Memory) → row ≡ row_of b → IsClearedRow row m m' → IsMarked b (replicate b.count false) m m'
marked-cleared row b m m' e p = let k = subst (λ (r : BitRow). IsClearedRow r m m') e p in record { units = k.units; whole = k.whole; others = k.others; after = k.after }
