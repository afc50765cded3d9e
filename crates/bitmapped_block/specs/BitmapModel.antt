-- What contracts see of a bitmap over a parent.
use Rattle.std.specs.Prelude.{ℕ, Option, Some, None}
use Rattle.bitmap_rules.specs.BitmapRules.{bitmap_rules}
use Rattle.layer_rules.specs.Fields.{Fields, open_fields, closed_fields, kept_bitmap, one_field}
use Rattle.layer_rules.specs.Layering.{LayerModel}
use Rattle.layer_core.specs.declared.Layer.{Ghosts}
use Rattle.bitmapped_block.specs.declared.bitmapped.Bitmap.{Bitmap}
use Rattle.bitmapped_block.specs.declared.bitmapped.BitmappedBlock.{BitmappedBlock}

-- the numbers of an open bitmap, over its parent's
abbrev pub bitmap_fields : Option Bitmap → (parent : Fields) → Fields
bitmap_fields None parent = closed_fields
bitmap_fields (Some b) parent = open_fields (kept_bitmap b.chunk) (one_field parent)

abbrev pub bitmap_model : (unit count : ℕ) → Option Bitmap → (parent : LayerModel) → LayerModel
bitmap_model unit count b parent = record { rules = bitmap_rules unit count parent.rules; fields = bitmap_fields b parent.fields }

abbrev pub bitmap_of : {P : Type 0} {G : Ghosts P} → (P → LayerModel) → BitmappedBlock P G → LayerModel
bitmap_of model l = bitmap_model l.unit l.count l.bitmap (model l.parent)
