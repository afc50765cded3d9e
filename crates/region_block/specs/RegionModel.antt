-- What contracts see of a region over a parent.
use Rattle.std.specs.Prelude.{ℕ, Option, Some, None}
use Rattle.region_rules.specs.RegionRules.{region_rules}
use Rattle.layer_rules.specs.Fields.{Fields, open_fields, closed_fields, kept_region, one_field}
use Rattle.layer_rules.specs.Layering.{LayerModel}
use Rattle.layer_core.specs.declared.Layer.{Ghosts}
use Rattle.region_block.specs.declared.bump.Bump.{Bump}
use Rattle.region_block.specs.declared.bump.Region.{Region}

-- the numbers of an open region, over its parent's
abbrev pub bump_fields : Option Bump → (parent : Fields) → Fields
bump_fields None parent = closed_fields
bump_fields (Some b) parent = open_fields (kept_region b.chunk b.position) (one_field parent)

abbrev pub region_model : (size align : ℕ) → Option Bump → (parent : LayerModel) → LayerModel
region_model size align bump parent = record { rules = region_rules size align parent.rules; fields = bump_fields bump parent.fields }

abbrev pub region_of : {P : Type 0} {G : Ghosts P} → (P → LayerModel) → Region P G → LayerModel
region_of model l = region_model l.size l.align l.bump (model l.parent)
