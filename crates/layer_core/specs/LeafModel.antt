-- The model of a leaf as a layer.
use Rattle.std.specs.Prelude.{cond}
use Rattle.space_core.specs.Leaf.{Leaf}
use Rattle.leaf_rules.specs.MemRules.{mem_rules}
use Rattle.layer_rules.specs.Fields.{open_fields, closed_fields, kept_nothing, no_fields}
use Rattle.layer_rules.specs.Layering.{LayerModel}

-- It keeps no number.
abbrev pub leaf_model : Leaf → LayerModel
leaf_model l = record { rules = mem_rules l.tag; fields = cond l.is_set (open_fields kept_nothing no_fields) closed_fields }
