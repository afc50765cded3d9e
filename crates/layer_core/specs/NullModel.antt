-- The model of a null layer.
use Rattle.std.specs.Prelude.{cond}
use Rattle.layer_rules.specs.NullRules.{null_rules}
use Rattle.layer_rules.specs.Fields.{open_fields, closed_fields, kept_nothing, no_fields}
use Rattle.layer_rules.specs.Layering.{LayerModel}
use Rattle.layer_core.specs.declared.null.NullLayer.{NullLayer}

-- It keeps no number.
abbrev pub null_model : NullLayer → LayerModel
null_model l = record { rules = null_rules; fields = cond l.is_set (open_fields kept_nothing no_fields) closed_fields }
