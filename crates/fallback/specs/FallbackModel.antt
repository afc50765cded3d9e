-- What contracts see of a fallback over two layers.
use Rattle.std.specs.Prelude.{Bool, cond}
use Rattle.layer_rules.specs.Fields.{closed_fields, open_fields, fields_and, one_field, kept_nothing, are_open}
use Rattle.layer_rules.specs.Layering.{LayerModel}
use Rattle.layer_core.specs.declared.Layer.{Ghosts}
use Rattle.fallback_rules.specs.FallbackRules.{fallback_rules}
use Rattle.fallback.specs.declared.two_layers.Fallback.{Fallback}

-- open or closed, it keeps no number of its own
abbrev pub fallback_if : (is_set : Bool) → (primary second : LayerModel) → LayerModel
fallback_if is_set p f = record { rules = fallback_rules p.rules f.rules; fields = cond is_set (open_fields kept_nothing (fields_and p.fields (one_field f.fields))) closed_fields }

-- it is open where its primary is
abbrev pub fallback_model : (primary second : LayerModel) → LayerModel
fallback_model p f = fallback_if (are_open p.fields) p f

abbrev pub fallback_of : {P F : Type 0} {G : Ghosts P} {H : Ghosts F} → (P → LayerModel) → (F → LayerModel) → Fallback P F G H → LayerModel
fallback_of primary second l = fallback_model (primary l.primary) (second l.second)
