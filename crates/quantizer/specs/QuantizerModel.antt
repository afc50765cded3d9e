-- What contracts see of a quantizer over a parent.
use Rattle.size_round.specs.Sizes.{RoundingKind}
use Rattle.quantize_rules.specs.QuantizeRules.{quantize_rules}
use Rattle.layer_rules.specs.Fields.{are_open}
use Rattle.layer_rules.specs.Layering.{LayerModel}
use Rattle.layer_laws.specs.HandingModel.{hand_fields, open_if, keeps_nothing}
use Rattle.layer_core.specs.declared.Layer.{Ghosts}
use Rattle.size_round.specs.declared.rounding.Rounding.{Ghosts as RoundingGhosts}
use Rattle.quantizer.specs.declared.quantizing.Quantizer.{Quantizer}

-- it keeps no number, and is open where its parent is
abbrev pub quantizer_model : RoundingKind → (parent : LayerModel) → LayerModel
quantizer_model kind parent = record { rules = quantize_rules kind parent.rules; fields = hand_fields keeps_nothing (open_if (are_open parent.fields)) parent.fields }

abbrev pub quantizer_of : {P R : Type 0} {G : Ghosts P} {H : RoundingGhosts R} → (P → LayerModel) → (R → RoundingKind) → Quantizer P R G H → LayerModel
quantizer_of model kind l = quantizer_model (kind l.rounding) (model l.parent)
