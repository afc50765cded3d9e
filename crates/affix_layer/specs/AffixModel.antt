-- What contracts see of an affix over a parent.
use Rattle.std.specs.Prelude.{ℕ, ◌≡◌, Bool}
use Rattle.affix_rules.specs.AffixRules.{affix_rules}
use Rattle.layer_rules.specs.Layering.{LayerModel}
use Rattle.layer_laws.specs.HandingModel.{hand_fields, open_if, keeps_nothing}
use Rattle.layer_core.specs.declared.Layer.{Ghosts}
use Rattle.affix_layer.specs.declared.affixing.Affix.{Affix}

-- it keeps no number, open or not
abbrev pub affix_model : (prefix suffix : ℕ) → (is_set : Bool) → (parent : LayerModel) → LayerModel
affix_model prefix suffix is_set parent = record { rules = affix_rules prefix suffix parent.rules; fields = hand_fields keeps_nothing (open_if is_set) parent.fields }

abbrev pub affix_of : {P : Type 0} {G : Ghosts P} → (P → LayerModel) → Affix P G → LayerModel
affix_of model l = affix_model l.prefix l.suffix l.is_set (model l.parent)

-- its lengths stay, whatever is called
pub record KeepsLengths {P : Type 0} {G : Ghosts P} (old new : Affix P G) : Type 0 where
  pub prefix : new.prefix ≡ old.prefix
  pub suffix : new.suffix ≡ old.suffix
