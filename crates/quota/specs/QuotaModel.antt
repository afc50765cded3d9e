-- Quota model: what contracts see of a quota over a parent.
use Rattle.std.specs.Prelude.{ℕ, Option, [], ◌∷◌}
use Rattle.quota_rules.specs.QuotaRules.{quota_rules}
use Rattle.layer_rules.specs.Fields.{Kept, kept_row}
use Rattle.layer_rules.specs.Layering.{LayerModel}
use Rattle.layer_laws.specs.HandingModel.{hand_fields}
use Rattle.layer_core.specs.declared.Layer.{Ghosts}
use Rattle.quota.specs.declared.limit.Quota.{Quota}

-- the one number of an open quota: how many bytes are out
abbrev pub kept_used : ℕ → Kept
kept_used used = kept_row (used ∷ [])

abbrev pub quota_model : (most : ℕ) → Option ℕ → (parent : LayerModel) → LayerModel
quota_model most used parent = record { rules = quota_rules most parent.rules; fields = hand_fields kept_used used parent.fields }

abbrev pub quota_of : {P : Type 0} {G : Ghosts P} → (P → LayerModel) → Quota P G → LayerModel
quota_of model l = quota_model l.most l.used (model l.parent)
