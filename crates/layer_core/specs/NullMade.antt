-- What holds of every layer that is made holds of a null layer.
use Rattle.std.proofs.Common.{◌≡◌, refl, true, lit≤}
use Rattle.layer_rules.specs.NullRules.{null_rules}
use Rattle.layer_laws.specs.Lawful.{IsMade}
use Rattle.layer_laws.proofs.NullLawful.{null-lawful, null-regular}
use Rattle.layer_core.specs.declared.null.NullLayer.{NullLayer}
use Rattle.layer_core.specs.NullModel.{null_model}

pub null_made : (l : NullLayer) → IsMade (null_model l).rules
unfolding null_rules
null_made l = record { few = lit≤ tt; shallow = lit≤ tt; regular = null-regular; lawful = λ d w. null-lawful }

-- it says of each block whether it owns it
pub null_owning : (l : NullLayer) → (null_model l).rules.offers.owns ≡ true
unfolding null_rules
null_owning l = refl
