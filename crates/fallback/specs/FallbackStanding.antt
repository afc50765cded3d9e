-- What callers may rest on of a fallback that was made of two layers.
use Rattle.space_core.specs.Memory.{Memory}
use Rattle.layer_rules.specs.Layering.{LayerModel, Stands, IsShut}
use Rattle.layer_rules.specs.Rules.{IsBeside}
use Rattle.layer_laws.specs.Lawful.{IsMade}
use Rattle.fallback.specs.FallbackModel.{fallback_model}

-- a closed fallback stands in the Space where its two closed layers stand
abbrev pub ClosedFallbackStands : Type 0
ClosedFallbackStands =
    (p f : LayerModel) (m : Memory) → IsMade p.rules → IsMade f.rules → IsBeside p.rules f.rules → IsShut p → IsShut f → Stands p m → Stands f m
    → Stands (fallback_model p f) m
