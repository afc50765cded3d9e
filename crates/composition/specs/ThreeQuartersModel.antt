-- What contracts see of the lower levels of a composition.
use Rattle.layer_rules.specs.Layering.{LayerModel}
use Rattle.layer_laws.specs.Lawful.{IsMade}
use Rattle.composition.specs.declared.three_quarters.ThreeQuarters.{ThreeQuarters}
use Rattle.composition.specs.HalfModel.{half_of, half_made}
use Rattle.composition.specs.LevelModel.{over_of, over_made}

-- the model of the layer inside
abbrev pub three_quarters_of : ThreeQuarters → LayerModel
three_quarters_of l = over_of (over_of half_of) l.root

-- its rules are lawful, since those of each level are
pub three_quarters_made : (l : ThreeQuarters) → IsMade (three_quarters_of l).rules
three_quarters_made l = over_made (over_made half_made) l.root
