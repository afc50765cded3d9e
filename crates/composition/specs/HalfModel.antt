-- What contracts see of the lower levels of a composition.
use Rattle.layer_rules.specs.Layering.{LayerModel}
use Rattle.layer_laws.specs.Lawful.{IsMade}
use Rattle.composition.specs.declared.half.Half.{Half}
use Rattle.composition.specs.QuarterModel.{quarter_of, quarter_made}
use Rattle.composition.specs.LevelModel.{over_of, over_made}

-- the model of the layer inside
abbrev pub half_of : Half → LayerModel
half_of l = over_of (over_of quarter_of) l.root

-- its rules are lawful, since those of each level are
pub half_made : (l : Half) → IsMade (half_of l).rules
half_made l = over_made (over_made quarter_made) l.root
