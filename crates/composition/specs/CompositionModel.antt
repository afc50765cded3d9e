-- What contracts see of a composition.
use Rattle.layer_rules.specs.Layering.{LayerModel}
use Rattle.layer_laws.specs.Lawful.{IsMade}
use Rattle.composition.specs.declared.whole.Composition.{Composition}
use Rattle.composition.specs.ThreeQuartersModel.{three_quarters_of, three_quarters_made}
use Rattle.composition.specs.LevelModel.{over_of, over_made}

-- the model of the layer inside
abbrev pub composition_of : Composition → LayerModel
composition_of l = over_of (over_of three_quarters_of) l.root

-- its rules are lawful, since those of each level are
pub composition_made : (l : Composition) → IsMade (composition_of l).rules
composition_made l = over_made (over_made three_quarters_made) l.root
