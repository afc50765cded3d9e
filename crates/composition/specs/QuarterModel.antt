-- What contracts see of the lower levels of a composition.
use Rattle.layer_rules.specs.Layering.{LayerModel}
use Rattle.layer_laws.specs.Lawful.{IsMade}
use Rattle.composition.specs.declared.quarter.Quarter.{Quarter}
use Rattle.composition.specs.LeafModel.{leaf_of, leaf_made}
use Rattle.composition.specs.LevelModel.{over_of, over_made}

-- the model of the layer inside
abbrev pub quarter_of : Quarter → LayerModel
quarter_of l = over_of (over_of leaf_of) l.root

-- its rules are lawful, since those of each level are
pub quarter_made : (l : Quarter) → IsMade (quarter_of l).rules
quarter_made l = over_made (over_made leaf_made) l.root
