-- What contracts see of one level of a composition.
use Rattle.layer_rules.specs.Layering.{LayerModel}
use Rattle.layer_laws.specs.Lawful.{IsMade}
use Rattle.layer_core.specs.declared.Layer.{Ghosts}
use Rattle.composition.specs.LeafModel.{leaf_of, leaf_made}
use Rattle.composition.specs.AnyModel.{any_of, any_made}
use Rattle.composition.specs.declared.levels.Over.{Over}
use Rattle.composition.specs.declared.levels.Over.TheVariants.{Leaf, Layer}

-- The model of the layer inside. It is opened where one level is proved or built: elsewhere each of the levels would be gone through.
unfoldable pub over_of : {P : Type 0} {G : Ghosts P} → (P → LayerModel) → Over P G → LayerModel
over_of model (Leaf l) = leaf_of l
over_of model (Layer l) = any_of model l.value

-- its rules are lawful, since those of each form are
pub over_made : {P : Type 0} {G : Ghosts P} → ((p : P) → IsMade (G.model p).rules) → (l : Over P G) → IsMade (over_of G.model l).rules
unfolding over_of
over_made made (Leaf l) = leaf_made l
over_made made (Layer l) = any_made made l.value
