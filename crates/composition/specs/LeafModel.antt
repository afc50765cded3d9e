-- What contracts see of the end of a composition.
use Rattle.layer_rules.specs.Layering.{LayerModel}
use Rattle.layer_laws.specs.Lawful.{IsMade}
use Rattle.layer_core.specs.LeafModel.{leaf_model}
use Rattle.layer_core.specs.LeafMade.{leaf_made as mem_made}
use Rattle.layer_core.specs.NullModel.{null_model}
use Rattle.layer_core.specs.NullMade.{null_made}
use Rattle.composition.specs.declared.leaves.Leaf.{Leaf}
use Rattle.composition.specs.declared.leaves.Leaf.TheVariants.{Null, Mem}

-- the model of the layer inside
unfoldable pub leaf_of : Leaf → LayerModel
leaf_of (Null l) = null_model l
leaf_of (Mem l) = leaf_model l

-- its rules are lawful, since each end's are
pub leaf_made : (l : Leaf) → IsMade (leaf_of l).rules
unfolding leaf_of
leaf_made (Null l) = null_made l
leaf_made (Mem l) = mem_made l
