-- What holds of every layer that is made holds of a leaf.
use Rattle.std.proofs.Common.{inl, refl, lit≤}
use Rattle.space_core.specs.Leaf.{Leaf}
use Rattle.leaf_rules.specs.MemRules.{mem_rules}
use Rattle.layer_laws.specs.Lawful.{IsMade}
use Rattle.leaf_rules.proofs.MemRegular.{mem_is_regular}
use Rattle.leaf_rules.proofs.MemLawful.{mem_is_lawful}
use Rattle.layer_core.specs.LeafModel.{leaf_model}

pub leaf_made : (l : Leaf) → IsMade (leaf_model l).rules
unfolding mem_rules
leaf_made l = record { few = lit≤ tt; shallow = lit≤ tt; regular = mem_is_regular l.tag; lawful = λ d w. mem_is_lawful l.tag (w.least l.tag (inl refl)) }
