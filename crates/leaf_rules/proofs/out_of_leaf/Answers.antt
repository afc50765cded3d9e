use Rattle.leaf_rules.proofs.MemLawful.{out_of_leaf}
use Rattle.leaf_rules.proofs.out_of_leaf.Goals as goal

pub returns : goal.returns
returns c = out_of_leaf
