use Rattle.leaf_rules.proofs.MemLawful.{mem_is_lawful}
use Rattle.leaf_rules.proofs.MemRegular.{mem_is_regular}
use Rattle.leaf_rules.proofs.leaf_is_lawful.Goals as goal

pub returns-clause-regular : goal.returns-clause-regular
returns-clause-regular c = mem_is_regular

pub returns-clause-lawful : goal.returns-clause-lawful
returns-clause-lawful c = mem_is_lawful
