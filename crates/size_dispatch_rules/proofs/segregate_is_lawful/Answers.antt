use Rattle.size_dispatch_rules.proofs.SegregateLawful.{segregate_is_regular, segregate_is_lawful}
use Rattle.size_dispatch_rules.proofs.segregate_is_lawful.Goals as goal

pub returns-clause-regular : goal.returns-clause-regular
returns-clause-regular c = segregate_is_regular

pub returns-clause-lawful : goal.returns-clause-lawful
returns-clause-lawful c = segregate_is_lawful
