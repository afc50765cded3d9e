use Rattle.list_rules.proofs.ListLawful.{list-lawful}
use Rattle.list_rules.proofs.ListRegular.{list-regular}
use Rattle.list_rules.proofs.list_is_lawful.Goals as goal

pub returns-clause-regular : goal.returns-clause-regular
returns-clause-regular c = list-regular

pub returns-clause-lawful : goal.returns-clause-lawful
returns-clause-lawful c = list-lawful
