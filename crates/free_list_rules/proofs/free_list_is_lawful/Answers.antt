use Rattle.free_list_rules.proofs.FreeListRegular.{free_list-regular}
use Rattle.free_list_rules.proofs.FreeListLawful.{free_list-lawful}
use Rattle.free_list_rules.proofs.free_list_is_lawful.Goals as goal

pub returns-clause-regular : goal.returns-clause-regular
returns-clause-regular c = free_list-regular

pub returns-clause-lawful : goal.returns-clause-lawful
returns-clause-lawful c = free_list-lawful
