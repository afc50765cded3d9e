use Rattle.layer_laws.proofs.ChoosingPlacing.{choosing-lawful}
use Rattle.layer_laws.proofs.ChoosingRegular.{choosing-regular}
use Rattle.layer_laws.proofs.kits.choosing_is_lawful.Goals as goal

pub returns-clause-regular : goal.returns-clause-regular
returns-clause-regular c = choosing-regular

pub returns-clause-lawful : goal.returns-clause-lawful
returns-clause-lawful c = choosing-lawful
