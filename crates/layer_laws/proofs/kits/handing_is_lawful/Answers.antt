use Rattle.layer_laws.proofs.HandingLawful.{hand-lawful}
use Rattle.layer_laws.proofs.HandingRegular.{hand-regular}
use Rattle.layer_laws.proofs.kits.handing_is_lawful.Goals as goal

pub returns-clause-regular : goal.returns-clause-regular
returns-clause-regular c = hand-regular

pub returns-clause-lawful : goal.returns-clause-lawful
returns-clause-lawful c = hand-lawful
