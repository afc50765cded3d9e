use Rattle.layer_laws.proofs.CarvingLawful.{carving-lawful}
use Rattle.layer_laws.proofs.CarvingRegular.{carving-regular}
use Rattle.layer_laws.proofs.kits.carving_is_lawful.Goals as goal

pub returns-clause-regular : goal.returns-clause-regular
returns-clause-regular c = carving-regular

pub returns-clause-lawful : goal.returns-clause-lawful
returns-clause-lawful c = carving-lawful
