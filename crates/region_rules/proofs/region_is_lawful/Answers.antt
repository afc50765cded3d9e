use Rattle.region_rules.proofs.RegionLawful.{region_is_lawful}
use Rattle.region_rules.proofs.RegionRegular.{region_is_regular}
use Rattle.region_rules.proofs.region_is_lawful.Goals as goal

pub returns-clause-regular : goal.returns-clause-regular
returns-clause-regular c = region_is_regular

pub returns-clause-lawful : goal.returns-clause-lawful
returns-clause-lawful c = region_is_lawful
