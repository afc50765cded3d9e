use Rattle.kr_rules.proofs.KrLawful.{kr-lawful}
use Rattle.kr_rules.proofs.KrRegular.{kr_is_regular}
use Rattle.kr_rules.proofs.kr_is_lawful.Goals as goal

pub returns-clause-regular : goal.returns-clause-regular
returns-clause-regular c = kr_is_regular

pub returns-clause-lawful : goal.returns-clause-lawful
returns-clause-lawful c = kr-lawful
