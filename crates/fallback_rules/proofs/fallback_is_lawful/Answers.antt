use Rattle.fallback_rules.proofs.FallbackLawful.{fallback-lawful}
use Rattle.fallback_rules.proofs.FallbackRegular.{fallback-regular}
use Rattle.fallback_rules.proofs.fallback_is_lawful.Goals as goal

pub returns-clause-regular : goal.returns-clause-regular
returns-clause-regular c = fallback-regular

pub returns-clause-lawful : goal.returns-clause-lawful
returns-clause-lawful c = fallback-lawful
