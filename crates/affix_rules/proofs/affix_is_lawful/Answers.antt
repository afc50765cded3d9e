use Rattle.affix_rules.proofs.AffixLawful.{affix_is_regular, affix_is_lawful}
use Rattle.affix_rules.proofs.affix_is_lawful.Goals as goal

pub returns-clause-regular : goal.returns-clause-regular
returns-clause-regular c = affix_is_regular

pub returns-clause-lawful : goal.returns-clause-lawful
returns-clause-lawful c = affix_is_lawful
