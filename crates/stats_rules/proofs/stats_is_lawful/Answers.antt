use Rattle.stats_rules.proofs.StatsLawful.{stats_is_regular, stats_is_lawful}
use Rattle.stats_rules.proofs.stats_is_lawful.Goals as goal

pub returns-clause-regular : goal.returns-clause-regular
returns-clause-regular c = stats_is_regular

pub returns-clause-lawful : goal.returns-clause-lawful
returns-clause-lawful c = stats_is_lawful
