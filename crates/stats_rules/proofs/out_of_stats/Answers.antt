use Rattle.stats_rules.proofs.StatsLawful.{out_of_stats}
use Rattle.stats_rules.proofs.out_of_stats.Goals as goal

pub returns : goal.returns
returns c = out_of_stats
