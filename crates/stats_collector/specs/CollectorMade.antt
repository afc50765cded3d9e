-- What holds of every layer that is made holds of a collector over such a parent.
use Rattle.layer_laws.specs.Lawful.{IsMade}
use Rattle.layer_laws.proofs.HandingStands.{hand-made}
use Rattle.layer_core.specs.declared.Layer.{Ghosts}
use Rattle.stats_rules.proofs.StatsLawful.{stats-hands}
use Rattle.stats_rules.specs.StatsRules.{stats_handing, stats_rules}
use Rattle.stats_collector.specs.declared.collector.StatsCollector.{StatsCollector}
use Rattle.stats_collector.specs.CollectorModel.{collector_of}

pub collector_made : {P : Type 0} {G : Ghosts P} → ((p : P) → IsMade (G.model p).rules) → (l : StatsCollector P G) → IsMade (collector_of G.model l).rules
unfolding stats_rules
collector_made {P} {G} made l =
    let e = (G.model l.parent).rules in
    let below = made l.parent in
    hand-made (stats_handing e) e (stats-hands e below.regular.telling) l.proper.few l.proper.depth below
