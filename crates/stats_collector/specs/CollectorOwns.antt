-- A collector says who owns a block where its parent does.
use Rattle.std.proofs.Common.{◌≡◌, true}
use Rattle.layer_rules.specs.Handing.{handing_rules}
use Rattle.layer_core.specs.declared.Layer.{Ghosts}
use Rattle.stats_rules.specs.StatsRules.{stats_rules}
use Rattle.stats_collector.specs.declared.collector.StatsCollector.{StatsCollector}
use Rattle.stats_collector.specs.CollectorModel.{collector_of}

pub collector_owns : {P : Type 0} {G : Ghosts P} → ((p : P) → (G.model p).rules.offers.owns ≡ true) → (l : StatsCollector P G) → (collector_of G.model l).rules.offers.owns ≡ true
unfolding stats_rules handing_rules
collector_owns owning l = owning l.parent
