-- What contracts see of a collector over a parent.
use Rattle.std.specs.Prelude.{◌≡◌, Option}
use Rattle.space_core.specs.Memory.{Memory}
use Rattle.layer_rules.specs.declared.Stats.{Stats}
use Rattle.layer_rules.specs.Fields.{kept_stats}
use Rattle.layer_rules.specs.Layering.{LayerModel, state_of}
use Rattle.layer_rules.specs.State.{stats_of}
use Rattle.layer_laws.specs.HandingModel.{hand_fields}
use Rattle.layer_core.specs.declared.Layer.{Ghosts}
use Rattle.stats_rules.specs.StatsRules.{stats_rules}
use Rattle.stats_collector.specs.declared.collector.StatsCollector.{StatsCollector}

abbrev pub collector_model : Option Stats → (parent : LayerModel) → LayerModel
collector_model counts parent = record { rules = stats_rules parent.rules; fields = hand_fields kept_stats counts parent.fields }

abbrev pub collector_of : {P : Type 0} {G : Ghosts P} → (P → LayerModel) → StatsCollector P G → LayerModel
collector_of model l = collector_model l.counts (model l.parent)

-- the numbers of the layer's state, whatever the bytes of the Space are
abbrev pub AreCountsOf : LayerModel → Stats → Type 0
AreCountsOf t counts = (m : Memory) → counts ≡ stats_of (state_of t m)
