use Rattle.std.proofs.Common.{ap}
use Rattle.layer_rules.specs.Rules.{Rules}
use Rattle.layer_rules.specs.Handing.{handing_rules}
use Rattle.stats_rules.specs.StatsRules.{stats_rules}
use Rattle.owned_heap.proofs.Planning.{over-same, one-more}
use Rattle.owned_heap.proofs.layers.Layers.stats.Goals as goal

pub invariant_of-result : goal.invariant_of-result
unfolding stats_rules handing_rules
invariant_of-result g c = over-same _ _ _ c.self.invariant c.new.ensures.shut (ap (λ (e : Rules). e.leaf_tags) c.new.ensures.rules)

pub returns-clause-more : goal.returns-clause-more
unfolding stats_rules handing_rules
returns-clause-more g c = rw (← c.self.view_is) (one-more _ _ _ _ _ (ap (λ (e : Rules). e.nodes) c.new.ensures.rules) (ap (λ (e : Rules). e.depth) c.new.ensures.rules))

pub returns-clause-alignment : goal.returns-clause-alignment
unfolding stats_rules handing_rules
returns-clause-alignment g c = rw (← c.self.view_is) (ap (λ (e : Rules). e.alignment) c.new.ensures.rules)
