use Rattle.std.proofs.Common.{ap}
use Rattle.layer_rules.specs.Rules.{Rules}
use Rattle.region_rules.specs.RegionRules.{region_rules}
use Rattle.owned_heap.proofs.Planning.{over-same, one-more, region-proper}
use Rattle.owned_heap.proofs.layers.Layers.region.Goals as goal

pub new-requires-clause-proper : goal.new-requires-clause-proper
new-requires-clause-proper g c =
    region-proper _ _ _ c.requires.some c.requires.most c.requires.align (rw (← c.self.view_is) at c.requires.aligned) (rw (← c.self.view_is) at c.requires.room)

pub invariant_of-result : goal.invariant_of-result
unfolding region_rules
invariant_of-result g c = over-same _ _ _ c.self.invariant c.new.ensures.shut (ap (λ (e : Rules). e.leaf_tags) c.new.ensures.rules)

pub returns-clause-more : goal.returns-clause-more
unfolding region_rules
returns-clause-more g c = rw (← c.self.view_is) (one-more _ _ _ _ _ (ap (λ (e : Rules). e.nodes) c.new.ensures.rules) (ap (λ (e : Rules). e.depth) c.new.ensures.rules))

pub returns-clause-alignment : goal.returns-clause-alignment
unfolding region_rules
returns-clause-alignment g c = ap (λ (e : Rules). e.alignment) c.new.ensures.rules
