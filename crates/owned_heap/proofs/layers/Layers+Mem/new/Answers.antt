use Rattle.std.proofs.Common.{ap, refl, ◌∷◌, []}
use Rattle.space_core.specs.Leaf.{Leaf}
use Rattle.leaf_rules.specs.MemRules.{mem_rules}
use Rattle.layer_rules.specs.Fields.{are_open}
use Rattle.layer_core.specs.LeafModel.{leaf_model}
use Rattle.owned_heap.proofs.Planning.{first-fresh, first-leaf}
use Rattle.owned_heap.proofs.layers.Layers+Mem.new.Goals as goal

pub invariant_of-result : goal.invariant_of-result
unfolding mem_rules
invariant_of-result c =
    let leaf = first-leaf c.args.cells _ _ _ c.closed-space.ensures c.in_ok-set_up.ensures.ok c.in-Some.ensures.leaf in
    record {
      fresh = first-fresh c.args.cells _ _ _ c.closed-space.ensures c.in_ok-set_up.ensures.ok c.in-Some.ensures.after c.in-Some.ensures.memory;
      shut = ap (λ (l : Leaf). are_open (leaf_model l).fields) leaf;
      tags = ap (λ (l : Leaf). l.tag ∷ []) leaf;
    }

pub returns-clause-alignment : goal.returns-clause-alignment
unfolding mem_rules
returns-clause-alignment c = refl

pub returns-clause-nodes : goal.returns-clause-nodes
unfolding mem_rules
returns-clause-nodes c = refl

pub returns-clause-depth : goal.returns-clause-depth
unfolding mem_rules
returns-clause-depth c = refl
