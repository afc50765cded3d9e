use Rattle.std.proofs.Common.{arith, length, ◌≤◌}
use Rattle.layer_rules.specs.Layering.{state_of}
use Rattle.owned_heap.proofs.Reporting.{none_told, node_told, all_told}
use Rattle.owned_heap.proofs.heap.OwnedHeap.report.Goals as goal

pub loop-node-init : goal.loop-node-init
loop-node-init g c =
    let heap = c.args.self.now in
    let t = g.L.Layer.model heap.root in
    none_told (t.rules.facts (state_of t heap.memory) heap.memory.cells) _ c.new-text.ensures.bytes

pub loop-node-preserved : goal.loop-node-preserved
loop-node-preserved g c = node_told _ c.loop-node.node _ _ _ _ c.fact.ensures c.loop-node.invariant c.in_ok-push_node.ensures

pub returns : goal.returns
returns g c =
    let heap = c.args.self.now in
    let t = g.L.Layer.model heap.root in
    let all = t.rules.facts (state_of t heap.memory) heap.memory.cells in
    let le : length all ≤ c.loop-node.node = omega (arith, (g.met.L.Layer.made heap.root).regular.telling.facts_count (state_of t heap.memory) heap.memory.cells, c.nodes-node-end.ensures, c.loop-node-test.false) in
    all_told g.L.Layer.model heap c.loop-node.node _ le c.loop-node.invariant
