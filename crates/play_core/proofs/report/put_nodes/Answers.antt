use Rattle.std.proofs.Common.{arith, length, ◌≤◌}
use Rattle.layer_rules.specs.Layering.{state_of}
use Rattle.play_core.proofs.ReportLemmas.{nodes_turn, nodes_break, nodes_end, lines_erred}
use Rattle.play_core.proofs.report.put_nodes.Goals as goal

pub loop-node-preserved : goal.loop-node-preserved
loop-node-preserved g c = nodes_turn _ c.loop-node.node _ _ _ _ c.fact.ensures c.loop-node.invariant c.in_ok-put_node.ensures

pub returns : goal.returns
returns g c =
    let model = g.L.Layer.model c.args.root.now in
    let all = model.rules.facts (state_of model c.args.space.now) c.args.space.now.cells in
    let le : length all ≤ c.loop-node.node = omega (arith, (g.met.L.Layer.made c.args.root.now).regular.telling.facts_count (state_of model c.args.space.now) c.args.space.now.cells, c.nodes-count.ensures) in
    nodes_end all c.loop-node.node _ _ le c.loop-node.invariant

pub returns-in_err-put_node : goal.returns-in_err-put_node
returns-in_err-put_node g c = lines_erred _ _ _ c.from_residual.result c.from_residual.ensures.0 (nodes_break _ c.loop-node.node _ _ _ _ c.fact.ensures c.loop-node.invariant c.in_err-put_node.ensures)
