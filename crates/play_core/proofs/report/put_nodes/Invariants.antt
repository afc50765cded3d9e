use Rattle.std.proofs.Common.{drop}
use Rattle.layer_rules.specs.Layering.{state_of}
use Rattle.play_core.specs.Devices.{writing}
use Rattle.fact_text.specs.FactText.{node_lines}
use Rattle.play_core.proofs.ReportLemmas.{PutSoFar}
use Rattle.play_core.proofs.report.put_nodes.Given as goal

abbrev pub invariant-loop-node : goal.invariant-loop-node
invariant-loop-node g l =
    let model = g.L.Layer.model l.root in
    let said = model.rules.facts (state_of model l.space) l.space.cells in
    PutSoFar (writing g.K.Sink.holds g.K.Sink.faults l.fn.sink) (writing g.K.Sink.holds g.K.Sink.faults l.sink) (node_lines 0 said) (node_lines l.node (drop l.node said))
