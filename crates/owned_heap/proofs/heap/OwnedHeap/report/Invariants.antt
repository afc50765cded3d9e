use Rattle.std.proofs.Common.{◌≡◌, ◌++◌, drop, string_bytes}
use Rattle.std.specs.List.{concat}
use Rattle.layer_rules.specs.Layering.{state_of}
use Rattle.fact_text.specs.FactText.{node_lines}
use Rattle.owned_heap.proofs.heap.OwnedHeap.report.Given as goal

abbrev pub invariant-loop-node : goal.invariant-loop-node
invariant-loop-node g l =
    let heap = l.fn.self in
    let t = g.L.Layer.model heap.root in
    let said = t.rules.facts (state_of t heap.memory) heap.memory.cells in
    string_bytes l.text ++ concat (node_lines l.node (drop l.node said)) ≡ concat (node_lines 0 said)
