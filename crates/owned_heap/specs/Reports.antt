-- Reports: what a heap says of its layers.
use Rattle.std.specs.Prelude.{ℕ, List}
use Rattle.std.specs.List.{concat}
use Rattle.layer_rules.specs.Layering.{LayerModel, state_of}
use Rattle.fact_text.specs.FactText.{node_lines}
use Rattle.owned_heap.specs.Owned.{Owned}

-- the line of each node that has one, from the root as node 0
unfoldable pub report_in : {L : Type 0} → (L → LayerModel) → Owned L → List ℕ
report_in model h = let t = model h.root in concat (node_lines 0 (t.rules.facts (state_of t h.memory) h.memory.cells))
