use Rattle.std.proofs.Common.{◌≡◌, ◌+◌, sum_by}
use Rattle.std.specs.HashMap.{values}
use Rattle.layer_rules.specs.Rows.{Each}
use Rattle.layer_rules.specs.Layering.{IsRoutedIn}
use Rattle.heap_core.specs.Heap.{block_extent}
use Rattle.heap_core.proofs.heap.Heap.extent_in_map.Given as goal

abbrev pub invariant-loop-block : goal.invariant-loop-block
invariant-loop-block g l = record {
  total : l.total + sum_by (block_extent (g.L.Layer.model l.self.root)) l.block-iterator ≡ sum_by (block_extent (g.L.Layer.model l.self.root)) (values l.map);
  routed : Each (IsRoutedIn (g.L.Layer.model l.self.root)) l.block-iterator;
}
