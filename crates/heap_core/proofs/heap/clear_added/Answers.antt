use Rattle.std.proofs.Common.{arith}
use Rattle.heap_core.proofs.heap.clear_added.Goals as goal

pub overflow_add-block : goal.overflow_add-block
overflow_add-block c = omega (arith, c.requires.memory.sizes, c.requires.memory.cells, c.requires.inside, c.min-kept.ensures)
