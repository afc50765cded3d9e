use Rattle.std.specs.HashMap.{hash_map_len}
use Rattle.heap_core.proofs.table.take_each.Given as goal

abbrev pub decreases-loop-name : goal.decreases-loop-name
decreases-loop-name l = hash_map_len l.map
