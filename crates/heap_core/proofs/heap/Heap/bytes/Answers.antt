use Rattle.std.proofs.Common.{sym}
use Rattle.layer_laws.proofs.StandingLaws.{out-in_space}
use Rattle.heap_core.proofs.Stepping.{live-out}
use Rattle.heap_core.proofs.heap.Heap.bytes.Goals as goal

pub lend-requires : goal.lend-requires
lend-requires g c = out-in_space _ _ _ c.requires.layer c.requires.stands (live-out _ _ _ c.args.name _ c.requires (sym c.in-Some.ensures.block))
