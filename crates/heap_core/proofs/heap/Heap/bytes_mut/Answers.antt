use Rattle.layer_laws.proofs.StandingLaws.{out-in_space}
use Rattle.heap_core.proofs.Stepping.{live-block, live-out}
use Rattle.heap_core.proofs.heap.Heap.bytes_mut.Goals as goal

pub lend_mut-requires : goal.lend_mut-requires
lend_mut-requires g c =
    rw c.live_block-block.ensures
    (out-in_space _ _ _ c.requires.held.layer c.requires.held.stands (live-out _ _ _ c.args.name _ c.requires.held (live-block _ c.args.name c.requires.live)))
