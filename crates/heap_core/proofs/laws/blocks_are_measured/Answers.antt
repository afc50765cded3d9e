use Rattle.heap_core.proofs.HeldLemmas.{held-measured, extents-in_run, asked-in_run}
use Rattle.heap_core.proofs.laws.blocks_are_measured.Goals as goal

pub returns-clause-measured : goal.returns-clause-measured
returns-clause-measured c = held-measured

pub returns-clause-extents : goal.returns-clause-extents
returns-clause-extents c = extents-in_run

pub returns-clause-asked : goal.returns-clause-asked
returns-clause-asked c = asked-in_run
