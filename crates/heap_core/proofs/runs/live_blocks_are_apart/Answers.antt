use Rattle.heap_core.proofs.RunBlocks.{run-has_blocks, run-finds_blocks, names-share_no_byte}
use Rattle.heap_core.proofs.runs.live_blocks_are_apart.Goals as goal

pub returns-clause-blocks : goal.returns-clause-blocks
returns-clause-blocks c = run-has_blocks

pub returns-clause-found : goal.returns-clause-found
returns-clause-found c = run-finds_blocks

pub returns-clause-names : goal.returns-clause-names
returns-clause-names c = names-share_no_byte
