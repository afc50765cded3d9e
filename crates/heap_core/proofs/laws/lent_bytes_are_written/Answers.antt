use Rattle.heap_core.proofs.Changing.{lent-is_written}
use Rattle.heap_core.proofs.laws.lent_bytes_are_written.Goals as goal

pub returns : goal.returns
returns c = lent-is_written
