use Rattle.trace_text.proofs.Printed.{printed_is_read_by}
use Rattle.trace_text.proofs.printed_is_read.Goals as goal

pub returns : goal.returns
returns c = printed_is_read_by
