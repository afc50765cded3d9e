use Rattle.trace_text.proofs.WholeLines.{read_is_spelled_by}
use Rattle.trace_text.proofs.read_is_spelled.Goals as goal

pub returns : goal.returns
returns c = read_is_spelled_by
