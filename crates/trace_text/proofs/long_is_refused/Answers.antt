use Rattle.trace_text.proofs.WholeLines.{long_is_refused_by}
use Rattle.trace_text.proofs.long_is_refused.Goals as goal

pub returns : goal.returns
returns c = long_is_refused_by
