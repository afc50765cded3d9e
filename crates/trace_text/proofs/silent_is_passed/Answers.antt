use Rattle.trace_text.proofs.WholeLines.{silent_is_passed_by}
use Rattle.trace_text.proofs.silent_is_passed.Goals as goal

pub returns : goal.returns
returns c = silent_is_passed_by
