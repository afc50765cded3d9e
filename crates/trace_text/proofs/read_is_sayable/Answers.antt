use Rattle.trace_text.proofs.Printed.{read_is_sayable_by}
use Rattle.trace_text.proofs.read_is_sayable.Goals as goal

pub returns : goal.returns
returns c = read_is_sayable_by
