use Rattle.expr_reader.proofs.Again.{accepted_again, buildable_again}
use Rattle.expr_reader.proofs.printing.canonical_is_accepted.Goals as goal

pub returns-clause-buildable : goal.returns-clause-buildable
returns-clause-buildable c = buildable_again

pub returns-clause-accepted : goal.returns-clause-accepted
returns-clause-accepted c = accepted_again
