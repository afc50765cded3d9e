use Rattle.heap_core.proofs.RunWorlds.{run-begins, run-goes_on, held-is_run, zeros-stay}
use Rattle.heap_core.proofs.runs.runs_go_on.Goals as goal

pub returns-clause-begins : goal.returns-clause-begins
returns-clause-begins c = run-begins

pub returns-clause-goes_on : goal.returns-clause-goes_on
returns-clause-goes_on c = run-goes_on

pub returns-clause-held : goal.returns-clause-held
returns-clause-held c = held-is_run

pub returns-clause-zeros : goal.returns-clause-zeros
returns-clause-zeros c = zeros-stay
