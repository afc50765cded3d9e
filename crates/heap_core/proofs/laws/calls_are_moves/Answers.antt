use Rattle.heap_core.proofs.HeldLemmas.{held-run}
use Rattle.heap_core.proofs.RunSteps.{begins-held_run, performed-held, performed-moves}
use Rattle.heap_core.proofs.laws.calls_are_moves.Goals as goal

pub returns-clause-run : goal.returns-clause-run
returns-clause-run c = held-run

pub returns-clause-held : goal.returns-clause-held
returns-clause-held c = performed-held

pub returns-clause-moves : goal.returns-clause-moves
returns-clause-moves c = performed-moves

pub returns-clause-begins : goal.returns-clause-begins
returns-clause-begins c = begins-held_run
