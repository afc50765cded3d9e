use Rattle.heap_core.proofs.RunAnswers.{fault-keeps_run, null-exactly, placed-else, aligned-null_exactly, aligned-placed_else, live-is_owned, paths-answer_routes, refused-changes_none}
use Rattle.heap_core.proofs.runs.answers_are_exact.Goals as goal

pub returns-clause-fault : goal.returns-clause-fault
returns-clause-fault c = fault-keeps_run

pub returns-clause-null : goal.returns-clause-null
returns-clause-null c = null-exactly

pub returns-clause-placed : goal.returns-clause-placed
returns-clause-placed c = placed-else

pub returns-clause-null_aligned : goal.returns-clause-null_aligned
returns-clause-null_aligned c = aligned-null_exactly

pub returns-clause-placed_aligned : goal.returns-clause-placed_aligned
returns-clause-placed_aligned c = aligned-placed_else

pub returns-clause-owns : goal.returns-clause-owns
returns-clause-owns c = live-is_owned

pub returns-clause-paths : goal.returns-clause-paths
returns-clause-paths c = paths-answer_routes

pub returns-clause-refused : goal.returns-clause-refused
returns-clause-refused c = refused-changes_none
