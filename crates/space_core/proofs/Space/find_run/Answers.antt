use Rattle.std.proofs.Common.{refl}
use Rattle.space_core.specs.Runs.{first_run}
use Rattle.space_core.proofs.Space.find_run.Goals as goal

pub returns-in-Closed-clause-first : goal.returns-in-Closed-clause-first
unfolding first_run
returns-in-Closed-clause-first c = rw (← c.self.view_is, c.in-Closed.is) refl
