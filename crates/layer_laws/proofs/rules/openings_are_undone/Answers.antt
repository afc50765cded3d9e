use Rattle.layer_laws.proofs.TornDown.{opened-torn_down, asked-torn_down, asked_at-torn_down, closed-again}
use Rattle.layer_laws.proofs.rules.openings_are_undone.Goals as goal

pub returns-clause-opened : goal.returns-clause-opened
returns-clause-opened c = opened-torn_down

pub returns-clause-asked : goal.returns-clause-asked
returns-clause-asked c = asked-torn_down

pub returns-clause-asked_at : goal.returns-clause-asked_at
returns-clause-asked_at c = asked_at-torn_down

pub returns-clause-again : goal.returns-clause-again
returns-clause-again c = closed-again
