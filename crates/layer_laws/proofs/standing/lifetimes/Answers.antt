use Rattle.layer_laws.proofs.StandingLaws.{set_up-stands, torn-stands}
use Rattle.layer_laws.proofs.standing.lifetimes.Goals as goal

pub returns-clause-set_up : goal.returns-clause-set_up
returns-clause-set_up c = set_up-stands

pub returns-clause-tear_down : goal.returns-clause-tear_down
returns-clause-tear_down c = torn-stands
