use Rattle.layer_laws.proofs.StandingReallocated.{reallocated-keeps}
use Rattle.layer_laws.proofs.standing.reallocate_keeps.Goals as goal

pub returns : goal.returns
returns c = reallocated-keeps
