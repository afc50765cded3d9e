use Rattle.layer_laws.proofs.StandingLaws.{expanded-keeps}
use Rattle.layer_laws.proofs.standing.expand_keeps.Goals as goal

pub returns : goal.returns
returns c = expanded-keeps
