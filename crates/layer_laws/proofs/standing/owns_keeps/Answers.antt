use Rattle.layer_laws.proofs.FurtherLaws.{owned-keeps}
use Rattle.layer_laws.proofs.standing.owns_keeps.Goals as goal

pub returns : goal.returns
returns c = owned-keeps
