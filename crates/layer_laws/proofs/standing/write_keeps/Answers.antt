use Rattle.layer_laws.proofs.Placement.{write-keeps}
use Rattle.layer_laws.proofs.standing.write_keeps.Goals as goal

pub returns : goal.returns
returns c = write-keeps
