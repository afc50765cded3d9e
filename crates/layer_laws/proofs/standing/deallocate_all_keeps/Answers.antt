use Rattle.layer_laws.proofs.StandingLaws.{all_deallocated-keeps}
use Rattle.layer_laws.proofs.standing.deallocate_all_keeps.Goals as goal

pub returns : goal.returns
returns c = all_deallocated-keeps
