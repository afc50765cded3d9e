use Rattle.layer_laws.proofs.FurtherLaws.{aligned_allocated-keeps}
use Rattle.layer_laws.proofs.standing.aligned_allocate_keeps.Goals as goal

pub returns : goal.returns
returns c = aligned_allocated-keeps
