use Rattle.fallback.proofs.Joining.{closed-fallback_stands}
use Rattle.fallback.proofs.closed_fallback_stands.Goals as goal

pub returns : goal.returns
returns c = closed-fallback_stands
