use Rattle.fallback_rules.proofs.FallbackOut.{out_of_fallback}
use Rattle.fallback_rules.proofs.out_of_fallback.Goals as goal

pub returns : goal.returns
returns c = out_of_fallback
