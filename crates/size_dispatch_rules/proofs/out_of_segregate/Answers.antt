use Rattle.size_dispatch_rules.proofs.SegregateLawful.{out_of_segregate}
use Rattle.size_dispatch_rules.proofs.out_of_segregate.Goals as goal

pub returns : goal.returns
returns c = out_of_segregate
