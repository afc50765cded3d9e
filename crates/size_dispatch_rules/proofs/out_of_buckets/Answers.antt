use Rattle.size_dispatch_rules.proofs.BucketsLawful.{out_of_buckets}
use Rattle.size_dispatch_rules.proofs.out_of_buckets.Goals as goal

pub returns : goal.returns
returns c = out_of_buckets
