use Rattle.size_dispatch_rules.proofs.BucketsLawful.{buckets_are_regular, buckets_are_lawful}
use Rattle.size_dispatch_rules.proofs.buckets_are_lawful.Goals as goal

pub returns-clause-regular : goal.returns-clause-regular
returns-clause-regular c = buckets_are_regular

pub returns-clause-lawful : goal.returns-clause-lawful
returns-clause-lawful c = buckets_are_lawful
