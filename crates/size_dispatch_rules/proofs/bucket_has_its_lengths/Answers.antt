use Rattle.size_dispatch_rules.proofs.BucketsLawful.{bucket_has_its_lengths, has_bucket_for, buckets_hand_all_down}
use Rattle.size_dispatch_rules.proofs.bucket_has_its_lengths.Goals as goal

pub returns-clause-lengths : goal.returns-clause-lengths
returns-clause-lengths c = bucket_has_its_lengths

pub returns-clause-there : goal.returns-clause-there
returns-clause-there c = has_bucket_for

pub returns-clause-down : goal.returns-clause-down
returns-clause-down c = buckets_hand_all_down
