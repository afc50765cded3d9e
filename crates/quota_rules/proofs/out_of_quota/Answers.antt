use Rattle.quota_rules.proofs.QuotaLawful.{out_of_quota, quota_counts_within}
use Rattle.quota_rules.proofs.out_of_quota.Goals as goal

pub returns-clause-out : goal.returns-clause-out
returns-clause-out c = out_of_quota

pub returns-clause-within : goal.returns-clause-within
returns-clause-within c = quota_counts_within
