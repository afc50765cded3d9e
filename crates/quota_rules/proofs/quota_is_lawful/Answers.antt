use Rattle.quota_rules.proofs.QuotaLawful.{quota_is_regular, quota_is_lawful}
use Rattle.quota_rules.proofs.quota_is_lawful.Goals as goal

pub returns-clause-regular : goal.returns-clause-regular
returns-clause-regular c = quota_is_regular

pub returns-clause-lawful : goal.returns-clause-lawful
returns-clause-lawful c = quota_is_lawful
