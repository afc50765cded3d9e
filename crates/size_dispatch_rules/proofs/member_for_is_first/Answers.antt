use Rattle.size_dispatch_rules.proofs.SegregateLawful.{thresholds_are_ascending, member_for_is_first, has_member_for}
use Rattle.size_dispatch_rules.proofs.member_for_is_first.Goals as goal

pub returns-clause-thresholds : goal.returns-clause-thresholds
returns-clause-thresholds c = thresholds_are_ascending

pub returns-clause-first : goal.returns-clause-first
returns-clause-first c = member_for_is_first

pub returns-clause-there : goal.returns-clause-there
returns-clause-there c = has_member_for
