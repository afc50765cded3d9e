use Rattle.size_round.proofs.KindLaws.{rounded_is_enough, rounded_is_monotone, rounded_is_bounded}
use Rattle.size_round.proofs.laws.proper_roundings.Goals as goal

pub returns-clause-enough : goal.returns-clause-enough
returns-clause-enough c = rounded_is_enough

pub returns-clause-monotone : goal.returns-clause-monotone
returns-clause-monotone c = rounded_is_monotone

pub returns-clause-bounded : goal.returns-clause-bounded
returns-clause-bounded c = rounded_is_bounded
