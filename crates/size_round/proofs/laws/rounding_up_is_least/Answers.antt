use Rattle.size_round.proofs.UpLeast.{up_is_least, ceil_div_is_least}
use Rattle.size_round.proofs.laws.rounding_up_is_least.Goals as goal

pub returns-clause-up : goal.returns-clause-up
returns-clause-up c = up_is_least

pub returns-clause-ceil_div : goal.returns-clause-ceil_div
returns-clause-ceil_div c = ceil_div_is_least
