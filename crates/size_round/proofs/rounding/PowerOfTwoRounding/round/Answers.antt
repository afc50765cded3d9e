use Rattle.size_round.proofs.NextPower.{next_is_least, least_is_bounded}
use Rattle.size_round.proofs.rounding.PowerOfTwoRounding.round.Goals as goal

pub returns-clause-rounded : goal.returns-clause-rounded
returns-clause-rounded c = next_is_least c.args.n c.next_power_of_two.result c.requires.some c.next_power_of_two.ensures.power c.next_power_of_two.ensures.lower_bound c.next_power_of_two.ensures.upper_bound

pub returns-clause-bounded : goal.returns-clause-bounded
returns-clause-bounded c =
    least_is_bounded c.args.n c.next_power_of_two.result c.requires.some c.requires.most c.next_power_of_two.ensures.power c.next_power_of_two.ensures.lower_bound c.next_power_of_two.ensures.upper_bound
