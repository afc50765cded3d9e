use Rattle.size_round.proofs.PowerLaws.{powers_pass, rounded_is_least_power, part_is_greatest}
use Rattle.size_round.proofs.laws.powers_of_two.Goals as goal

pub returns-clause-test : goal.returns-clause-test
returns-clause-test c = powers_pass

pub returns-clause-rounded : goal.returns-clause-rounded
returns-clause-rounded c = rounded_is_least_power

pub returns-clause-part : goal.returns-clause-part
returns-clause-part c = part_is_greatest
