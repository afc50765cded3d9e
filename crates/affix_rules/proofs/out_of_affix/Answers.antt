use Rattle.affix_rules.proofs.AffixLawful.{out_of_affix, affix_hands_all_down}
use Rattle.affix_rules.proofs.out_of_affix.Goals as goal

pub returns-clause-out : goal.returns-clause-out
returns-clause-out c = out_of_affix

pub returns-clause-down : goal.returns-clause-down
returns-clause-down c = affix_hands_all_down
