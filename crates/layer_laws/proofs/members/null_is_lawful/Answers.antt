use Rattle.layer_rules.specs.NullRules.{null_rules}
use Rattle.std.proofs.Common.{refl}
use Rattle.layer_laws.proofs.NullLawful.{null-regular, null-lawful}
use Rattle.layer_laws.proofs.members.null_is_lawful.Goals as goal

pub returns-clause-regular : goal.returns-clause-regular
returns-clause-regular c = null-regular

pub returns-clause-lawful : goal.returns-clause-lawful
returns-clause-lawful c = null-lawful

pub returns-clause-out : goal.returns-clause-out
unfolding null_rules
returns-clause-out c = λ b s cells. refl
