use Rattle.shapes.proofs.ProperParts.{rules_of_members, proper_members, owning_members}
use Rattle.shapes.proofs.laws.members_one_by_one.Goals as goal

pub returns-clause-rules : goal.returns-clause-rules
returns-clause-rules c = rules_of_members

pub returns-clause-proper : goal.returns-clause-proper
returns-clause-proper c = proper_members

pub returns-clause-owning : goal.returns-clause-owning
returns-clause-owning c = owning_members
