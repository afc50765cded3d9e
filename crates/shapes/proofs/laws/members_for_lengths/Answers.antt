use Rattle.shapes.proofs.ProperParts.{proper_has_member, proper_has_bucket}
use Rattle.shapes.proofs.laws.members_for_lengths.Goals as goal

pub returns-clause-member : goal.returns-clause-member
returns-clause-member c = proper_has_member

pub returns-clause-bucket : goal.returns-clause-bucket
returns-clause-bucket c = proper_has_bucket
