use Rattle.layer_laws.proofs.EachMembers.{members_offer_what_each_offers, alignment_is_least}
use Rattle.layer_laws.proofs.members.members_one_by_one.Goals as goal

pub returns-clause-offers : goal.returns-clause-offers
returns-clause-offers c = members_offer_what_each_offers

pub returns-clause-alignment : goal.returns-clause-alignment
returns-clause-alignment c = alignment_is_least
