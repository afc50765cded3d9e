use Rattle.list_rules.proofs.ListOrder.{next-is_closed}
use Rattle.list_rules.proofs.next_member_is_closed.Goals as goal

pub returns : goal.returns
returns c = next-is_closed
