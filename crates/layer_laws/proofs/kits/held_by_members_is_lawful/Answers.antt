use Rattle.layer_laws.proofs.HeldLawful.{held-lawful}
use Rattle.layer_laws.proofs.kits.held_by_members_is_lawful.Goals as goal

pub returns : goal.returns
returns c = held-lawful
