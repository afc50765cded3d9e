use Rattle.list_rules.proofs.ListOut.{out_of_list}
use Rattle.list_rules.proofs.out_of_list.Goals as goal

pub returns : goal.returns
returns c = out_of_list
