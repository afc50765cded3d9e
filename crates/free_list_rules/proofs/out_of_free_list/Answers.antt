use Rattle.free_list_rules.proofs.CacheParts.{out-free_list, free_list-out}
use Rattle.free_list_rules.proofs.out_of_free_list.Goals as goal

pub returns : goal.returns
returns c least greatest e b s cells = (out-free_list least greatest e b s cells, free_list-out least greatest e b s cells)
