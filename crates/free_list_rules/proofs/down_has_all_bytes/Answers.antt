use Rattle.free_list_rules.proofs.CacheParts.{down_has_all_bytes}
use Rattle.free_list_rules.proofs.down_has_all_bytes.Goals as goal

pub returns : goal.returns
returns c = down_has_all_bytes
