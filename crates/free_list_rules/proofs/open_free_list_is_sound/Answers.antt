use Rattle.free_list_rules.proofs.CacheParts.{cache-opened, free_list-settled}
use Rattle.free_list_rules.proofs.open_free_list_is_sound.Goals as goal

pub returns : goal.returns
returns c least greatest e s cells o = (cache-opened least greatest e s cells o, free_list-settled least greatest e s cells)
