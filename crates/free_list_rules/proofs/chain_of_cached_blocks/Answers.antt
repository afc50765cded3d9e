use Rattle.free_list_rules.proofs.CacheChains.{chain_is_read}
use Rattle.free_list_rules.proofs.CacheWalk.{chain_is_walked}
use Rattle.free_list_rules.proofs.chain_of_cached_blocks.Goals as goal

pub returns-clause-read : goal.returns-clause-read
returns-clause-read c = chain_is_read

pub returns-clause-walked : goal.returns-clause-walked
returns-clause-walked c = chain_is_walked
