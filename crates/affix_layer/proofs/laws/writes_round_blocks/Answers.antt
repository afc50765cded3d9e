use Rattle.affix_layer.proofs.Round.{written_affixes_keep, lent_prefix_keeps, lent_suffix_keeps}
use Rattle.affix_layer.proofs.laws.writes_round_blocks.Goals as goal

pub returns-clause-written : goal.returns-clause-written
returns-clause-written c = written_affixes_keep

pub returns-clause-prefix : goal.returns-clause-prefix
returns-clause-prefix c = lent_prefix_keeps

pub returns-clause-suffix : goal.returns-clause-suffix
returns-clause-suffix c = lent_suffix_keeps
