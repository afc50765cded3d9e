use Rattle.affix_rules.proofs.AffixLawful.{length_stands_before, affixes_by_bytes}
use Rattle.affix_rules.proofs.bytes_round_blocks.Goals as goal

pub returns-clause-length : goal.returns-clause-length
returns-clause-length c = length_stands_before

pub returns-clause-affixes : goal.returns-clause-affixes
returns-clause-affixes c = affixes_by_bytes
