use Rattle.kr_rules.proofs.KrTails.{kr_tail_first}
use Rattle.kr_rules.proofs.kr_tail_first.Goals as goal

pub returns : goal.returns
returns c = kr_tail_first
