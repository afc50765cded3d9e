use Rattle.kr_rules.proofs.KrParts.{out_of_kr}
use Rattle.kr_rules.proofs.out_of_kr.Goals as goal

pub returns : goal.returns
returns c = out_of_kr
