use Rattle.quantize_rules.proofs.QuantizeLawful.{out_of_quantize, quantize_hands_all_down}
use Rattle.quantize_rules.proofs.out_of_quantize.Goals as goal

pub returns-clause-out : goal.returns-clause-out
returns-clause-out c = out_of_quantize

pub returns-clause-down : goal.returns-clause-down
returns-clause-down c = quantize_hands_all_down
