use Rattle.quantize_rules.proofs.QuantizeLawful.{quantize_is_regular, quantize_is_lawful}
use Rattle.quantize_rules.proofs.quantize_is_lawful.Goals as goal

pub returns-clause-regular : goal.returns-clause-regular
returns-clause-regular c = quantize_is_regular

pub returns-clause-lawful : goal.returns-clause-lawful
returns-clause-lawful c = quantize_is_lawful
