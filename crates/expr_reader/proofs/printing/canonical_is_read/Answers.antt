use Rattle.expr_reader.proofs.Texts.{canonical_spells}
use Rattle.expr_reader.proofs.printing.canonical_is_read.Goals as goal

pub returns : goal.returns
returns c = canonical_spells
