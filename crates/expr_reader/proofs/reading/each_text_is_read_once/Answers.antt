use Rattle.expr_reader.proofs.Whole.{answered_reads, read_once}
use Rattle.expr_reader.proofs.reading.each_text_is_read_once.Goals as goal

pub returns-clause-once : goal.returns-clause-once
returns-clause-once c = read_once

pub returns-clause-computed : goal.returns-clause-computed
returns-clause-computed c = answered_reads
