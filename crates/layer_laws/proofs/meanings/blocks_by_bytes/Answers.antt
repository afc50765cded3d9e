use Rattle.layer_laws.proofs.BlockLaws.{lies_in_by_bytes, apart_by_bytes}
use Rattle.layer_laws.proofs.meanings.blocks_by_bytes.Goals as goal

pub returns-clause-lies_in : goal.returns-clause-lies_in
returns-clause-lies_in c = lies_in_by_bytes

pub returns-clause-apart : goal.returns-clause-apart
returns-clause-apart c = apart_by_bytes
