use Rattle.std.proofs.Common.{arith}
use Rattle.space_core.proofs.CellTags.{tagged_cell}
use Rattle.space_core.proofs.tests.grows_cell.Goals as goal

pub grow-grown-requires-clause-has : goal.grow-grown-requires-clause-has
grow-grown-requires-clause-has g c =
    tagged_cell c.args.space.now.cells c.from.result c.tag-tag.result c.args.bytes (omega arith) (cc) (omega arith) (omega arith)
