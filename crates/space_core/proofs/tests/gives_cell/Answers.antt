use Rattle.std.proofs.Common.{arith}
use Rattle.space_core.proofs.CellTags.{tagged_cell}
use Rattle.space_core.proofs.tests.gives_cell.Goals as goal

pub give-requires-clause-has : goal.give-requires-clause-has
give-requires-clause-has g c =
    tagged_cell c.args.space.now.cells c.from.result c.tag-tag.result 64 (omega arith) (cc) (omega arith) (omega arith)
