use Rattle.space_core.proofs.TableRuns.{table-free}
use Rattle.space_core.proofs.table.CellTable.new.Goals as goal

pub invariant_of-result : goal.invariant_of-result
invariant_of-result c =
    table-free c.args.cells c.in_ok-tags.tags.items c.in_ok-free.free c.requires.most (c.in_ok-tags.ensures.items_if_clones_equal (λ y h. h)) c.in_ok-free.ensures
