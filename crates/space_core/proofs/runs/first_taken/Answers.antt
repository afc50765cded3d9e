use Rattle.std.proofs.Common.{◌+◌, arith, sym, ◌∙◌}
use Rattle.std.proofs.lemmas.Bool.Decides.{nat_tests}
use Rattle.space_core.proofs.CellRuns.{free-step, free-end}
use Rattle.space_core.proofs.runs.first_taken.Goals as goal

pub loop-cell-preserved : goal.loop-cell-preserved
loop-cell-preserved c =
    let step = free-step c.args.tags.now c.loop-cell.cell (c.args.from + c.args.cells) (omega arith) (omega arith) in
    let so_far = c.loop-cell.invariant in
    grind (arith, nat_tests)

pub returns-clause-none : goal.returns-clause-none
returns-clause-none c =
    sym c.loop-cell.invariant ∙ free-end c.args.tags.now c.loop-cell.cell (c.args.from + c.args.cells) (omega arith)
