use Rattle.std.proofs.Common.{sym}
use Rattle.space_core.proofs.CellRuns.{not_free-there}
use Rattle.space_core.proofs.runs.is_free.Goals as goal

pub returns-in-Some : goal.returns-in-Some
returns-in-Some c =
    let w = c.in-Some.ensures.within in sym (not_free-there c.args.tags.now c.args.from c.args.cells c.in-Some._taken w.0 w.1 c.in-Some.ensures.taken)
