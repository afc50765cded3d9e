use Rattle.std.proofs.Common.{arith}
use Rattle.std.proofs.lemmas.Grind.{common_steps}
use Rattle.space_core.proofs.CellRuns.{put_run-nil, length-put_run}
use Rattle.space_core.proofs.Space.fill.Goals as goal
use Rattle.space_core.proofs.Space.fill.Goals.{in-Open, in_default}

pub returns-clause-after : goal.returns-clause-after
returns-clause-after c =
    elim c.match-self.branch [
      | in-Open w ↦ rw (w.self-inside-is, ← c.self.view_is) (grind (arith, common_steps, length-put_run))
      | in_default w ↦ rw (w.self-inside-is, ← c.self.view_is, w.in_default.is, put_run-nil)
    ]
