use Rattle.play_core.proofs.ReportLemmas.{report_put, report_fails}
use Rattle.play_core.proofs.replaying.finish_report.Goals as goal

pub returns-in-Ok : goal.returns-in-Ok
returns-in-Ok g c = report_put _ _ _ _ c.in-Ok.ensures

pub returns-in-Err : goal.returns-in-Err
returns-in-Err g c = report_fails _ _ _ _ c.in-Err.ensures
