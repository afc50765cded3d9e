use Rattle.std.proofs.Common.{sym, subst}
use Rattle.layer_rules.specs.Layering.{LayerModel, Stands}
use Rattle.play_core.proofs.ReportLemmas.{report_done, report_cut, lines_erred}
use Rattle.play_core.proofs.report.put_report.Goals as goal

pub put_nodes-requires : goal.put_nodes-requires
put_nodes-requires g c = subst (λ (t : LayerModel). Stands t c.args.space.now) (sym c.root.ensures) c.requires.stands

pub returns : goal.returns
returns g c = report_done _ _ _ c.args.space.now _ _ _ c.put_nodes.result c.root.ensures c.in_ok-put_totals.ensures c.put_nodes.ensures

pub returns-in_err-put_totals : goal.returns-in_err-put_totals
returns-in_err-put_totals g c = lines_erred _ _ _ c.from_residual.result c.from_residual.ensures.0 (report_cut _ _ c.args.space.now _ _ c.in_err-put_totals.ensures)
