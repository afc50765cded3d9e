use Rattle.play_core.proofs.ReportLemmas.{node_some, node_none}
use Rattle.play_core.proofs.report.put_node.Goals as goal

pub returns-in-Some : goal.returns-in-Some
returns-in-Some g c = node_some _ _ _ _ c.put_lines.result c.in-Some.ensures c.put_lines.ensures

pub returns-in-None : goal.returns-in-None
returns-in-None g c = node_none _ _ c.in-None.ensures
