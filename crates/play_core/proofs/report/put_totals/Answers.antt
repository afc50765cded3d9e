use Rattle.std.proofs.Common.{◌∙◌}
use Rattle.heap_core.specs.Heap.{heap_model, heap_table}
use Rattle.play_core.proofs.ReportLemmas.{totals_put}
use Rattle.play_core.proofs.report.put_totals.Goals as goal

pub extent-extent-requires : goal.extent-extent-requires
extent-extent-requires g c = c.blocks_are_measured.ensures.measured (heap_model g.L.Layer.model c.args.heap.now) (heap_table c.args.heap.now) c.args.space.now c.requires

pub returns : goal.returns
returns g c =
    let t = heap_model g.L.Layer.model c.args.heap.now in
    let table = heap_table c.args.heap.now in
    let m = c.args.space.now in
    let law = c.blocks_are_measured.ensures in
    totals_put t table m _ _ c.from.result c.asked-asked.result c.extent-extent.result c.saturating_sub.result
    c.total_line.result.bytes c.total_line-2.result.bytes c.total_line-3.result.bytes c.total_line-4.result.bytes c.put_lines.result
    (c.from.ensures ∙ c.live.ensures ∙ law.live t table m) (c.asked-asked.ensures ∙ law.asked t table m) (c.extent-extent.ensures ∙ law.extents t table m c.requires.layer) c.saturating_sub.ensures
    c.total_line.ensures c.total_line-2.ensures c.total_line-3.ensures c.total_line-4.ensures c.put_lines.ensures
