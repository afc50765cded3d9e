use Rattle.std.proofs.Common.{◌∙◌}
use Rattle.play_core.proofs.PutLemmas.{puts_along}
use Rattle.play_core.proofs.ReportLemmas.{lines_turn}
use Rattle.play_core.proofs.putting.put_lines.Goals as goal

pub loop-line-preserved : goal.loop-line-preserved
loop-line-preserved g c =
    lines_turn (λ line. line.bytes) c.args.lines.now c.loop-line.line-index c.line-item.result _ _ _ c.loop-line-test.true c.line-item.is c.loop-line.invariant (puts_along _ _ _ _ (c.as_bytes.ensures.value ∙ c.as_str.ensures.value) c.in_ok-put_all.ensures.ok)
