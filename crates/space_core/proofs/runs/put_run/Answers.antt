use Rattle.std.proofs.Common.{◌+◌, arith, sym, ◌∙◌}
use Rattle.space_core.proofs.CellRuns.{put-step, put-end}
use Rattle.space_core.proofs.runs.put_run.Goals as goal

pub loop-index-preserved : goal.loop-index-preserved
loop-index-preserved g c =
    sym (put-step c.args.value c.loop-index.index (c.args.from + c.args.n) c.loop-index.items (omega arith)) ∙ c.loop-index.invariant

pub returns : goal.returns
returns g c =
    sym (put-end c.args.value c.loop-index.index (c.args.from + c.args.n) c.loop-index.items (omega arith)) ∙ c.loop-index.invariant
