use Rattle.std.proofs.Common.{◌≡◌, ◌+◌, ◌-◌}
use Rattle.space_core.specs.Runs.{put_run}
use Rattle.space_core.proofs.runs.put_run.Given as goal

abbrev pub invariant-loop-index : goal.invariant-loop-index
invariant-loop-index g l = put_run l.value l.index ((l.from + l.n) - l.index) l.items ≡ put_run l.value l.from l.n l.initial.items
