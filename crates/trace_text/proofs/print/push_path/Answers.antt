use Rattle.std.proofs.Common.{arith}
use Rattle.std.proofs.lemmas.Grind.{common_steps}
use Rattle.trace_text.proofs.Printing.{path_first, path_more}
use Rattle.trace_text.proofs.print.push_path.Goals as goal
use Rattle.trace_text.proofs.print.push_path.Goals.{then-k-gt0, else-k-gt0}

pub loop-k-preserved : goal.loop-k-preserved
loop-k-preserved c = elim c.if-k-gt0.branch [
  | then-k-gt0 w ↦ grind (arith, common_steps, path_more c.args.path.now c.loop-k.k (omega arith) (omega arith))
  | else-k-gt0 w ↦ grind (arith, common_steps, path_first c.args.path.now c.loop-k.k (omega arith) (omega arith))
]
