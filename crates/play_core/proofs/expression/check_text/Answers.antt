use Rattle.std.proofs.Common.{arith, ap}
use Rattle.space_core.specs.Memory.{Memory}
use Rattle.expr_reader.specs.Trees.{tree_of}
use Rattle.play_core.proofs.expression.check_text.Goals as goal

pub build-requires-clause-leaves : goal.build-requires-clause-leaves
build-requires-clause-leaves c =
    let fits = c.buildable_are_compositions.ensures (tree_of c.args.expr.now) c.requires.buildable 0 in
    omega (arith, ap (λ (m : Memory). m.leaves) c.requires.closed, fits.few)
