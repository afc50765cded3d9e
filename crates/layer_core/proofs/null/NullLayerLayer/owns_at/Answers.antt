use Rattle.std.proofs.Common.{refl, arith}
use Rattle.std.proofs.Math.Seq.{drop-cons}
use Rattle.layer_rules.specs.NullRules.{null_rules}
use Rattle.layer_core.proofs.null.NullLayerLayer.owns_at.Goals as goal

pub returns-then-from-len : goal.returns-then-from-len
unfolding null_rules
returns-then-from-len c = rw (drop-cons c.args.path.now c.args.from 0 (omega arith)) refl
