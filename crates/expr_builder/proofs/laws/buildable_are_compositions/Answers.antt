use Rattle.expr_builder.proofs.Builds.{buildable-composition}
use Rattle.expr_builder.proofs.laws.buildable_are_compositions.Goals as goal

pub returns : goal.returns
returns c = buildable-composition
