use Rattle.expr_builder.proofs.Builds.{accepted-composition}
use Rattle.expr_builder.proofs.laws.accepted_are_compositions.Goals as goal

pub returns : goal.returns
returns c = accepted-composition
