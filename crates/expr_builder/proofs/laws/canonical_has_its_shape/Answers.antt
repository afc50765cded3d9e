use Rattle.expr_builder.proofs.Places.{in_place-shape}
use Rattle.expr_builder.proofs.laws.canonical_has_its_shape.Goals as goal

pub returns : goal.returns
returns c e made = in_place-shape e 0 made
