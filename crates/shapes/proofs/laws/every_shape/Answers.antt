use Rattle.shapes.proofs.ShapeLaws.{unranged_of}
use Rattle.shapes.proofs.laws.every_shape.Goals as goal

pub returns : goal.returns
returns c = unranged_of
