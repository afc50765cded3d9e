use Rattle.shapes.proofs.ShapeLaws.{made_of}
use Rattle.shapes.proofs.laws.every_composition.Goals as goal

pub returns : goal.returns
returns c = made_of
