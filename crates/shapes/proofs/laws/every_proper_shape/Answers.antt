use Rattle.shapes.proofs.ShapeLaws.{regular_of, lawful_of}
use Rattle.shapes.proofs.laws.every_proper_shape.Goals as goal

pub returns-clause-regular : goal.returns-clause-regular
returns-clause-regular c = regular_of

pub returns-clause-lawful : goal.returns-clause-lawful
returns-clause-lawful c = lawful_of
