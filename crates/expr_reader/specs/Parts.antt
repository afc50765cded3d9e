-- The parts of a segregator.
use Rattle.std.specs.Prelude.{List}
use Rattle.expr_reader.specs.declared.tree.Part.{Part}
use Rattle.expr_reader.specs.declared.tree.Parts.{Parts, out-Parts}

-- the parts in order
abbrev pub parts : Parts → List Part
parts p = (out-Parts p).items.items
