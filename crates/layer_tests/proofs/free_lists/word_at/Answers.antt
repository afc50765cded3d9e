use Rattle.std.proofs.Common.{arith}
use Rattle.layer_tests.proofs.free_lists.word_at.Goals as goal

pub word-requires : goal.word-requires
word-requires g c = let z = c.requires.stands.memory.sizes in omega (arith, z, c.cells.ensures, c.from.ensures)
