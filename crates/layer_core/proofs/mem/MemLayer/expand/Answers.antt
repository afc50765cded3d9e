use Rattle.std.proofs.Common.{arith}
use Rattle.layer_core.proofs.LeafBlocks.{taken-back}
use Rattle.layer_core.proofs.mem.MemLayer.expand.Goals as goal

pub overflow_sub-b : goal.overflow_sub-b
overflow_sub-b c = let x = taken-back c.args.self.now c.args.space.now c.args.b.now c.requires.stands c.requires.out in omega (arith, x.most)
