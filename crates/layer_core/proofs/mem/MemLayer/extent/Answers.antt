use Rattle.std.proofs.Common.{arith}
use Rattle.layer_core.proofs.LeafBlocks.{named}
use Rattle.layer_core.proofs.mem.MemLayer.extent.Goals as goal

pub overflow_add-b : goal.overflow_add-b
overflow_add-b c = let x = named c.args.self.now c.args.b c.requires in omega (arith, x.place, x.len)

pub overflow_mul-result : goal.overflow_mul-result
overflow_mul-result c =
    let x = named c.args.self.now c.args.b c.requires in
    rw c.div_ceil.ensures (omega (arith, x.place, x.len))
