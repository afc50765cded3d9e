use Rattle.std.proofs.Common.{refl}
use Rattle.size_round.specs.Sizes.{rounded}
use Rattle.layer_core.proofs.mem.MemLayer.allocate.Goals as goal

pub aligned_allocate-requires-clause-power : goal.aligned_allocate-requires-clause-power
unfolding rounded
aligned_allocate-requires-clause-power c = refl
