use Rattle.std.proofs.Common.{refl}
use Rattle.bitmapped_block.proofs.Putting.{cleared}
use Rattle.bitmapped_block.proofs.bits.clear.Goals as goal

pub returns : goal.returns
returns c = cleared c.args.row _ c.args.space.now c.fill.new.self c.requires refl c.fill.ensures.after c.fill.ensures.memory
