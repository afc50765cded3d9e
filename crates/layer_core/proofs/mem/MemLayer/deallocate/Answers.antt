use Rattle.layer_core.proofs.LeafBlocks.{taken-back}
use Rattle.layer_core.proofs.mem.MemLayer.deallocate.Goals as goal

pub give-requires-clause-some : goal.give-requires-clause-some
give-requires-clause-some c = (taken-back c.args.self.now c.args.space.now c.args.b c.requires.stands c.requires.out).some

pub give-requires-clause-most : goal.give-requires-clause-most
give-requires-clause-most c = (taken-back c.args.self.now c.args.space.now c.args.b c.requires.stands c.requires.out).most

pub give-requires-clause-has : goal.give-requires-clause-has
give-requires-clause-has c =
    rw c.tag.ensures.tag (taken-back c.args.self.now c.args.space.now c.args.b c.requires.stands c.requires.out).tagged
