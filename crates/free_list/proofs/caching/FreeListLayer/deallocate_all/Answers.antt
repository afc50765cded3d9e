use Rattle.free_list.proofs.Standing.{here, parent-stands}
use Rattle.free_list.proofs.caching.FreeListLayer.deallocate_all.Goals as goal

pub deallocate_all-requires-clause-stands : goal.deallocate_all-requires-clause-stands
deallocate_all-requires-clause-stands g c =
    let l = c.args.self.now in
    parent-stands l.least l.greatest l.chain (g.P.Layer.model l.parent) c.args.space.now (here g.met.P.Layer.made l c.args.space.now c.requires.stands)
