use Rattle.fallback.proofs.GivingBack.{emptied-first, deallocates-both}
use Rattle.fallback.proofs.Pairs.{here}
use Rattle.fallback.proofs.two_layers.FallbackLayer.deallocate_all.Goals as goal

pub deallocate_all-requires-clause-stands : goal.deallocate_all-requires-clause-stands
deallocate_all-requires-clause-stands g c =
    let l = c.args.self.now in
    (here g.met.P.Layer.made g.met.F.Layer.made l c.args.space.now c.requires.stands c.requires.opened).first

pub deallocate_all-requires-2-clause-stands : goal.deallocate_all-requires-2-clause-stands
deallocate_all-requires-2-clause-stands g c =
    let l = c.args.self.now in
    (emptied-first _ _ _ _ _ (here g.met.P.Layer.made g.met.F.Layer.made l c.args.space.now c.requires.stands c.requires.opened) c.deallocate_all.ensures).second

pub returns : goal.returns
returns g c =
    let l = c.args.self.now in
    deallocates-both _ _ _ _ _ _ _ (here g.met.P.Layer.made g.met.F.Layer.made l c.args.space.now c.requires.stands c.requires.opened) c.deallocate_all.ensures c.deallocate_all-2.ensures
