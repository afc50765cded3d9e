use Rattle.fallback.proofs.GivingBack.{deallocates-first, deallocates-second}
use Rattle.fallback.proofs.Pairs.{here, marked-by_first, marked-by_second}
use Rattle.fallback.proofs.two_layers.FallbackLayer.deallocate.Goals as goal

pub deallocate-requires-clause-stands : goal.deallocate-requires-clause-stands
deallocate-requires-clause-stands g c =
    let l = c.args.self.now in
    (here g.met.P.Layer.made g.met.F.Layer.made l c.args.space.now c.requires.stands c.requires.opened).first

pub deallocate-requires-clause-marked : goal.deallocate-requires-clause-marked
deallocate-requires-clause-marked g c =
    let l = c.args.self.now in
    marked-by_first (g.P.Layer.model l.primary) (g.F.Layer.model l.second) c.args.space.now c.args.b (here g.met.P.Layer.made g.met.F.Layer.made l c.args.space.now c.requires.stands c.requires.opened) c.if-holds.ensures c.requires.marked

pub deallocate-requires-else-holds-clause-stands : goal.deallocate-requires-else-holds-clause-stands
deallocate-requires-else-holds-clause-stands g c =
    let l = c.args.self.now in
    (here g.met.P.Layer.made g.met.F.Layer.made l c.args.space.now c.requires.stands c.requires.opened).second

pub deallocate-requires-else-holds-clause-marked : goal.deallocate-requires-else-holds-clause-marked
deallocate-requires-else-holds-clause-marked g c =
    let l = c.args.self.now in
    marked-by_second (g.P.Layer.model l.primary) (g.F.Layer.model l.second) c.args.space.now c.args.b (here g.met.P.Layer.made g.met.F.Layer.made l c.args.space.now c.requires.stands c.requires.opened) c.if-holds.ensures c.requires.marked

pub returns-then-holds : goal.returns-then-holds
returns-then-holds g c =
    let l = c.args.self.now in
    deallocates-first _ _ _ _ _ _ _ (here g.met.P.Layer.made g.met.F.Layer.made l c.args.space.now c.requires.stands c.requires.opened) c.if-holds.ensures c.requires.out c.deallocate.ensures

pub returns-else-holds : goal.returns-else-holds
returns-else-holds g c =
    let l = c.args.self.now in
    deallocates-second _ _ _ _ _ _ _ (here g.met.P.Layer.made g.met.F.Layer.made l c.args.space.now c.requires.stands c.requires.opened) c.if-holds.ensures c.requires.out c.deallocate-else-holds.ensures
