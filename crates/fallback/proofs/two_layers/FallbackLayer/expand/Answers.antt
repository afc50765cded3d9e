use Rattle.std.proofs.Common.{arith}
use Rattle.layer_laws.proofs.StandingLaws.{out-in_space}
use Rattle.fallback.specs.FallbackMade.{fallback_made}
use Rattle.fallback.specs.FallbackModel.{fallback_of}
use Rattle.fallback.proofs.Growing.{expands-first, expands-second}
use Rattle.fallback.proofs.Pairs.{here, marked-by_first, marked-by_second}
use Rattle.fallback.proofs.two_layers.FallbackLayer.expand.Goals as goal

pub overflow_sub-b : goal.overflow_sub-b
overflow_sub-b g c =
    let l = c.args.self.now in
    let x = out-in_space (fallback_of g.P.Layer.model g.F.Layer.model l) c.args.space.now c.args.b.now (fallback_made g.met.P.Layer.made g.met.F.Layer.made l) c.requires.stands c.requires.out in
    omega (arith, x, c.requires.stands.memory.sizes, c.requires.stands.memory.cells)

pub expand-requires-clause-stands : goal.expand-requires-clause-stands
expand-requires-clause-stands g c =
    let l = c.args.self.now in
    (here g.met.P.Layer.made g.met.F.Layer.made l c.args.space.now c.requires.stands c.requires.opened).first

pub expand-requires-clause-marked : goal.expand-requires-clause-marked
expand-requires-clause-marked g c =
    let l = c.args.self.now in
    marked-by_first (g.P.Layer.model l.primary) (g.F.Layer.model l.second) c.args.space.now c.args.b.now (here g.met.P.Layer.made g.met.F.Layer.made l c.args.space.now c.requires.stands c.requires.opened) c.if-holds.ensures c.requires.marked

pub expand-requires-else-holds-clause-stands : goal.expand-requires-else-holds-clause-stands
expand-requires-else-holds-clause-stands g c =
    let l = c.args.self.now in
    (here g.met.P.Layer.made g.met.F.Layer.made l c.args.space.now c.requires.stands c.requires.opened).second

pub expand-requires-else-holds-clause-marked : goal.expand-requires-else-holds-clause-marked
expand-requires-else-holds-clause-marked g c =
    let l = c.args.self.now in
    marked-by_second (g.P.Layer.model l.primary) (g.F.Layer.model l.second) c.args.space.now c.args.b.now (here g.met.P.Layer.made g.met.F.Layer.made l c.args.space.now c.requires.stands c.requires.opened) c.if-holds.ensures c.requires.marked

pub returns-then-holds : goal.returns-then-holds
returns-then-holds g c =
    let l = c.args.self.now in
    expands-first _ _ _ _ _ _ _ _ _ (here g.met.P.Layer.made g.met.F.Layer.made l c.args.space.now c.requires.stands c.requires.opened) c.if-holds.ensures c.requires.out (omega (arith, c.if-delta-eq0.false)) (omega (arith, c.if-delta-b.false, c.if-delta-eq0.false)) c.expand.ensures

pub returns-else-holds : goal.returns-else-holds
returns-else-holds g c =
    let l = c.args.self.now in
    expands-second _ _ _ _ _ _ _ _ _ (here g.met.P.Layer.made g.met.F.Layer.made l c.args.space.now c.requires.stands c.requires.opened) c.if-holds.ensures c.requires.out (omega (arith, c.if-delta-eq0.false)) (omega (arith, c.if-delta-b.false, c.if-delta-eq0.false)) c.expand-else-holds.ensures
