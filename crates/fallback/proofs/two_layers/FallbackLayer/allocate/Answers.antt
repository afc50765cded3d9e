use Rattle.std.proofs.Common.{arith}
use Rattle.fallback.proofs.Pairs.{here}
use Rattle.fallback.proofs.Serving.{refused-both, allocates-first, allocates-second}
use Rattle.fallback.proofs.two_layers.FallbackLayer.allocate.Goals as goal

pub allocate-requires-clause-stands : goal.allocate-requires-clause-stands
allocate-requires-clause-stands g c =
    let l = c.args.self.now in
    (here g.met.P.Layer.made g.met.F.Layer.made l c.args.space.now c.requires.stands c.requires.opened).first

pub allocate-requires-in-None-clause-stands : goal.allocate-requires-in-None-clause-stands
allocate-requires-in-None-clause-stands g c =
    let l = c.args.self.now in
    (refused-both _ _ _ _ _ _ _ (here g.met.P.Layer.made g.met.F.Layer.made l c.args.space.now c.requires.stands c.requires.opened) c.allocate.ensures).second

pub returns-in-Some : goal.returns-in-Some
returns-in-Some g c =
    let l = c.args.self.now in
    allocates-first _ _ _ _ _ _ _ (here g.met.P.Layer.made g.met.F.Layer.made l c.args.space.now c.requires.stands c.requires.opened) (omega (arith, c.if-n-eq0.false)) (omega (arith, c.if-n-gt-LIMIT.false)) c.in-Some.ensures

pub returns-in-None : goal.returns-in-None
returns-in-None g c =
    let l = c.args.self.now in
    allocates-second _ _ _ _ _ _ _ _ _ (here g.met.P.Layer.made g.met.F.Layer.made l c.args.space.now c.requires.stands c.requires.opened) (omega (arith, c.if-n-eq0.false)) (omega (arith, c.if-n-gt-LIMIT.false)) c.in-None.ensures c.allocate-in-None.ensures
