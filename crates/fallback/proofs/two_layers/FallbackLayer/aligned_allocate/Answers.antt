use Rattle.std.proofs.Common.{arith}
use Rattle.fallback.proofs.Pairs.{here}
use Rattle.fallback.proofs.Serving.{refused-aligned, aligned-first, aligned-second}
use Rattle.fallback.proofs.two_layers.FallbackLayer.aligned_allocate.Goals as goal

pub aligned_allocate-requires-clause-stands : goal.aligned_allocate-requires-clause-stands
aligned_allocate-requires-clause-stands g c =
    let l = c.args.self.now in
    (here g.met.P.Layer.made g.met.F.Layer.made l c.args.space.now c.requires.stands c.requires.opened).first

pub aligned_allocate-requires-in-None-clause-stands : goal.aligned_allocate-requires-in-None-clause-stands
aligned_allocate-requires-in-None-clause-stands g c =
    let l = c.args.self.now in
    (refused-aligned _ _ _ _ _ _ _ _ (here g.met.P.Layer.made g.met.F.Layer.made l c.args.space.now c.requires.stands c.requires.opened) c.requires.power c.requires.most c.aligned_allocate.ensures).second

pub returns-in-Some : goal.returns-in-Some
returns-in-Some g c =
    let l = c.args.self.now in
    aligned-first _ _ _ _ _ _ _ _ (here g.met.P.Layer.made g.met.F.Layer.made l c.args.space.now c.requires.stands c.requires.opened) (omega (arith, c.if-n-eq0.false)) (omega (arith, c.if-n-gt-LIMIT.false)) c.requires.power c.requires.most c.in-Some.ensures

pub returns-in-None : goal.returns-in-None
returns-in-None g c =
    let l = c.args.self.now in
    aligned-second _ _ _ _ _ _ _ _ _ _ (here g.met.P.Layer.made g.met.F.Layer.made l c.args.space.now c.requires.stands c.requires.opened) (omega (arith, c.if-n-eq0.false)) (omega (arith, c.if-n-gt-LIMIT.false)) c.requires.power c.requires.most c.in-None.ensures c.aligned_allocate-in-None.ensures
