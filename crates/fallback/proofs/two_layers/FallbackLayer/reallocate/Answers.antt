use Rattle.std.proofs.Common.{arith}
use Rattle.fallback.proofs.Lengths.{reallocates-first, reallocates-second, refused-first, refused-second, still-out, still-marked, moves-to_first, moves-to_second}
use Rattle.fallback.proofs.Pairs.{here, out-by_first, out-by_second, marked-by_first, marked-by_second}
use Rattle.fallback.proofs.two_layers.FallbackLayer.reallocate.Goals as goal

pub reallocate-requires-clause-stands : goal.reallocate-requires-clause-stands
reallocate-requires-clause-stands g c =
    let l = c.args.self.now in
    (here g.met.P.Layer.made g.met.F.Layer.made l c.args.space.now c.requires.stands c.requires.opened).first

pub reallocate-requires-clause-marked : goal.reallocate-requires-clause-marked
reallocate-requires-clause-marked g c =
    let l = c.args.self.now in
    marked-by_first (g.P.Layer.model l.primary) (g.F.Layer.model l.second) c.args.space.now c.args.b.now (here g.met.P.Layer.made g.met.F.Layer.made l c.args.space.now c.requires.stands c.requires.opened) c.if-holds.ensures c.requires.marked

pub move_across-requires-clause-holder_stands : goal.move_across-requires-clause-holder_stands
move_across-requires-clause-holder_stands g c =
    let l = c.args.self.now in
    (refused-first _ _ _ _ _ _ _ _ _ (here g.met.P.Layer.made g.met.F.Layer.made l c.args.space.now c.requires.stands c.requires.opened) c.if-holds.ensures c.requires.out c.if-reallocate.false c.reallocate.ensures).holder.stands

pub move_across-requires-clause-other_stands : goal.move_across-requires-clause-other_stands
move_across-requires-clause-other_stands g c =
    let l = c.args.self.now in
    (refused-first _ _ _ _ _ _ _ _ _ (here g.met.P.Layer.made g.met.F.Layer.made l c.args.space.now c.requires.stands c.requires.opened) c.if-holds.ensures c.requires.out c.if-reallocate.false c.reallocate.ensures).other.stands

pub move_across-requires-clause-out : goal.move_across-requires-clause-out
move_across-requires-clause-out g c =
    let l = c.args.self.now in
    still-out _ _ _ _ _ _ _ _ (refused-first _ _ _ _ _ _ _ _ _ (here g.met.P.Layer.made g.met.F.Layer.made l c.args.space.now c.requires.stands c.requires.opened) c.if-holds.ensures c.requires.out c.if-reallocate.false c.reallocate.ensures) (out-by_first (g.P.Layer.model l.primary) (g.F.Layer.model l.second) c.args.space.now c.args.b.now (here g.met.P.Layer.made g.met.F.Layer.made l c.args.space.now c.requires.stands c.requires.opened) c.if-holds.ensures c.requires.out)

pub move_across-requires-clause-marked : goal.move_across-requires-clause-marked
move_across-requires-clause-marked g c =
    let l = c.args.self.now in
    still-marked _ _ _ _ _ _ _ _ (refused-first _ _ _ _ _ _ _ _ _ (here g.met.P.Layer.made g.met.F.Layer.made l c.args.space.now c.requires.stands c.requires.opened) c.if-holds.ensures c.requires.out c.if-reallocate.false c.reallocate.ensures) (out-by_first (g.P.Layer.model l.primary) (g.F.Layer.model l.second) c.args.space.now c.args.b.now (here g.met.P.Layer.made g.met.F.Layer.made l c.args.space.now c.requires.stands c.requires.opened) c.if-holds.ensures c.requires.out) (marked-by_first (g.P.Layer.model l.primary) (g.F.Layer.model l.second) c.args.space.now c.args.b.now (here g.met.P.Layer.made g.met.F.Layer.made l c.args.space.now c.requires.stands c.requires.opened) c.if-holds.ensures c.requires.marked)

pub reallocate-requires-else-holds-clause-stands : goal.reallocate-requires-else-holds-clause-stands
reallocate-requires-else-holds-clause-stands g c =
    let l = c.args.self.now in
    (here g.met.P.Layer.made g.met.F.Layer.made l c.args.space.now c.requires.stands c.requires.opened).second

pub reallocate-requires-else-holds-clause-marked : goal.reallocate-requires-else-holds-clause-marked
reallocate-requires-else-holds-clause-marked g c =
    let l = c.args.self.now in
    marked-by_second (g.P.Layer.model l.primary) (g.F.Layer.model l.second) c.args.space.now c.args.b.now (here g.met.P.Layer.made g.met.F.Layer.made l c.args.space.now c.requires.stands c.requires.opened) c.if-holds.ensures c.requires.marked

pub move_across-requires-else-reallocate-2-clause-holder_stands : goal.move_across-requires-else-reallocate-2-clause-holder_stands
move_across-requires-else-reallocate-2-clause-holder_stands g c =
    let l = c.args.self.now in
    (refused-second _ _ _ _ _ _ _ _ _ (here g.met.P.Layer.made g.met.F.Layer.made l c.args.space.now c.requires.stands c.requires.opened) c.if-holds.ensures c.requires.out c.if-reallocate-2.false c.reallocate-else-holds.ensures).holder.stands

pub move_across-requires-else-reallocate-2-clause-other_stands : goal.move_across-requires-else-reallocate-2-clause-other_stands
move_across-requires-else-reallocate-2-clause-other_stands g c =
    let l = c.args.self.now in
    (refused-second _ _ _ _ _ _ _ _ _ (here g.met.P.Layer.made g.met.F.Layer.made l c.args.space.now c.requires.stands c.requires.opened) c.if-holds.ensures c.requires.out c.if-reallocate-2.false c.reallocate-else-holds.ensures).other.stands

pub move_across-requires-else-reallocate-2-clause-out : goal.move_across-requires-else-reallocate-2-clause-out
move_across-requires-else-reallocate-2-clause-out g c =
    let l = c.args.self.now in
    still-out _ _ _ _ _ _ _ _ (refused-second _ _ _ _ _ _ _ _ _ (here g.met.P.Layer.made g.met.F.Layer.made l c.args.space.now c.requires.stands c.requires.opened) c.if-holds.ensures c.requires.out c.if-reallocate-2.false c.reallocate-else-holds.ensures) (out-by_second (g.P.Layer.model l.primary) (g.F.Layer.model l.second) c.args.space.now c.args.b.now (here g.met.P.Layer.made g.met.F.Layer.made l c.args.space.now c.requires.stands c.requires.opened) c.if-holds.ensures c.requires.out)

pub move_across-requires-else-reallocate-2-clause-marked : goal.move_across-requires-else-reallocate-2-clause-marked
move_across-requires-else-reallocate-2-clause-marked g c =
    let l = c.args.self.now in
    still-marked _ _ _ _ _ _ _ _ (refused-second _ _ _ _ _ _ _ _ _ (here g.met.P.Layer.made g.met.F.Layer.made l c.args.space.now c.requires.stands c.requires.opened) c.if-holds.ensures c.requires.out c.if-reallocate-2.false c.reallocate-else-holds.ensures) (out-by_second (g.P.Layer.model l.primary) (g.F.Layer.model l.second) c.args.space.now c.args.b.now (here g.met.P.Layer.made g.met.F.Layer.made l c.args.space.now c.requires.stands c.requires.opened) c.if-holds.ensures c.requires.out) (marked-by_second (g.P.Layer.model l.primary) (g.F.Layer.model l.second) c.args.space.now c.args.b.now (here g.met.P.Layer.made g.met.F.Layer.made l c.args.space.now c.requires.stands c.requires.opened) c.if-holds.ensures c.requires.marked)

pub returns-then-reallocate : goal.returns-then-reallocate
returns-then-reallocate g c =
    let l = c.args.self.now in
    reallocates-first _ _ _ _ _ _ _ _ _ (here g.met.P.Layer.made g.met.F.Layer.made l c.args.space.now c.requires.stands c.requires.opened) c.if-holds.ensures c.requires.out (omega (arith, c.if-n-b.false)) (omega (arith, c.if-n-eq0.false)) c.if-n-gt-LIMIT.false c.if-reallocate.true c.reallocate.ensures

pub returns-else-reallocate : goal.returns-else-reallocate
returns-else-reallocate g c =
    let l = c.args.self.now in
    moves-to_second _ _ _ _ _ _ _ _ _ _ _ _ _ _ (here g.met.P.Layer.made g.met.F.Layer.made l c.args.space.now c.requires.stands c.requires.opened) c.if-holds.ensures c.requires.out (omega (arith, c.if-n-b.false)) (omega (arith, c.if-n-eq0.false)) c.if-n-gt-LIMIT.false c.if-reallocate.false c.reallocate.ensures c.move_across.ensures

pub returns-then-reallocate-2 : goal.returns-then-reallocate-2
returns-then-reallocate-2 g c =
    let l = c.args.self.now in
    reallocates-second _ _ _ _ _ _ _ _ _ (here g.met.P.Layer.made g.met.F.Layer.made l c.args.space.now c.requires.stands c.requires.opened) c.if-holds.ensures c.requires.out (omega (arith, c.if-n-b.false)) (omega (arith, c.if-n-eq0.false)) c.if-n-gt-LIMIT.false c.if-reallocate-2.true c.reallocate-else-holds.ensures

pub returns-else-reallocate-2 : goal.returns-else-reallocate-2
returns-else-reallocate-2 g c =
    let l = c.args.self.now in
    moves-to_first _ _ _ _ _ _ _ _ _ _ _ _ _ _ (here g.met.P.Layer.made g.met.F.Layer.made l c.args.space.now c.requires.stands c.requires.opened) c.if-holds.ensures c.requires.out (omega (arith, c.if-n-b.false)) (omega (arith, c.if-n-eq0.false)) c.if-n-gt-LIMIT.false c.if-reallocate-2.false c.reallocate-else-holds.ensures c.move_across-else-reallocate-2.ensures
