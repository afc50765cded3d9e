use Rattle.std.proofs.Common.{arith}
use Rattle.stats_collector.proofs.Moving.{refused, done}
use Rattle.stats_collector.proofs.collector.StatsCollectorLayer.reallocate.Goals as goal

pub returns-then-not-reallocate : goal.returns-then-not-reallocate
returns-then-not-reallocate g c =
    let l = c.args.self.now in
    refused l.counts c.in-Some.counts c.after_failed_reallocation-then-not-reallocate.result (g.P.Layer.model l.parent) (g.P.Layer.model c.reallocate.new.self) c.args.space.now c.reallocate.new.space c.args.b.now c.reallocate.new.b c.args.n
    c.in-Some.is (g.met.P.Layer.made l.parent) c.requires.out (omega (arith, c.if-n-b.false)) (omega (arith, c.if-n-eq0.false)) c.if-n-gt-LIMIT.false c.after_failed_reallocation-then-not-reallocate.ensures c.if-not-reallocate.ensures

pub returns : goal.returns
returns g c =
    let l = c.args.self.now in
    done l.counts c.in-Some.counts c.after_reallocation.result (g.P.Layer.model l.parent) (g.P.Layer.model c.reallocate.new.self) c.args.space.now c.reallocate.new.space c.args.b.now c.reallocate.new.b c.args.n
    c.in-Some.is (g.met.P.Layer.made l.parent) l.together c.requires.stands c.requires.out (omega (arith, c.if-n-b.false)) (omega (arith, c.if-n-eq0.false)) c.if-n-gt-LIMIT.false
    (rw (← c.slack-old_slack.ensures, ← c.slack-new_slack.ensures) c.after_reallocation.ensures) c.if-not-reallocate.ensures
