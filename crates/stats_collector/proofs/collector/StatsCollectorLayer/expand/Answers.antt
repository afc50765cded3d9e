use Rattle.std.proofs.Common.{arith}
use Rattle.layer_laws.proofs.StandingLaws.{out-in_space}
use Rattle.stats_collector.specs.CollectorMade.{collector_made}
use Rattle.stats_collector.specs.CollectorModel.{collector_of}
use Rattle.stats_collector.proofs.Growing.{grown-parent}
use Rattle.stats_collector.proofs.collector.StatsCollectorLayer.expand.Goals as goal

pub overflow_sub-b : goal.overflow_sub-b
overflow_sub-b g c =
    let x = out-in_space (collector_of g.P.Layer.model c.args.self.now) c.args.space.now c.args.b.now (collector_made g.met.P.Layer.made c.args.self.now) c.requires.stands c.requires.out in
    omega (arith, x, c.requires.stands.memory.sizes, c.requires.stands.memory.cells)

pub returns : goal.returns
returns g c =
    let l = c.args.self.now in
    grown-parent l.counts c.in-Some.counts c.after_expansion-in-Some.result (g.P.Layer.model l.parent) (g.P.Layer.model c.expand-grown.new.self) c.args.space.now c.expand-grown.new.space c.args.b.now c.expand-grown.new.b c.args.delta c.expand-grown.result
    c.in-Some.is (g.met.P.Layer.made l.parent) c.requires.out (omega (arith, c.if-delta-eq0.false)) (omega (arith, c.if-delta-b.false, c.if-delta-eq0.false))
    (rw (← c.slack-old_slack.ensures, ← c.slack-new_slack.ensures) c.after_expansion-in-Some.ensures) c.expand-grown.ensures
