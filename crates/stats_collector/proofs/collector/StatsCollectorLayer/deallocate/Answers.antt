use Rattle.std.proofs.Common.{◌≡◌, sym, ap, subst, Bool, Option, Some}
use Rattle.space_core.specs.Memory.{Memory}
use Rattle.layer_rules.specs.declared.Block.{Block}
use Rattle.layer_rules.specs.declared.Stats.{Stats}
use Rattle.layer_rules.specs.Fields.{kept_stats}
use Rattle.layer_rules.specs.Layering.{LayerModel, IsOutOf, Deallocates}
use Rattle.layer_rules.specs.State.{stats_own}
use Rattle.layer_laws.proofs.HandingCalls.{hand-deallocated}
use Rattle.layer_laws.specs.Lawful.{IsMade}
use Rattle.stats_rules.specs.Counting.{count_deallocate}
use Rattle.stats_rules.proofs.StatsLawful.{stats-hands}
use Rattle.stats_rules.specs.StatsRules.{slack_of, stats_handing, stats_rules}
use Rattle.stats_collector.specs.CollectorModel.{collector_model}
use Rattle.stats_collector.proofs.collector.StatsCollectorLayer.deallocate.Goals as goal

-- the parent's answer, counted whatever it is
given-back : (o : Option Stats) (x x' : Stats) (t t' : LayerModel) (m m' : Memory) (b : Block) (r : Bool) → o ≡ Some x → IsMade t.rules → IsOutOf (collector_model o t) m b → x' ≡ count_deallocate b.len (slack_of t.rules b.len) x
    → Deallocates t t' m m' b r → Deallocates (collector_model o t) (collector_model (Some x') t') m m' b r
unfolding stats_rules
given-back o x x' t t' m m' b r q l out counted a =
    subst (λ o. IsOutOf (collector_model o t) m b → Deallocates (collector_model o t) (collector_model (Some x') t') m m' b r) (sym q)
    (λ out. hand-deallocated stats_handing kept_stats x x' t t' m m' b r (stats-hands t.rules l.regular.telling) out (ap stats_own counted) a) out

pub returns : goal.returns
returns g c =
    let l = c.args.self.now in
    given-back l.counts c.in-Some.counts c.after_deallocation.result (g.P.Layer.model l.parent) (g.P.Layer.model c.deallocate-freed.new.self) c.args.space.now c.deallocate-freed.new.space c.args.b c.deallocate-freed.result
    c.in-Some.is (g.met.P.Layer.made l.parent) c.requires.out (rw (← c.slack-slack.ensures) c.after_deallocation.ensures) c.deallocate-freed.ensures
