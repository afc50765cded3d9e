use Rattle.std.proofs.Common.{arith, take, length, length-take-le, ap, ◌∙◌, refl}
use Rattle.play_core.specs.Ends.{run_at, rules_at}
use Rattle.play_core.specs.Place.{place_of}
use Rattle.play_core.proofs.Running.{going_at_start, going_more, going_on, going_waits, going_stops, going_breaks, going_ends, fed_far, fed_along, finish_along, ended, not_ended, takes_nothing, took_few, falls}
use Rattle.play_core.proofs.PutLemmas.{fails_none}
use Rattle.play_core.specs.declared.Step.TheVariants as step
use Rattle.play_core.proofs.replaying.replay_to_end.Goals as goal

pub taking-init : goal.taking-init
taking-init g c = record {
  going = going_at_start _ c.new-reader.result _ _ _ c.new-reader.ensures.number c.new-reader.ensures.before c.new-reader.ensures.begun c.requires.opened;
  held = c.requires.held;
  rules = refl;
}

pub returns-then-count-eq0-clause-ran : goal.returns-then-count-eq0-clause-ran
returns-then-count-eq0-clause-ran g c =
    let p = place_of c.taking.reader (run_at g.L.Layer.model c.taking.heap c.taking.space) in
    let t = run_at g.L.Layer.model c.finish.new.heap c.finish.new.space in
    going_ends (rules_at g.L.Layer.model c.args.heap.now) _ t _ _ _ _ _ _ p c.finish.result (going_on _ _ _ _ _ _ _ p c.taking.invariant.going c.in-Ok.ensures.kept c.in-Ok.ensures.counted)
    (takes_nothing _ _ c.take.new.into c.in-Ok-take.count c.in-Ok-take.ensures.taken c.if-count-eq0.true)
    (c.in-Ok-take.ensures.end c.if-count-eq0.true)
    c.in-Ok-take.ensures.counted
    (ended c.in-Ok-take.count _ c.in-Ok-take.ensures.finished c.if-count-eq0.true) c.taking.reader.within
    (finish_along (rules_at g.L.Layer.model c.args.heap.now) (rules_at g.L.Layer.model c.taking.heap) p t _ _ c.finish.result c.taking.invariant.rules c.finish.ensures.finishes)

pub taking-smaller : goal.taking-smaller
taking-smaller g c =
    let p = place_of c.taking.reader (run_at g.L.Layer.model c.taking.heap c.taking.space) in
    let q = place_of c.feed_all.new.reader (run_at g.L.Layer.model c.feed_all.new.heap c.feed_all.new.space) in
    falls _ _ c.in-Ok-take.count 16777216 _ (fed_far _ p q c.front.result.now _ _ c.in-Goes.ensures.fed)
    (ap length c.front.ensures ∙ length-take-le c.in-Ok-take.count c.take.new.into c.in-Ok-take.ensures.bound)
    (omega (arith, c.if-count-eq0.false)) c.taking.reader.within

pub taking-preserved : goal.taking-preserved
taking-preserved g c =
    let p = place_of c.taking.reader (run_at g.L.Layer.model c.taking.heap c.taking.space) in
    let q = place_of c.feed_all.new.reader (run_at g.L.Layer.model c.feed_all.new.heap c.feed_all.new.space) in
    record {
      going = going_more _ _ _ _ _ _ _ _ p q (take c.in-Ok-take.count c.take.new.into) (going_on _ _ _ _ _ _ _ p c.taking.invariant.going c.in-Ok.ensures.kept c.in-Ok.ensures.counted) c.in-Ok-take.ensures.taken c.in-Ok-take.ensures.counted
          (not_ended c.in-Ok-take.count _ c.in-Ok-take.ensures.finished c.if-count-eq0.false) (fed_along _ _ p q _ c.front.result.now _ _ step.Goes c.taking.invariant.rules c.front.ensures c.in-Goes.ensures.fed);
      held = c.in-Goes.ensures.held;
      rules = c.in-Goes.ensures.rules ∙ c.taking.invariant.rules;
    }

pub returns-in-Stops-clause-ran : goal.returns-in-Stops-clause-ran
returns-in-Stops-clause-ran g c =
    let p = place_of c.taking.reader (run_at g.L.Layer.model c.taking.heap c.taking.space) in
    let q = place_of c.feed_all.new.reader (run_at g.L.Layer.model c.feed_all.new.heap c.feed_all.new.space) in
    going_stops _ _ _ _ _ _ _ _ p q (take c.in-Ok-take.count c.take.new.into) (going_on _ _ _ _ _ _ _ p c.taking.invariant.going c.in-Ok.ensures.kept c.in-Ok.ensures.counted) c.in-Ok-take.ensures.taken c.in-Ok-take.ensures.counted
    (not_ended c.in-Ok-take.count _ c.in-Ok-take.ensures.finished c.if-count-eq0.false)
    (took_few c.in-Ok-take.count c.take.new.into c.taking.room c.min-want.result c.taking.reader.before (length c.taking.reader.begun.items) c.len.result c.take.auto.into c.min-want.ensures c.len.ensures.value) c.taking.reader.within (fed_along _ _ p q _ c.front.result.now _ _ step.Stops c.taking.invariant.rules c.front.ensures c.in-Stops.ensures.fed)

pub returns-in-SinkFailed-clause-ran : goal.returns-in-SinkFailed-clause-ran
returns-in-SinkFailed-clause-ran g c =
    let p = place_of c.taking.reader (run_at g.L.Layer.model c.taking.heap c.taking.space) in
    let q = place_of c.feed_all.new.reader (run_at g.L.Layer.model c.feed_all.new.heap c.feed_all.new.space) in
    going_breaks _ _ _ _ _ _ _ _ p q (take c.in-Ok-take.count c.take.new.into) (going_on _ _ _ _ _ _ _ p c.taking.invariant.going c.in-Ok.ensures.kept c.in-Ok.ensures.counted) c.in-Ok-take.ensures.taken c.in-Ok-take.ensures.counted
    (not_ended c.in-Ok-take.count _ c.in-Ok-take.ensures.finished c.if-count-eq0.false)
    (took_few c.in-Ok-take.count c.take.new.into c.taking.room c.min-want.result c.taking.reader.before (length c.taking.reader.begun.items) c.len.result c.take.auto.into c.min-want.ensures c.len.ensures.value) c.taking.reader.within (fed_along _ _ p q _ c.front.result.now _ _ step.SinkFailed c.taking.invariant.rules c.front.ensures c.in-SinkFailed.ensures.fed)

pub returns-in-Err-clause-ran : goal.returns-in-Err-clause-ran
returns-in-Err-clause-ran g c =
    let p = place_of c.taking.reader (run_at g.L.Layer.model c.taking.heap c.taking.space) in
    going_waits _ _ _ _ _ _ _ p c.taking.invariant.going (fails_none _ _ c.in-Err.ensures.kept c.in-Err.ensures.cause.0 c.in-Err.ensures.cause.1) c.taking.reader.within
