use Rattle.std.proofs.Common.{refl, arith}
use Rattle.play_core.specs.Ends.{run_at}
use Rattle.play_core.specs.Place.{place_of}
use Rattle.play_core.proofs.Going.{begins_within, feed_first, feed_line, place_behind}
use Rattle.play_core.specs.declared.Step.TheVariants as step
use Rattle.play_core.proofs.feeding.feed_next.Goals as goal

pub returns-in_default-clause-fed : goal.returns-in_default-clause-fed
returns-in_default-clause-fed g c =
    feed_first _ (place_of c.args.reader.now (run_at g.L.Layer.model c.args.heap.now c.args.space.now)) _ c.args.bytes.now _ _ _ _ c.requires.some refl c.requires.opened c.requires.short c.feed.ensures.stepped c.feed.ensures.place

pub returns-in-Goes-clause-fed : goal.returns-in-Goes-clause-fed
returns-in-Goes-clause-fed g c =
    let p = place_of c.args.reader.now (run_at g.L.Layer.model c.args.heap.now c.args.space.now) in
    let q = place_of c.pass_line.new.self (run_at g.L.Layer.model c.perform_line.new.heap c.perform_line.new.space) in
    feed_line _ p q c.args.reader.now c.args.bytes.now c.in-Some.line.now _ _ step.Goes c.in-Some.ensures refl refl c.in-Goes.ensures.stepped
    (λ _. place_behind c.pass_line.new.self _ _ q.run c.pass_line.ensures.number c.pass_line.ensures.before c.pass_line.ensures.begun)

pub returns-in_default-perform_line : goal.returns-in_default-perform_line
returns-in_default-perform_line g c =
    let p = place_of c.args.reader.now (run_at g.L.Layer.model c.args.heap.now c.args.space.now) in
    let q = place_of c.args.reader.now (run_at g.L.Layer.model c.perform_line.new.heap c.perform_line.new.space) in
    record {
      some = omega arith;
      within = begins_within c.args.reader.now c.args.bytes.now c.in-Some.line.now c.in-Some.ensures;
      fed = feed_line _ p q c.args.reader.now c.args.bytes.now c.in-Some.line.now _ _ c.perform_line.result c.in-Some.ensures refl refl c.perform_line.ensures.stepped
          (λ is. absurd (c.in_default-perform_line.not-Goes is));
      held = c.perform_line.ensures.held;
      rules = c.perform_line.ensures.rules;
    }
