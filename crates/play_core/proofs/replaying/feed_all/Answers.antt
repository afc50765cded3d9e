use Rattle.std.proofs.Common.{refl, ◌+◌, ◌∙◌, arith}
use Rattle.play_core.proofs.Going.{fed_none, feed_turn, feed_stop, length_left}
use Rattle.play_core.proofs.PutLemmas.{puts_none}
use Rattle.play_core.specs.declared.Step.TheVariants as step
use Rattle.play_core.proofs.replaying.feed_all.Goals as goal

pub loop-at-init : goal.loop-at-init
loop-at-init g c = record { within = omega arith; fed = fed_none _ _ _ c.requires.opened c.requires.short (puts_none _); held = c.requires.held; rules = refl }

pub loop-at-preserved : goal.loop-at-preserved
loop-at-preserved g c = record {
  within = omega (arith, c.feed_next-step.ensures.within, length_left c.args.bytes.now c.loop-at.at);
  fed = feed_turn _ _ _ _ _ c.args.bytes.now c.loop-at.at c.feed_next-step.result.1 _ _ _ _ step.Goes c.loop-at.invariant.rules c.loop-at.invariant.fed c.feed_next-step.ensures.fed c.in-Goes.is;
  held = c.feed_next-step.ensures.held;
  rules = c.feed_next-step.ensures.rules ∙ c.loop-at.invariant.rules;
}

pub returns-in_default : goal.returns-in_default
returns-in_default g c = record {
  fed = feed_stop _ _ _ c.args.bytes.now (c.loop-at.at + c.feed_next-step.result.1) _ _ _ c.in_default.not-Goes
      (feed_turn _ _ _ _ _ c.args.bytes.now c.loop-at.at c.feed_next-step.result.1 _ _ _ _ _ c.loop-at.invariant.rules c.loop-at.invariant.fed c.feed_next-step.ensures.fed refl);
  held = c.feed_next-step.ensures.held;
  rules = c.feed_next-step.ensures.rules ∙ c.loop-at.invariant.rules;
}
