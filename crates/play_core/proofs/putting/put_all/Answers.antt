use Rattle.std.proofs.Common.{arith, ap, length, length-drop}
use Rattle.play_core.proofs.PutLemmas.{puts_part}
use Rattle.play_core.proofs.putting.put_all.Goals as goal

pub loop-at-preserved : goal.loop-at-preserved
loop-at-preserved g c = record {
  within = omega (arith, c.in_ok-at.ensures.bound, length-drop c.loop-at.at c.args.text.now, ap length c.from.ensures);
  put = puts_part _ _ _ c.args.text.now c.from.result.now c.loop-at.at c.in_ok-at.field-0 c.from.ensures c.loop-at.invariant.within c.loop-at.invariant.put (record { appended = c.in_ok-at.ensures.appended; counted = c.in_ok-at.ensures.counted });
}
