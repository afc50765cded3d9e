use Rattle.play_core.proofs.HandingOn.{good_handed_on, trace_handed_on}
use Rattle.play_core.proofs.replaying.replay.Goals as goal

pub returns-in-Good-clause-ran : goal.returns-in-Good-clause-ran
returns-in-Good-clause-ran g c = good_handed_on _ _ _ _ _ _ _ _ c.hand_on.result c.in-Good.ensures.ran c.hand_on.ensures.hands_on

pub returns-in-Trace-clause-ran : goal.returns-in-Trace-clause-ran
returns-in-Trace-clause-ran g c = trace_handed_on _ _ _ _ _ _ _ _ c.hand_on-in-Trace.result c.in-Trace.ensures.ran c.hand_on-in-Trace.ensures.hands_on
