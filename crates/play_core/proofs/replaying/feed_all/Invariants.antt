use Rattle.std.proofs.Common.{◌≡◌, ◌≤◌, ◌-◌, length, take}
use Rattle.play_core.specs.Devices.{writing}
use Rattle.play_core.specs.Ends.{run_at, rules_at, HeldAt, Fed}
use Rattle.play_core.specs.Place.{place_of}
use Rattle.play_core.specs.declared.Step.TheVariants as step
use Rattle.play_core.proofs.replaying.feed_all.Given as goal

abbrev pub invariant-loop-at : goal.invariant-loop-at
invariant-loop-at g l = record {
  within : l.at ≤ length l.bytes;
  fed : Fed (rules_at g.L.Layer.model l.fn.heap) (place_of l.fn.reader (run_at g.L.Layer.model l.fn.heap l.fn.space)) (take l.at l.bytes) (place_of l.reader (run_at g.L.Layer.model l.heap l.space))
      (writing g.K.Sink.holds g.K.Sink.faults l.fn.sink) (writing g.K.Sink.holds g.K.Sink.faults l.sink) step.Goes;
  held : HeldAt g.L.Layer.model l.heap l.space;
  rules : rules_at g.L.Layer.model l.heap ≡ rules_at g.L.Layer.model l.fn.heap;
}

abbrev pub decreases-loop-at : goal.decreases-loop-at
decreases-loop-at g l = length l.bytes - l.at
