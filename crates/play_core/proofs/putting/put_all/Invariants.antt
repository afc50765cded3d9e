use Rattle.std.proofs.Common.{length, ◌-◌, ◌≤◌, take}
use Rattle.play_core.specs.Devices.{writing, PutsAll}
use Rattle.play_core.proofs.putting.put_all.Given as goal

abbrev pub invariant-loop-at : goal.invariant-loop-at
invariant-loop-at g l = record {
  within : l.at ≤ length l.text;
  put : PutsAll (writing g.K.Sink.holds g.K.Sink.faults l.fn.sink) (writing g.K.Sink.holds g.K.Sink.faults l.sink) (take l.at l.text);
}

abbrev pub decreases-loop-at : goal.decreases-loop-at
decreases-loop-at g l = length l.text - l.at
