use Rattle.std.proofs.Common.{◌≡◌, length, ◌+◌, ◌-◌}
use Rattle.play_core.specs.Devices.{reading, writing}
use Rattle.play_core.specs.Ends.{run_at, rules_at, HeldAt}
use Rattle.play_core.specs.Place.{place_of}
use Rattle.play_core.proofs.Running.{Going}
use Rattle.play_core.proofs.replaying.replay_to_end.Given as goal

-- some bytes were taken, and led to where the reader is
abbrev pub invariant-taking : goal.invariant-taking
invariant-taking g l = record {
  going : Going (rules_at g.L.Layer.model l.fn.heap) (run_at g.L.Layer.model l.fn.heap l.fn.space)
      (reading g.S.Source.left g.S.Source.faults g.S.Source.finished l.fn.source) (reading g.S.Source.left g.S.Source.faults g.S.Source.finished l.source)
      (writing g.K.Sink.holds g.K.Sink.faults l.fn.sink) (writing g.K.Sink.holds g.K.Sink.faults l.sink) (place_of l.reader (run_at g.L.Layer.model l.heap l.space));
  held : HeldAt g.L.Layer.model l.heap l.space;
  rules : rules_at g.L.Layer.model l.heap ≡ rules_at g.L.Layer.model l.fn.heap;
}

abbrev pub decreases-taking : goal.decreases-taking
decreases-taking g l = 16777217 - (l.reader.before + length l.reader.begun.items)
