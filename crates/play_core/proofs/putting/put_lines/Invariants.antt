use Rattle.std.proofs.Common.{map, drop}
use Rattle.play_core.specs.Devices.{writing}
use Rattle.play_core.proofs.ReportLemmas.{PutSoFar}
use Rattle.play_core.proofs.putting.put_lines.Given as goal

abbrev pub invariant-loop-line : goal.invariant-loop-line
invariant-loop-line g l =
    PutSoFar (writing g.K.Sink.holds g.K.Sink.faults l.fn.sink) (writing g.K.Sink.holds g.K.Sink.faults l.sink) (map (λ line. line.bytes) l.lines) (map (λ line. line.bytes) (drop l.line-index l.lines))
