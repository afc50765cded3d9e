use Rattle.std.proofs.Common.{◌≡◌, true, false}
use Rattle.source_sink.proofs.tests.takes.Given as goal

-- a source that is still to be asked isn't finished
abbrev pub invariant-loop-want : goal.invariant-loop-want
invariant-loop-want g l = l.open ≡ true → l.source.finished ≡ false
