use Rattle.std.proofs.Common.{length}
use Rattle.expr_reader.proofs.flaws.+broken.Given as goal

abbrev pub decreases-broken : goal.decreases-broken
decreases-broken l = length l.allowed.now
