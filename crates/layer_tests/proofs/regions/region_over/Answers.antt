use Rattle.std.proofs.Common.{refl, lit≤, arith}
use Rattle.size_round.proofs.PowerLaws.{powers_pass}
use Rattle.layer_tests.proofs.regions.region_over.Goals as goal

pub new-requires-clause-proper : goal.new-requires-clause-proper
new-requires-clause-proper g c =
    record {
      size_some = c.requires.some;
      size_most = c.requires.most;
      align_some = lit≤ tt;
      align_most = lit≤ tt;
      power = (powers_pass 16).1 (4, refl);
      aligned = c.requires.aligned;
      depth = omega (arith, c.requires.depth);
      few = omega (arith, c.requires.few);
    }
