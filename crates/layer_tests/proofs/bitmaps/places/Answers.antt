use Rattle.std.proofs.Common.{refl}
use Rattle.size_round.proofs.PowerLaws.{powers_pass}
use Rattle.layer_tests.proofs.bitmaps.places.Goals as goal

pub serve_aligned-requires-clause-power : goal.serve_aligned-requires-clause-power
serve_aligned-requires-clause-power g c = (powers_pass 64).1 (6, refl)
