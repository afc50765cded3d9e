use Rattle.std.proofs.Common.{arith}
use Rattle.affix_layer.proofs.Alignments.{power_part-most, trailing-part}
use Rattle.affix_layer.proofs.power_part.Goals as goal

pub returns : goal.returns
returns c =
    let n = c.args.n in
    let q = trailing-part 64 n n c.requires (omega (arith, c.ranges.n.fits)) (omega arith) in
    let most = power_part-most n n c.requires (omega arith) in
    rw q (omega (arith, most, c.ranges.n.fits))
