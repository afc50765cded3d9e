use Rattle.std.proofs.Common.{◌≤◌, length, arith}
use Rattle.std.proofs.lemmas.Grind.{common_steps}
use Rattle.trace_text.proofs.Octets.{octet_first, hexdigits_first}
use Rattle.trace_text.proofs.values.read_octets.Goals as goal

pub loop-digits-preserved : goal.loop-digits-preserved
loop-digits-preserved c =
    let two : 2 ≤ length c.loop-digits.digits.now = omega arith in
    let all = hexdigits_first c.loop-digits.digits.now two c.loop-digits.invariant.hexdigits in
    let first = octet_first c.loop-digits.digits.now two in
    record {
      room = grind (arith, common_steps);
      hexdigits = grind (arith, common_steps, all);
      so_far = grind (arith, common_steps, first);
    }
