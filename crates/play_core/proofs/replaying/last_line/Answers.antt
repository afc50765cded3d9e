use Rattle.std.proofs.Common.{arith}
use Rattle.std.proofs.lemmas.Bool.Decides.{nat_tests}
use Rattle.play_core.proofs.Running.{last_some}
use Rattle.play_core.proofs.replaying.last_line.Goals as goal

pub returns : goal.returns
returns g c = record {
  lasts = last_some _ _ _ _ _ c.perform_line.result _ c.as_slice.ensures.value c.requires.opened (grind (arith, nat_tests, c.is_empty.ensures, c.if-is_empty.false)) c.requires.short c.args.reader.now.within c.perform_line.ensures.stepped;
  held = c.perform_line.ensures.held;
  rules = c.perform_line.ensures.rules;
}
