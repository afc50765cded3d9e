use Rattle.play_core.proofs.Running.{last_finish}
use Rattle.play_core.proofs.replaying.finish.Goals as goal

pub returns-in-Goes : goal.returns-in-Goes
returns-in-Goes g c = record {
  finishes = last_finish _ _ _ _ _ _ _ c.finish_report.result c.in-Goes.ensures.rules c.in-Goes.ensures.lasts c.finish_report.ensures;
  held = c.in-Goes.ensures.held;
  rules = c.in-Goes.ensures.rules;
}
