use Rattle.layer_laws.proofs.StandingLaws.{out-is_held, held-is_own, others-hold_none, paths-answer}
use Rattle.layer_laws.proofs.standing.out_is_held.Goals as goal

pub returns-clause-held : goal.returns-clause-held
returns-clause-held c = out-is_held

pub returns-clause-own : goal.returns-clause-own
returns-clause-own c = held-is_own

pub returns-clause-others : goal.returns-clause-others
returns-clause-others c = others-hold_none

pub returns-clause-paths : goal.returns-clause-paths
returns-clause-paths c = paths-answer
