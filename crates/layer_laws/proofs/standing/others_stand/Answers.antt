use Rattle.layer_laws.proofs.Placement.{others-stand, others-keep_state, others-keep_out, others-keep_bytes, others-keep_clean, others-keep_marked}
use Rattle.layer_laws.proofs.standing.others_stand.Goals as goal

pub returns-clause-stands : goal.returns-clause-stands
returns-clause-stands c = others-stand

pub returns-clause-state : goal.returns-clause-state
returns-clause-state c = others-keep_state

pub returns-clause-out : goal.returns-clause-out
returns-clause-out c = others-keep_out

pub returns-clause-bytes : goal.returns-clause-bytes
returns-clause-bytes c = others-keep_bytes

pub returns-clause-clean : goal.returns-clause-clean
returns-clause-clean c = others-keep_clean

pub returns-clause-marked : goal.returns-clause-marked
returns-clause-marked c = others-keep_marked
