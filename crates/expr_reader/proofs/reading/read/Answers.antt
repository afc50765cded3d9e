use Rattle.std.proofs.Common.{subst}
use Rattle.std.proofs.lemmas.Result.{IfOk-weaker}
use Rattle.expr_reader.specs.Trees.{tree_of}
use Rattle.expr_reader.specs.Answers.{IsAccepted}
use Rattle.expr_reader.specs.Buildable.{IsBuildable}
use Rattle.expr_reader.specs.Descent.{Answers, answer_to}
use Rattle.expr_reader.proofs.Flawless.{accepted-buildable}
use Rattle.expr_reader.proofs.Whole.{read_sound, read_accepts, read_refuses}
use Rattle.expr_reader.proofs.reading.read.Goals as goal
use Rattle.expr_reader.proofs.reading.read.Goals.{After-answer}

answered : (c : After-answer) → Answers tree_of c.answer.result (answer_to c.args.text.now)
answered c = subst (λ bytes. Answers tree_of c.answer.result (answer_to bytes)) c.as_bytes.ensures.value c.answer.ensures

pub returns-clause-sound : goal.returns-clause-sound
returns-clause-sound c = (read_sound c.args.text.now c.answer.result (answered (goal.at.returns-clause-sound c).After-answer)).0

pub returns-clause-buildable : goal.returns-clause-buildable
returns-clause-buildable c =
    let text = c.args.text.now in
    IfOk-weaker c.answer.result (λ e. IsAccepted text (tree_of e)) (λ e. IsBuildable (tree_of e)) (λ e. accepted-buildable text (tree_of e))
    (read_sound text c.answer.result (answered (goal.at.returns-clause-buildable c).After-answer)).0

pub returns-clause-complete : goal.returns-clause-complete
returns-clause-complete c = read_accepts c.args.text.now c.answer.result (answered (goal.at.returns-clause-complete c).After-answer)

pub returns-clause-fault : goal.returns-clause-fault
returns-clause-fault c = (read_sound c.args.text.now c.answer.result (answered (goal.at.returns-clause-fault c).After-answer)).1

pub returns-clause-told : goal.returns-clause-told
returns-clause-told c = read_refuses c.args.text.now c.answer.result (answered (goal.at.returns-clause-told c).After-answer)
