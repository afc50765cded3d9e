use Rattle.std.proofs.Common.{◌∙◌, ap, sym, Ok}
use Rattle.expr_reader.specs.Descent.{judged}
use Rattle.expr_reader.specs.Nodes.{node_tree}
use Rattle.expr_reader.proofs.Whole.{row_reads, row_size, row_answer, err_answers}
use Rattle.expr_reader.proofs.reading.answer.Goals as goal

pub first_flaw-requires : goal.first_flaw-requires
first_flaw-requires c =
    let e = node_tree c.in_ok-found.found in
    row_size c.args.text.now c.deref-2.result.now e (c.deref-2.ensures.value ∙ c.in_ok-row.ensures) (row_reads c.args.text.now c.deref.result.now e (c.deref.ensures.value ∙ c.in_ok-row.ensures) c.in_ok-found.ensures)

pub expr_of-requires-clause-fits : goal.expr_of-requires-clause-fits
expr_of-requires-clause-fits c = (row_reads c.args.text.now c.deref.result.now (node_tree c.in_ok-found.found) (c.deref.ensures.value ∙ c.in_ok-row.ensures) c.in_ok-found.ensures).fits

pub expr_of-requires-clause-shallow : goal.expr_of-requires-clause-shallow
expr_of-requires-clause-shallow c = (row_reads c.args.text.now c.deref.result.now (node_tree c.in_ok-found.found) (c.deref.ensures.value ∙ c.in_ok-row.ensures) c.in_ok-found.ensures).shallow

pub returns-in-None : goal.returns-in-None
returns-in-None c =
    let e = node_tree c.in_ok-found.found in
    row_answer c.args.text.now c.deref.result.now c.deref-2.result.now e c.in_ok-first_flaw.field-0 (c.deref.ensures.value ∙ c.in_ok-row.ensures) (c.deref-2.ensures.value ∙ c.in_ok-row.ensures) c.in_ok-found.ensures c.in_ok-first_flaw.ensures
    ∙ ap (λ o. judged o e) c.in-None.is ∙ sym (ap Ok c.in_ok-expr_of-in-None.ensures)

pub returns : goal.returns
returns c =
    let e = node_tree c.in_ok-found.found in
    err_answers c.in-Some.flaw _
    (row_answer c.args.text.now c.deref.result.now c.deref-2.result.now e c.in_ok-first_flaw.field-0 (c.deref.ensures.value ∙ c.in_ok-row.ensures) (c.deref-2.ensures.value ∙ c.in_ok-row.ensures) c.in_ok-found.ensures c.in_ok-first_flaw.ensures
    ∙ ap (λ o. judged o e) c.in-Some.is)
