use Rattle.std.proofs.Common.{◌∙◌, ap, arith}
use Rattle.expr_reader.specs.declared.token.Kind.TheVariants as kind
use Rattle.expr_reader.proofs.Steps.{number_answers, choice_answers}
use Rattle.expr_reader.proofs.reading.+descent.Goals as goal

pub arguments-returns-in-Word-Chosen : goal.arguments-returns-in-Word-Chosen
arguments-returns-in-Word-Chosen t c =
    choice_answers _ _ _ c.args.most c.args.end c.args.signature c.args.row.now _ c.in-Word-Chosen.choice _ (omega (arith, c.if-most-eq0.false)) (omega (arith, c.in-len1-up.len_at_least)) (c.in-Word-Chosen.is ∙ ap kind.Word (rw c.in-Word-Chosen.is at c.in-Word-Chosen.field-0-is)) c.after_choice-next.ensures c.chosen.ensures

pub arguments-returns-in-Number : goal.arguments-returns-in-Number
arguments-returns-in-Number t c =
    number_answers _ _ _ c.args.most c.args.end c.args.signature c.args.row.now _ c.in-Number.value _ (omega (arith, c.if-most-eq0.false)) (omega (arith, c.in-len1-up.len_at_least)) (cc) c.after_number-next.ensures c.numbered.ensures
