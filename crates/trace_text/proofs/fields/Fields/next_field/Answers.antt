use Rattle.std.proofs.Common.{ℕ, sym, ap, ◌∙◌, arith}
use Rattle.std.proofs.lemmas.List.{length-drop, length-take}
use Rattle.trace_text.proofs.Lines.{cursor_none, cursor_some}
use Rattle.trace_text.specs.Fields.{Left}
use Rattle.trace_text.specs.Grammar.{behind}
use Rattle.trace_text.specs.declared.LineFault.TheVariants.{BadLine}
use Rattle.trace_text.proofs.fields.Fields.next_field.Goals as goal

pub returns-then-len-eq0-clause-field : goal.returns-then-len-eq0-clause-field
returns-then-len-eq0-clause-field c =
    let n = cursor_none c.self.inside.line.now c.self.inside.position c.blanks_len.result c.word_len-len.result c.blanks_len.ensures.len c.word_len-len.ensures.len c.if-len-eq0.true
    (omega (arith, c.blanks_len.ensures.within, c.self.invariant, length-drop {A = ℕ}, length-take {A = ℕ})) in
    (ap (λ (s : Left). s.fields) (sym c.self.view_is) ∙ n.0, ap BadLine (n.1 ∙ ap (λ (s : Left). s.end) c.self.view_is))

pub returns-then-len-eq0-clause-left : goal.returns-then-len-eq0-clause-left
returns-then-len-eq0-clause-left c =
    let n = cursor_none c.self.inside.line.now c.self.inside.position c.blanks_len.result c.word_len-len.result c.blanks_len.ensures.len c.word_len-len.ensures.len c.if-len-eq0.true
    (omega (arith, c.blanks_len.ensures.within, c.self.invariant, length-drop {A = ℕ}, length-take {A = ℕ})) in
    n.2 ∙ ap behind c.self.view_is

pub returns-clause-field : goal.returns-clause-field
returns-clause-field c =
    let n = cursor_some c.self.inside.line.now c.self.inside.position c.blanks_len.result c.word_len-len.result c.blanks_len.ensures.len c.word_len-len.ensures.len c.if-len-eq0.false
    c.word_len-len.ensures.within in
    ap (λ (s : Left). s.fields) (sym c.self.view_is) ∙ n.0

pub returns-clause-left : goal.returns-clause-left
returns-clause-left c =
    let n = cursor_some c.self.inside.line.now c.self.inside.position c.blanks_len.result c.word_len-len.result c.blanks_len.ensures.len c.word_len-len.ensures.len c.if-len-eq0.false
    c.word_len-len.ensures.within in
    n.1 ∙ ap behind c.self.view_is
