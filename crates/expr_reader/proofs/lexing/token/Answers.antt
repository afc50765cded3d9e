use Rattle.std.proofs.Common.{sym, ◌∙◌, ap}
use Rattle.expr_reader.specs.declared.token.Kind.TheVariants as kind
use Rattle.expr_reader.proofs.TokenRows.{slice_tail, letter_kind, digit_kind}
use Rattle.std.specs.List.{prefix_len}
use Rattle.std.specs.Char.{is_ascii_digit}
use Rattle.expr_reader.specs.Tokens.{is_word_byte}
use Rattle.expr_reader.proofs.lexing.token.Goals as goal

pub returns-then-is_ascii_lowercase-clause-kind : goal.returns-then-is_ascii_lowercase-clause-kind
returns-then-is_ascii_lowercase-clause-kind c =
    ap kind.Word c.word.ensures ∙ letter_kind c.args.text.now c.word_len-len.result c.requires (sym c.is_ascii_lowercase.ensures.value ∙ c.if-is_ascii_lowercase.true) (c.word_len-len.ensures.len ∙ ap (prefix_len is_word_byte) (slice_tail 1 c.args.text.now))

pub returns-then-is_ascii_digit-clause-kind : goal.returns-then-is_ascii_digit-clause-kind
returns-then-is_ascii_digit-clause-kind c =
    digit_kind c.args.text.now c.digits_len-len.result c.number.result c.requires (sym c.is_ascii_lowercase.ensures.value ∙ c.if-is_ascii_lowercase.false) (sym c.is_ascii_digit.ensures.value ∙ c.if-is_ascii_digit.true) (c.digits_len-len.ensures.len ∙ ap (prefix_len is_ascii_digit) (slice_tail 1 c.args.text.now)) c.number.ensures
