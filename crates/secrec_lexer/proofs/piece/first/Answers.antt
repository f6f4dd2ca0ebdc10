use Rattle.std.proofs.Common.{sym, ◌∙◌}
use Rattle.secrec_lexer.proofs.Within.{comment_lies, number_lies}
use Rattle.secrec_lexer.proofs.piece.first.Goals as goal

pub returns-then-starts_with-2-clause-within : goal.returns-then-starts_with-2-clause-within
returns-then-starts_with-2-clause-within c =
    comment_lies c.args.bytes.now c.in-Some.byte.now c.in-Some.more.now c.comment.result c.in-Some.ensures.cases.0
    (sym c.starts_with-else-starts_with.ensures.value ∙ c.if-starts_with-2.true) c.comment.ensures

pub returns-then-is_ascii_digit-clause-within : goal.returns-then-is_ascii_digit-clause-within
returns-then-is_ascii_digit-clause-within c =
    number_lies c.args.bytes.now c.name_run.result.now c.in-Some.byte.now c.in-Some.more.now c.number.result c.in-Some.ensures.cases.0
    c.name_run.ensures.run (sym c.is_ascii_digit.ensures.value ∙ c.if-is_ascii_digit.true) c.number.ensures
