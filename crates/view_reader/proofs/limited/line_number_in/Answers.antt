use Rattle.std.proofs.Common.{sym, ◌∙◌}
use Rattle.view_reader.proofs.Limits.{line_number_some, line_number_large, line_number_none}
use Rattle.view_reader.proofs.limited.line_number_in.Goals as goal

pub returns-in_default : goal.returns-in_default
returns-in_default c = line_number_none c.args.word.now (sym c.in_default.is ∙ c.in_ok-number.ensures)

pub returns-then-number-le4294967295 : goal.returns-then-number-le4294967295
returns-then-number-le4294967295 c =
    line_number_some c.args.word.now c.in-Some.number (sym c.in-Some.is ∙ c.in_ok-number.ensures) c.if-number-le4294967295.true

pub returns-else-number-le4294967295 : goal.returns-else-number-le4294967295
returns-else-number-le4294967295 c =
    line_number_large c.args.word.now c.in-Some.number (sym c.in-Some.is ∙ c.in_ok-number.ensures) c.if-number-le4294967295.false
