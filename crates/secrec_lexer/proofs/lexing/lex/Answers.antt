use Rattle.std.proofs.Common.{Err}
use Rattle.secrec_lexer.specs.declared.lex_err.LexErr.TheVariants.{Refused}
use Rattle.secrec_lexer.specs.declared.lex_err.LexFault.TheVariants.{TooLong}
use Rattle.secrec_lexer.proofs.Laws.{decided, is_too_long, one_list, one_refusal, not_both, only_tokens, only_refusal}
use Rattle.secrec_lexer.proofs.lexing.lex.Goals as goal

pub returns-then-text-gt-LONGEST_TEXT-clause-answer : goal.returns-then-text-gt-LONGEST_TEXT-clause-answer
returns-then-text-gt-LONGEST_TEXT-clause-answer c = is_too_long c.args.text.now c.place_at-place.result c.if-text-gt-LONGEST_TEXT.true c.place_at-place.ensures

pub returns-then-text-gt-LONGEST_TEXT-clause-only_tokens : goal.returns-then-text-gt-LONGEST_TEXT-clause-only_tokens
returns-then-text-gt-LONGEST_TEXT-clause-only_tokens c =
    only_tokens c.args.text.now (Err (Refused TooLong c.place_at-place.result))
    (is_too_long c.args.text.now c.place_at-place.result c.if-text-gt-LONGEST_TEXT.true c.place_at-place.ensures)

pub returns-then-text-gt-LONGEST_TEXT-clause-only_refusal : goal.returns-then-text-gt-LONGEST_TEXT-clause-only_refusal
returns-then-text-gt-LONGEST_TEXT-clause-only_refusal c =
    only_refusal c.args.text.now (Err (Refused TooLong c.place_at-place.result))
    (is_too_long c.args.text.now c.place_at-place.result c.if-text-gt-LONGEST_TEXT.true c.place_at-place.ensures)

pub returns-then-text-gt-LONGEST_TEXT-clause-one_list : goal.returns-then-text-gt-LONGEST_TEXT-clause-one_list
returns-then-text-gt-LONGEST_TEXT-clause-one_list c = one_list c.args.text.now

pub returns-then-text-gt-LONGEST_TEXT-clause-one_refusal : goal.returns-then-text-gt-LONGEST_TEXT-clause-one_refusal
returns-then-text-gt-LONGEST_TEXT-clause-one_refusal c = one_refusal c.args.text.now

pub returns-then-text-gt-LONGEST_TEXT-clause-not_both : goal.returns-then-text-gt-LONGEST_TEXT-clause-not_both
returns-then-text-gt-LONGEST_TEXT-clause-not_both c = not_both c.args.text.now

pub returns-clause-only_tokens : goal.returns-clause-only_tokens
returns-clause-only_tokens c = only_tokens c.args.text.now c.cut.result c.cut.ensures

pub returns-clause-only_refusal : goal.returns-clause-only_refusal
returns-clause-only_refusal c = only_refusal c.args.text.now c.cut.result c.cut.ensures

pub returns-clause-one_list : goal.returns-clause-one_list
returns-clause-one_list c = one_list c.args.text.now

pub returns-clause-one_refusal : goal.returns-clause-one_refusal
returns-clause-one_refusal c = one_refusal c.args.text.now

pub returns-clause-not_both : goal.returns-clause-not_both
returns-clause-not_both c = not_both c.args.text.now

pub returns-clause-decided : goal.returns-clause-decided
returns-clause-decided c = decided c.args.text.now

pub returns-then-text-gt-LONGEST_TEXT-clause-decided : goal.returns-then-text-gt-LONGEST_TEXT-clause-decided
returns-then-text-gt-LONGEST_TEXT-clause-decided c = decided c.args.text.now
