use Rattle.std.proofs.Common.{subst}
use Rattle.front_end.specs.Answer.{IsAnswer, IsJust}
use Rattle.front_end.specs.Refusals.{lexer_error, parser_error, type_err}
use Rattle.front_end.proofs.Judgements.{handed_on, unlexed, unlexed_only, has_just, unparsed, unparsed_only, spells_just, untyped, untyped_only, typed_only}
use Rattle.front_end.proofs.Judgements.{typed_so}
use Rattle.front_end.proofs.reading.read_program.Goals as goal

pub returns-in_err-tokens-clause-answer : goal.returns-in_err-tokens-clause-answer
returns-in_err-tokens-clause-answer c =
    let e = handed_on c.from_residual.result (lexer_error c.in_err-tokens.field-0.0) c.from_residual.ensures.1 in
    subst (IsAnswer c.args.text.now) e (unlexed c.args.text.now c.in_err-tokens.field-0.0 c.in_err-tokens.ensures.answer)

pub returns-in_err-tokens-clause-only : goal.returns-in_err-tokens-clause-only
returns-in_err-tokens-clause-only c judged j =
    let e = handed_on c.from_residual.result (lexer_error c.in_err-tokens.field-0.0) c.from_residual.ensures.1 in
    let lexed = c.in_err-tokens.ensures in
    subst (λ r. IsJust r judged) e (unlexed_only c.args.text.now c.in_err-tokens.field-0.0 lexed.only_tokens lexed.only_refusal judged j)

pub returns-in_err-program-clause-answer : goal.returns-in_err-program-clause-answer
returns-in_err-program-clause-answer c =
    let e = handed_on c.from_residual-in_err-program.result (parser_error c.in_err-program.field-0.0) c.from_residual-in_err-program.ensures.1 in
    subst (IsAnswer c.args.text.now) e
    (unparsed c.args.text.now c.in_ok-tokens.tokens c.in_err-program.field-0.0 c.in_ok-tokens.ensures.answer c.in_err-program.ensures.refused)

pub returns-in_err-program-clause-only : goal.returns-in_err-program-clause-only
returns-in_err-program-clause-only c judged j =
    let e = handed_on c.from_residual-in_err-program.result (parser_error c.in_err-program.field-0.0) c.from_residual-in_err-program.ensures.1 in
    let lexed = c.in_ok-tokens.ensures in
    let h = has_just c.args.text.now c.in_ok-tokens.tokens lexed.answer lexed.only_tokens lexed.only_refusal in
    subst (λ r. IsJust r judged) e
    (unparsed_only c.args.text.now c.in_ok-tokens.tokens c.in_err-program.field-0.0 h c.in_err-program.ensures.refused judged j)

pub returns-in_err-check-clause-answer : goal.returns-in_err-check-clause-answer
returns-in_err-check-clause-answer c =
    let e = handed_on c.from_residual-in_err-check.result (type_err c.in_err-check.field-0.0) c.from_residual-in_err-check.ensures.1 in
    let lexed = c.in_ok-tokens.ensures in
    let parsed = c.in_ok-program.ensures in
    let h = has_just c.args.text.now c.in_ok-tokens.tokens lexed.answer lexed.only_tokens lexed.only_refusal in
    let s = spells_just c.args.text.now c.in_ok-tokens.tokens c.in_ok-program.program h parsed.found parsed.only in
    subst (IsAnswer c.args.text.now) e (untyped c.args.text.now _ c.in_err-check.field-0.0 s c.in_err-check.ensures)

pub returns-in_err-check-clause-only : goal.returns-in_err-check-clause-only
returns-in_err-check-clause-only c judged j =
    let e = handed_on c.from_residual-in_err-check.result (type_err c.in_err-check.field-0.0) c.from_residual-in_err-check.ensures.1 in
    let lexed = c.in_ok-tokens.ensures in
    let parsed = c.in_ok-program.ensures in
    let h = has_just c.args.text.now c.in_ok-tokens.tokens lexed.answer lexed.only_tokens lexed.only_refusal in
    let s = spells_just c.args.text.now c.in_ok-tokens.tokens c.in_ok-program.program h parsed.found parsed.only in
    subst (λ r. IsJust r judged) e (untyped_only c.args.text.now _ c.in_err-check.field-0.0 s c.in_err-check.ensures judged j)

pub returns-clause-answer : goal.returns-clause-answer
returns-clause-answer c =
    let lexed = c.in_ok-tokens.ensures in
    let parsed = c.in_ok-program.ensures in
    let h = has_just c.args.text.now c.in_ok-tokens.tokens lexed.answer lexed.only_tokens lexed.only_refusal in
    let s = spells_just c.args.text.now c.in_ok-tokens.tokens c.in_ok-program.program h parsed.found parsed.only in
    typed_so c.args.text.now c.in_ok-program.program s c.in_ok-check.ensures.0

pub returns-clause-only : goal.returns-clause-only
returns-clause-only c judged j =
    let lexed = c.in_ok-tokens.ensures in
    let parsed = c.in_ok-program.ensures in
    let h = has_just c.args.text.now c.in_ok-tokens.tokens lexed.answer lexed.only_tokens lexed.only_refusal in
    let s = spells_just c.args.text.now c.in_ok-tokens.tokens c.in_ok-program.program h parsed.found parsed.only in
    typed_only c.args.text.now c.in_ok-program.program s c.in_ok-check.ensures.0 judged j
