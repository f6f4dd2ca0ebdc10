-- What the answers of `eval` and `need` are, for files that are as they must be, and for files that are refused.
use Rattle.std.proofs.Common.{◌≡◌, ℕ, List, Some, Ok, Err, subst, sym, inl, inr}
use Rattle.command_frame.specs.declared.status.Status.{Status}
use Rattle.command_frame.specs.Answer.{Answer}
use Rattle.command_words.specs.Ask.{EvalAsk, eval, need, words_of}
use Rattle.program_trees.specs.TypedPrograms.{TypedProgramTree}
use Rattle.value_file.specs.declared.inputs.Entry.{Entry}
use Rattle.language_model.specs.Reports.{Report}
use Rattle.program_commands.specs.Eval.{evaluation_of, eval_text, need_text, report_effect, report_for}
use Rattle.program_commands.specs.Judging.{Finding}
use Rattle.program_commands.specs.Held.{HoldsEvaluation, Evaluates, EvalRefused}
use Rattle.run_engine.specs.Told.{Outside}
use Rattle.run_engine.specs.Words.{answer_to, question_of}
use Rattle.program_commands.proofs.EvalRefusals.{report_refused_only}
use Rattle.program_commands.proofs.Held.{found_of, found_there}
use Rattle.program_commands.proofs.Refusals.{Refuses, status_in_answer}
use Rattle.run_engine.proofs.Runs.{AnswersAtOnce, HasAnswerOf, command_answers, is_answer}
use Rattle.program_commands.proofs.Evals.{evaluation_reported, no_report, report_there}

-- ---- files that are as they must be

abbrev pub printed : (Report → List ℕ) → Report → Answer
printed text report = Ok (report_effect text report)

pub eval_answered : (words : List (List ℕ)) (ask : EvalAsk) (outside : Outside) (p : TypedProgramTree) (entries : List Entry)
    → words_of words ≡ Some (eval ask) → HoldsEvaluation ask outside.files p entries
    → AnswersAtOnce words outside (printed eval_text (report_for p entries ask.budget))
unfolding answer_to question_of
eval_answered words ask outside p entries asks h =
    let found : Finding = found_of ask.program outside.files p h.program in
    subst (AnswersAtOnce words outside)
    (evaluation_reported eval_text found ask outside.files (Ok (report_for p entries ask.budget)) (report_there ask outside.files p entries h))
    (is_answer words (eval ask) outside found asks (found_there ask.program outside.files p h.program))

pub need_answered : (words : List (List ℕ)) (ask : EvalAsk) (outside : Outside) (p : TypedProgramTree) (entries : List Entry)
    → words_of words ≡ Some (need ask) → HoldsEvaluation ask outside.files p entries
    → AnswersAtOnce words outside (printed need_text (report_for p entries ask.budget))
unfolding answer_to question_of
need_answered words ask outside p entries asks h =
    let found : Finding = found_of ask.program outside.files p h.program in
    subst (AnswersAtOnce words outside)
    (evaluation_reported need_text found ask outside.files (Ok (report_for p entries ask.budget)) (report_there ask outside.files p entries h))
    (is_answer words (need ask) outside found asks (found_there ask.program outside.files p h.program))

-- ---- files that are refused

pub eval_answered_so : (words : List (List ℕ)) (ask : EvalAsk) (outside : Outside) (s : Status) → Evaluates (words_of words) ask
    → EvalRefused ask outside.files s → HasAnswerOf words outside s
unfolding answer_to question_of
eval_answered_so words ask outside s (inl asks) out =
    let (found, c, at, e, is) = no_report ask outside.files s out in
    let none = evaluation_reported eval_text found ask outside.files (Err c) e in
    (evaluation_of eval_text found ask outside.files, is_answer words (eval ask) outside found asks at, rw none (sym is))
eval_answered_so words ask outside s (inr asks) out =
    let (found, c, at, e, is) = no_report ask outside.files s out in
    let none = evaluation_reported need_text found ask outside.files (Err c) e in
    (evaluation_of need_text found ask outside.files, is_answer words (need ask) outside found asks at, rw none (sym is))

pub eval_refused_so : (words : List (List ℕ)) (ask : EvalAsk) (outside : Outside) → Evaluates (words_of words) ask → (answer : Answer)
    → AnswersAtOnce words outside answer
    → Refuses (status_in_answer answer) → EvalRefused ask outside.files (status_in_answer answer)
unfolding answer_to question_of
eval_refused_so words ask outside (inl asks) answer a why =
    let (found, at, is) = command_answers words (eval ask) outside answer asks a in
    report_refused_only found ask outside.files at answer why eval_text is
eval_refused_so words ask outside (inr asks) answer a why =
    let (found, at, is) = command_answers words (need ask) outside answer asks a in
    report_refused_only found ask outside.files at answer why need_text is
