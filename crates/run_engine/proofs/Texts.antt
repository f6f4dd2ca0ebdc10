-- What the answers of `check` and `compile` are, which read a program alone.
use Rattle.std.proofs.Common.{◌≡◌, ℕ, List, true, Some, refl, subst, sym}
use Rattle.command_frame.specs.declared.status.Status.{Status}
use Rattle.command_frame.specs.Answer.{Answer}
use Rattle.command_frame.specs.Status.{can_refuse}
use Rattle.command_words.specs.Ask.{CompileAsk, check, compile, words_of}
use Rattle.reached_instances.specs.Instances.{Instance}
use Rattle.reached_instances.specs.Reached.{IsReachedList}
use Rattle.program_trees.specs.TypedPrograms.{TypedProgramTree}
use Rattle.program_commands.specs.Check.{check_effect, check_of}
use Rattle.program_commands.specs.Compile.{compile_effect, compile_of}
use Rattle.program_commands.specs.Held.{HoldsTyped, ProgramRefused}
use Rattle.run_engine.specs.Told.{Outside}
use Rattle.run_engine.specs.Words.{answer_to, question_of}
use Rattle.program_commands.proofs.Held.{finding, found_of, found_reaching, found_there, no_program, program_there}
use Rattle.program_commands.proofs.Refusals.{status_in_answer}
use Rattle.run_engine.proofs.Runs.{AnswersAtOnce, HasAnswerOf, command_answers, is_answer}
use Rattle.program_commands.proofs.Planned.{done_with}
use Rattle.program_commands.proofs.Texts.{text_refused_only}

-- ---- a program that is as it must be

pub check_answered : (words : List (List ℕ)) (program : List ℕ) (outside : Outside) (p : TypedProgramTree) → words_of words ≡ Some (check program)
    → HoldsTyped program outside.files p → AnswersAtOnce words outside (done_with check_effect)
unfolding answer_to question_of check_of
check_answered words program outside p asks h =
    subst (AnswersAtOnce words outside) (rw (program_there program outside.files p h h.within.list) refl)
    (is_answer words (check program) outside (found_of program outside.files p h) asks (found_there program outside.files p h))

pub compile_answered : (words : List (List ℕ)) (ask : CompileAsk) (outside : Outside) (p : TypedProgramTree) (reached : List Instance)
    → words_of words ≡ Some (compile ask) → HoldsTyped ask.program outside.files p → IsReachedList p reached
    → AnswersAtOnce words outside (done_with (compile_effect ask.code p reached))
unfolding answer_to question_of compile_of
compile_answered words ask outside p reached asks h are =
    subst (AnswersAtOnce words outside) (rw (program_there ask.program outside.files p h reached) refl)
    (is_answer words (compile ask) outside (finding ask.program outside.files p h reached) asks (found_reaching ask.program outside.files p h reached are))

-- ---- a program that is refused

pub check_answered_so : (words : List (List ℕ)) (program : List ℕ) (outside : Outside) (s : Status) → words_of words ≡ Some (check program)
    → ProgramRefused program outside.files s → HasAnswerOf words outside s
unfolding answer_to question_of check_of
check_answered_so words program outside s asks refused =
    let no = no_program program outside.files s refused in
    (check_of no.found program outside.files, is_answer words (check program) outside no.found asks no.at, rw no.none (sym no.status))

pub compile_answered_so : (words : List (List ℕ)) (ask : CompileAsk) (outside : Outside) (s : Status) → words_of words ≡ Some (compile ask)
    → ProgramRefused ask.program outside.files s → HasAnswerOf words outside s
unfolding answer_to question_of compile_of
compile_answered_so words ask outside s asks refused =
    let no = no_program ask.program outside.files s refused in
    (compile_of no.found ask outside.files, is_answer words (compile ask) outside no.found asks no.at, rw no.none (sym no.status))

pub check_refused_so : (words : List (List ℕ)) (program : List ℕ) (outside : Outside) → words_of words ≡ Some (check program) → (answer : Answer)
    → AnswersAtOnce words outside answer → can_refuse (status_in_answer answer) ≡ true → ProgramRefused program outside.files (status_in_answer answer)
unfolding answer_to question_of check_of
check_refused_so words program outside asks answer a why =
    let (found, at, is) = command_answers words (check program) outside answer asks a in
    text_refused_only found program outside.files at (λ p. check_effect) (λ p. refl) answer why is

pub compile_refused_so : (words : List (List ℕ)) (ask : CompileAsk) (outside : Outside) → words_of words ≡ Some (compile ask) → (answer : Answer)
    → AnswersAtOnce words outside answer → can_refuse (status_in_answer answer) ≡ true → ProgramRefused ask.program outside.files (status_in_answer answer)
unfolding answer_to question_of compile_of
compile_refused_so words ask outside asks answer a why =
    let (found, at, is) = command_answers words (compile ask) outside answer asks a in
    text_refused_only found ask.program outside.files at (λ p. compile_effect ask.code p found.reached) (λ p. refl) answer why is
