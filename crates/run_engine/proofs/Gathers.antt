-- What `gather` promises, from its answer.
use Rattle.std.proofs.Common.{◌≡◌, ℕ, List, true, Some, Ok, refl, subst, sym}
use Rattle.command_frame.specs.declared.status.Status.{Status}
use Rattle.command_frame.specs.Moments.{Moment}
use Rattle.command_frame.specs.Answer.{Answer}
use Rattle.command_frame.specs.Status.{can_refuse}
use Rattle.command_words.specs.Ask.{GatherAsk, gather, words_of}
use Rattle.input_share.specs.ShareFile.{MinerFile}
use Rattle.gather_command.specs.Gathering.{gathered}
use Rattle.gather_command.specs.Gather.{gather_effect, gather_of}
use Rattle.gather_command.specs.Held.{GatherEffect, GatherRefused, HoldsShares}
use Rattle.gather_command.proofs.Refusals.{gather_answer, gather_refused, gather_refused_by}
use Rattle.program_commands.proofs.Judged.{found_nothing}
use Rattle.program_commands.proofs.Refusals.{status_in_answer}
use Rattle.run_engine.specs.Call.{Call}
use Rattle.run_engine.specs.Commands.{Asks}
use Rattle.command_frame.specs.Status.{is_done}
use Rattle.run_engine.specs.Promises.{Keeps}
use Rattle.run_engine.specs.Told.{Outside, contents_in, outside_of}
use Rattle.run_engine.specs.Words.{answer_to, question_of}
use Rattle.run_engine.proofs.Promises.{IsEndingAnswer, as_refusal, keeps, told_alone}
use Rattle.run_engine.proofs.Runs.{AnswersAtOnce, HasAnswerOf, command_answers, is_answer}

abbrev done : GatherAsk → MinerFile → Answer
done ask file = Ok (gather_effect ask.to file)

gather_answered : (words : List (List ℕ)) (ask : GatherAsk) (outside : Outside) (first : MinerFile) (more : List MinerFile) (file : MinerFile)
    → words_of words ≡ Some (gather ask) → HoldsShares ask outside.files first more → gathered first more ≡ Ok file
    → AnswersAtOnce words outside (done ask file)
unfolding answer_to question_of
gather_answered words ask outside first more file asks h is =
    let (found, any) = found_nothing outside.files in
    subst (AnswersAtOnce words outside) (gather_answer ask outside.files first more file h is) (is_answer words (gather ask) outside found asks any)

gather_answered_so : (words : List (List ℕ)) (ask : GatherAsk) (outside : Outside) (s : Status) → words_of words ≡ Some (gather ask)
    → GatherRefused ask outside.files s → HasAnswerOf words outside s
unfolding answer_to question_of
gather_answered_so words ask outside s asks out =
    let (found, any) = found_nothing outside.files in
    (gather_of ask outside.files, is_answer words (gather ask) outside found asks any, gather_refused ask outside.files s out)

gather_refused_only : (words : List (List ℕ)) (ask : GatherAsk) (outside : Outside) → words_of words ≡ Some (gather ask) → (answer : Answer)
    → AnswersAtOnce words outside answer → can_refuse (status_in_answer answer) ≡ true → GatherRefused ask outside.files (status_in_answer answer)
unfolding answer_to question_of
gather_refused_only words ask outside asks answer a refusal =
    let (found, at, is) = command_answers words (gather ask) outside answer asks a in
    gather_refused_by ask outside.files answer refusal is

module _ (words : List (List ℕ)) (m m' : Moment) (s : Status) (call : Call words m m' s) where
  abbrev outside : Outside
  outside = outside_of m.sources m'.sources

  pub gather_keeps : (ask : GatherAsk) → Asks words m (gather ask)
      (Keeps (GatherEffect ask (contents_in m)) (GatherRefused ask (contents_in m)) is_done m m' s)
  unfolding answer_to
  gather_keeps ask asks t =
      keeps words m m' s call (gather ask) asks (λ told. refl) (told_alone m.sources t) can_refuse (as_refusal s) refl
      (GatherEffect ask (contents_in m)) (GatherRefused ask (contents_in m)) is_done
      (λ effect w. subst (IsEndingAnswer words outside) (sym w.5)
      (record { answer = gather_answered words ask outside w.0 w.1 w.2 asks w.3 w.4; ends = refl }))
      (λ answer a r u. gather_refused_only words ask outside asks answer a r) (λ status refused. gather_answered_so words ask outside status asks refused)
