-- What `upgrade` promises, from its answer.
use Rattle.std.proofs.Common.{◌≡◌, ℕ, List, true, Some, Ok, refl, subst, sym}
use Rattle.command_frame.specs.declared.status.Status.{Status}
use Rattle.command_frame.specs.Moments.{Moment}
use Rattle.command_frame.specs.Answer.{Answer}
use Rattle.command_frame.specs.Status.{can_refuse, is_done}
use Rattle.command_words.specs.Ask.{UpgradeAsk, upgrade, words_of}
use Rattle.bytecode.specs.Raw.{RawCode}
use Rattle.program_commands.specs.Compile.{written_effect}
use Rattle.program_commands.specs.Held.{UpgradeRefused}
use Rattle.program_commands.specs.Upgrade.{old_code_at, upgrade_of}
use Rattle.program_commands.proofs.Judged.{found_nothing}
use Rattle.program_commands.proofs.Refusals.{status_in_answer}
use Rattle.program_commands.proofs.Upgrades.{upgrade_answer, upgrade_refused, upgrade_refused_by}
use Rattle.run_engine.specs.Call.{Call}
use Rattle.run_engine.specs.Commands.{Asks}
use Rattle.run_engine.specs.Promises.{Keeps, UpgradeEffect}
use Rattle.run_engine.specs.Told.{Outside, contents_in, outside_of}
use Rattle.run_engine.specs.Words.{answer_to, question_of}
use Rattle.run_engine.proofs.Promises.{IsEndingAnswer, as_refusal, keeps, told_alone}
use Rattle.run_engine.proofs.Runs.{AnswersAtOnce, HasAnswerOf, command_answers, is_answer}

abbrev done : UpgradeAsk → RawCode → Answer
done ask old = Ok (written_effect ask.code old)

upgrade_answered : (words : List (List ℕ)) (ask : UpgradeAsk) (outside : Outside) (old : RawCode) → words_of words ≡ Some (upgrade ask)
    → old_code_at outside.files ask.old ≡ Ok old → AnswersAtOnce words outside (done ask old)
unfolding answer_to question_of
upgrade_answered words ask outside old asks is =
    let (found, any) = found_nothing outside.files in
    subst (AnswersAtOnce words outside) (upgrade_answer ask outside.files old is) (is_answer words (upgrade ask) outside found asks any)

upgrade_answered_so : (words : List (List ℕ)) (ask : UpgradeAsk) (outside : Outside) (s : Status) → words_of words ≡ Some (upgrade ask)
    → UpgradeRefused ask outside.files s → HasAnswerOf words outside s
unfolding answer_to question_of
upgrade_answered_so words ask outside s asks out =
    let (found, any) = found_nothing outside.files in
    (upgrade_of ask outside.files, is_answer words (upgrade ask) outside found asks any, upgrade_refused ask outside.files s out)

upgrade_refused_only : (words : List (List ℕ)) (ask : UpgradeAsk) (outside : Outside) → words_of words ≡ Some (upgrade ask) → (answer : Answer)
    → AnswersAtOnce words outside answer → can_refuse (status_in_answer answer) ≡ true → UpgradeRefused ask outside.files (status_in_answer answer)
unfolding answer_to question_of
upgrade_refused_only words ask outside asks answer a refusal =
    let (found, at, is) = command_answers words (upgrade ask) outside answer asks a in
    upgrade_refused_by ask outside.files answer refusal is

module _ (words : List (List ℕ)) (m m' : Moment) (s : Status) (call : Call words m m' s) where
  abbrev outside : Outside
  outside = outside_of m.sources m'.sources

  pub upgrade_keeps : (ask : UpgradeAsk) → Asks words m (upgrade ask)
      (Keeps (UpgradeEffect ask (contents_in m)) (UpgradeRefused ask (contents_in m)) is_done m m' s)
  unfolding answer_to
  upgrade_keeps ask asks t =
      keeps words m m' s call (upgrade ask) asks (λ told. refl) (told_alone m.sources t) can_refuse (as_refusal s) refl
      (UpgradeEffect ask (contents_in m)) (UpgradeRefused ask (contents_in m)) is_done
      (λ effect w. subst (IsEndingAnswer words outside) (sym w.2)
      (record { answer = upgrade_answered words ask outside w.0 asks w.1; ends = refl }))
      (λ answer a r u. upgrade_refused_only words ask outside asks answer a r) (λ status refused. upgrade_answered_so words ask outside status asks refused)
