-- What each command promises, from its answer.
use Rattle.std.proofs.Common.{◌≡◌, ◌⊎◌, ℕ, List, Bool, true, false, Some, Ok, refl, ap, subst, sym, ◌∙◌, inl, inr}
use Rattle.std.proofs.lemmas.Bool.{false≢true}
use Rattle.command_frame.specs.declared.status.Status.{Status}
use Rattle.command_frame.specs.Answer.{Answer, Course, Effect, at_once}
use Rattle.command_frame.specs.Moments.{AreSteady, AreTold, Moment, Reach, Sources, files_alone}
use Rattle.command_frame.specs.Status.{can_refuse, is_done, is_end}
use Rattle.command_frame.specs.Whole.{CarriedOut, HasFailed, IsDone}
use Rattle.command_words.specs.Ask.{Ask, CompileAsk, DealAsk, EvalAsk, RunAsk, check, compile, deal, eval, need, run, words_of}
use Rattle.program_commands.specs.Eval.{end_of, eval_text, need_text, report_for}
use Rattle.run_engine.specs.Call.{Call}
use Rattle.run_engine.specs.Commands.{Asks}
use Rattle.run_engine.specs.Promises.{CheckEffect, CompileEffect, DealEffect, EvalEffect, RunEffect, Gives, Keeps, KeepsOf, is_refusal}
use Rattle.program_commands.specs.Held.{DealRefused, EvalRefused, ProgramRefused}
use Rattle.program_commands.specs.Reports.{eval_with}
use Rattle.run_engine.specs.Runs.{RunRefused}
use Rattle.run_engine.specs.Told.{Outside, contents_in, outside_of}
use Rattle.run_engine.specs.Words.{IsAnswer, answer_to, reach_in, reach_of}
use Rattle.run_engine.proofs.Deals.{deal_answered_so, deal_refused_only}
use Rattle.run_engine.proofs.Evals.{eval_answered, eval_answered_so, eval_refused_so, need_answered}
use Rattle.program_commands.proofs.Judged.{found_nothing}
use Rattle.run_engine.proofs.Obeying.{IsAtOnce}
use Rattle.program_commands.proofs.Refusals.{Refuses, end_is, status_in_answer}
use Rattle.run_engine.proofs.RunRefusals.{run_answered, run_answered_so, run_refused_only}
use Rattle.run_engine.proofs.Runs.{AnswersAtOnce, HasAnswerOf, carried_status, course_answers, deal_answered, no_fault_end, no_fault_refusal, reach_by}
use Rattle.run_engine.proofs.Runs.{refused_if}
use Rattle.run_engine.proofs.Texts.{check_answered, check_answered_so, check_refused_so, compile_answered, compile_answered_so, compile_refused_so}
use Rattle.run_engine.proofs.Tops.{no_file, no_memory}

-- the effect is the answer to the words, and ends
pub record IsEndingAnswer (words : List (List ℕ)) (outside : Outside) (effect : Effect) : Type 0 where
  pub answer : AnswersAtOnce words outside (Ok effect)
  pub ends : is_end effect.status ≡ true

-- of a command that decides at once, and reaches no other programs
module _ (words : List (List ℕ)) (m m' : Moment) (s : Status) (call : Call words m m' s)
    (ask : Ask) (asks : words_of words ≡ Some ask) (once : IsAtOnce ask) (told : AreTold (reach_of ask) m.sources) where
  abbrev told_here : Outside
  told_here = outside_of m.sources m'.sources

  all_told : AreTold (reach_in words) m.sources
  all_told = subst (λ (r : Reach). AreTold r m.sources) (sym (reach_by words ask asks)) told

  carried : (answer : Course) → IsAnswer words told_here answer → CarriedOut m m' s answer ⊎ HasFailed (reach_of ask) m m' s
  carried answer a =
      subst (λ (r : Reach). CarriedOut m m' s answer ⊎ HasFailed r m m' s) (reach_by words ask asks) (call.answer_carried_out answer a all_told)

  all_steady : AreSteady (reach_of ask) m → AreSteady (reach_in words) m
  all_steady steady = subst (λ (r : Reach). AreSteady r m) (sym (reach_by words ask asks)) steady

  done : (effect : Effect) → is_end effect.status ≡ true → s ≡ effect.status
      → CarriedOut m m' s (at_once (Ok effect)) ⊎ HasFailed (reach_of ask) m m' s → IsDone m m' effect s
  done effect ends is (inl whole) = record { status = whole.0.status; files = whole.0.files; text = whole.0.text }
  done effect ends is (inr failed) = no_fault_end (reach_of ask) m m' s (ap is_end is ∙ ends) failed

  pub gives : (Wanted : Effect → Type 0) → ((effect : Effect) → Wanted effect → IsEndingAnswer words told_here effect)
      → Gives (reach_of ask) Wanted m m' s
  gives Wanted all effect wanted steady =
      let by = all effect wanted in
      elim (call.complete (at_once (Ok effect)) by.answer (all_steady steady) all_told) [
        | inl is ↦ inl (done effect by.ends is (carried (at_once (Ok effect)) by.answer))
        | inr memory ↦ inr memory
      ]

  -- an answer is at once
  once_so : (answer : Course) → IsAnswer words told_here answer → AnswersAtOnce words told_here answer.answer
  once_so answer a =
      let (found, at, is) = course_answers words ask told_here answer asks a in
      let same : answer ≡ at_once answer.answer = sym is ∙ once _ ∙ ap (λ (c : Course). at_once c.answer) is in
      subst (IsAnswer words told_here) same a

  answered_as : (answer : Course) → is_refusal s ≡ true → (reach_of ask).children ≡ false
      → CarriedOut m m' s answer ⊎ HasFailed (reach_of ask) m m' s → status_in_answer answer.answer ≡ s
  answered_as answer refusal alone (inl whole) = carried_status (reach_of ask) m m' s answer whole
  answered_as answer refusal alone (inr failed) = no_fault_refusal (reach_of ask) m m' s refusal alone failed

  pub keeps : (refuses : Status → Bool) → (refuses s ≡ true → is_refusal s ≡ true) → (reach_of ask).children ≡ false
      → (Wanted : Effect → Type 0) (Refused : Status → Type 0) (ends : Status → Bool)
      → ((effect : Effect) → Wanted effect → IsEndingAnswer words told_here effect)
      → ((answer : Answer) → AnswersAtOnce words told_here answer → refuses (status_in_answer answer) ≡ true
      → ends (status_in_answer answer) ≡ false → Refused (status_in_answer answer))
      → ((status : Status) → Refused status → HasAnswerOf words told_here status) → KeepsOf (reach_of ask) refuses Wanted Refused ends m m' s
  keeps refuses of alone Wanted Refused ends all only so = record {
    gives = gives Wanted all;
    refused_only = λ refusal unended.
        let (answer, a) = call.answered told.files (no_memory s (of refusal)) (no_file s (of refusal)) in
        let same : status_in_answer answer.answer ≡ s = answered_as answer (of refusal) alone (carried answer a) in
        subst Refused same (only answer.answer (once_so answer a) (ap refuses same ∙ refusal) (ap ends same ∙ unended));
    refused_if = λ status refused.
        let (answer, a, is) = so status refused in
        refused_if (reach_of ask) m m' s (at_once answer) status is (carried (at_once answer) a);
  }

-- ---- commands over files alone

pub told_alone : (s : Sources) → s.files.told ≡ true → AreTold files_alone s
told_alone s t = record { files = t; links = λ is. absurd (false≢true is); children = λ is. absurd (false≢true is) }

pub as_refusal : (s : Status) → can_refuse s ≡ true → is_refusal s ≡ true
as_refusal s refuses = rw refuses refl

module _ (words : List (List ℕ)) (m m' : Moment) (s : Status) (call : Call words m m' s) where
  abbrev outside : Outside
  outside = outside_of m.sources m'.sources

  abbrev refuses : (answer : Answer) → can_refuse (status_in_answer answer) ≡ true → is_end (status_in_answer answer) ≡ false
      → Refuses (status_in_answer answer)
  refuses answer refusal unended = record { refusal = refusal; no_end = unended }

  pub check_keeps : (program : List ℕ) → Asks words m (check program)
      (Keeps (CheckEffect program (contents_in m)) (ProgramRefused program (contents_in m)) is_done m m' s)
  unfolding answer_to
  check_keeps program asks t =
      keeps words m m' s call (check program) asks (λ told. refl) (told_alone m.sources t) can_refuse (as_refusal s) refl
      (CheckEffect program (contents_in m)) (ProgramRefused program (contents_in m)) is_done
      (λ effect w. subst (IsEndingAnswer words outside) (sym w.2) (record { answer = check_answered words program outside w.0 asks w.1; ends = refl }))
      (λ answer a r u. check_refused_so words program outside asks answer a r)
      (λ status refused. check_answered_so words program outside status asks refused)

  pub compile_keeps : (ask : CompileAsk) → Asks words m (compile ask)
      (Keeps (CompileEffect ask (contents_in m)) (ProgramRefused ask.program (contents_in m)) is_done m m' s)
  unfolding answer_to
  compile_keeps ask asks t =
      keeps words m m' s call (compile ask) asks (λ told. refl) (told_alone m.sources t) can_refuse (as_refusal s) refl
      (CompileEffect ask (contents_in m)) (ProgramRefused ask.program (contents_in m)) is_done
      (λ effect w. subst (IsEndingAnswer words outside) (sym w.4)
      (record { answer = compile_answered words ask outside w.0 w.1 asks w.2 w.3; ends = refl }))
      (λ answer a r u. compile_refused_so words ask outside asks answer a r)
      (λ status refused. compile_answered_so words ask outside status asks refused)

  pub eval_keeps : (ask : EvalAsk) → Asks words m (eval ask)
      (Keeps (EvalEffect eval_text ask (contents_in m)) (EvalRefused ask (contents_in m)) is_end m m' s)
  unfolding answer_to
  eval_keeps ask asks t =
      keeps words m m' s call (eval ask) asks (λ told. refl) (told_alone m.sources t) can_refuse (as_refusal s) refl
      (EvalEffect eval_text ask (contents_in m)) (EvalRefused ask (contents_in m)) is_end
      (λ effect w. subst (IsEndingAnswer words outside) (sym w.3)
      (record { answer = eval_answered words ask outside w.0 w.1 asks w.2; ends = end_is (end_of (report_for w.0 w.1 ask.budget)).how }))
      (λ answer a r u. eval_refused_so words ask outside (inl asks) answer a (refuses answer r u))
      (λ status refused. eval_answered_so words ask outside status (inl asks) refused)

  pub need_keeps : (ask : EvalAsk) → Asks words m (need ask)
      (Keeps (EvalEffect need_text ask (contents_in m)) (EvalRefused ask (contents_in m)) is_end m m' s)
  unfolding answer_to
  need_keeps ask asks t =
      keeps words m m' s call (need ask) asks (λ told. refl) (told_alone m.sources t) can_refuse (as_refusal s) refl
      (EvalEffect need_text ask (contents_in m)) (EvalRefused ask (contents_in m)) is_end
      (λ effect w. subst (IsEndingAnswer words outside) (sym w.3)
      (record { answer = need_answered words ask outside w.0 w.1 asks w.2; ends = end_is (end_of (report_for w.0 w.1 ask.budget)).how }))
      (λ answer a r u. eval_refused_so words ask outside (inr asks) answer a (refuses answer r u))
      (λ status refused. eval_answered_so words ask outside status (inr asks) refused)

  pub run_keeps : (ask : RunAsk) → Asks words m (run ask)
      (Keeps (RunEffect ask (contents_in m)) (RunRefused ask (contents_in m)) is_end m m' s)
  unfolding answer_to
  run_keeps ask asks t =
      keeps words m m' s call (run ask) asks (λ told. refl) (told_alone m.sources t) can_refuse (as_refusal s) refl
      (RunEffect ask (contents_in m)) (RunRefused ask (contents_in m)) is_end
      (λ effect w. subst (IsEndingAnswer words outside) (sym w.6)
      (record { answer = run_answered words ask outside w.0 w.1 w.2 w.3 asks w.4 w.5; ends = end_is (end_of (eval_with w.0 w.1 w.2 ask.budget)).how }))
      (λ answer a r u. run_refused_only words ask outside asks answer a (refuses answer r u))
      (λ status refused. run_answered_so words ask outside status asks refused)

  pub deal_keeps : (ask : DealAsk) → Asks words m (deal ask)
      (Keeps (DealEffect ask (contents_in m)) (DealRefused ask (contents_in m)) is_done m m' s)
  unfolding answer_to
  deal_keeps ask asks t =
      keeps words m m' s call (deal ask) asks (λ told. refl) (told_alone m.sources t) can_refuse (as_refusal s) refl
      (DealEffect ask (contents_in m)) (DealRefused ask (contents_in m)) is_done
      (λ effect w. subst (IsEndingAnswer words outside) (sym w.4)
      (record { answer = deal_answered words ask w.0 w.1 outside asks w.2 w.3 (found_nothing (contents_in m)); ends = refl }))
      (λ answer a r u. deal_refused_only words ask outside asks answer a r)
      (λ status refused. deal_answered_so words ask outside status asks refused)
