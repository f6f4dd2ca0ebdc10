-- What the answer of `twin` is: for files that are as they must be, and that it is refused only for one that is there and is not, or for inputs
-- that are not alike.
use Rattle.std.proofs.Common.{◌≡◌, ℕ, List, true, Option, Some, None, Ok, Err, Result, refl, ap, subst, sym, ◌∙◌, inl, inr}
use Rattle.outside.specs.Files.{Contents}
use Rattle.command_frame.specs.declared.status.Status.{Status}
use Rattle.command_frame.specs.declared.status.Status.TheVariants as statuses
use Rattle.command_frame.specs.Answer.{Answer, Cause, ◌>>=◌}
use Rattle.command_frame.specs.Status.{can_refuse}
use Rattle.command_words.specs.Ask.{TwinAsk, twin, words_of}
use Rattle.tape_file.specs.Format.{read_of as tapes_read_of}
use Rattle.tape_file.specs.Tapes.{FourTapes}
use Rattle.program_trees.specs.TypedPrograms.{TypedProgramTree}
use Rattle.value_file.specs.declared.inputs.Entry.{Entry}
use Rattle.value_file.specs.Input.{read_of as inputs_read_of}
use Rattle.program_views.specs.Views.{lengths_of}
use Rattle.tape_commands.specs.FirstDifference.{Difference, at_entry, at_word, difference}
use Rattle.tape_commands.proofs.FirstDifferences.{alike_have_none, none_are_alike}
use Rattle.program_commands.specs.Judging.{Finding, FoundAt, its_program}
use Rattle.program_commands.specs.Programs.{program_at}
use Rattle.program_commands.specs.Reading.{bad_input, bad_tape, inputs_at, tape_file_at}
use Rattle.program_commands.specs.Held.{HoldsTyped}
use Rattle.tape_commands.specs.Twin.{by_difference, twin_effect, twin_of}
use Rattle.run_engine.specs.TwinPromises.{AreTaken, HoldsTwin, TwinRefused, for_input, for_program, for_second, for_tape, not_alike}
use Rattle.run_engine.specs.Told.{Outside}
use Rattle.run_engine.specs.Words.{answer_to, question_of}
use Rattle.program_commands.proofs.Accepting.{program_cases, refused_by_program}
use Rattle.program_commands.proofs.Held.{found_of, found_there, no_program, program_there}
use Rattle.program_commands.proofs.Refusals.{ReadRefused, input_status, inputs_refused, not_done, not_missing, refusing, status_in_answer, status_of_cause}
use Rattle.program_commands.proofs.Refusals.{steps, tape_file_refused, tape_status}
use Rattle.run_engine.proofs.Runs.{AnswersAtOnce, HasAnswerOf, command_answers, is_answer}
use Rattle.program_commands.proofs.Held.{read_there}

-- ---- files that are as they must be

abbrev pub twinned_to : TwinAsk → TypedProgramTree → (first second : List Entry) → FourTapes → Answer
twinned_to ask p first second tapes = Ok (twin_effect ask p first second tapes)

abbrev first_difference : TwinAsk → TypedProgramTree → (first second : List Entry) → FourTapes → Option Difference
first_difference ask p first second tapes = difference p first second (lengths_of tapes) ask.budget

-- where the inputs are alike
abbrev twin_if_alike : TwinAsk → TypedProgramTree → (first second : List Entry) → FourTapes → Answer
twin_if_alike ask p first second tapes = by_difference (first_difference ask p first second tapes) >>= λ none. twinned_to ask p first second tapes

twin_there : (ask : TwinAsk) (files : Contents) (p : TypedProgramTree) (first second : List Entry) (tapes : FourTapes)
    (h : HoldsTwin ask files p first second tapes)
    → twin_of (found_of ask.program files p h.program) ask files ≡ twin_if_alike ask p first second tapes
unfolding twin_of
twin_there ask files p first second tapes h =
    rw (program_there ask.program files p h.program h.program.within.list, h.inputs, h.other, h.tapes) refl

alike_so : (ask : TwinAsk) (p : TypedProgramTree) (first second : List Entry) (tapes : FourTapes) → AreTaken ask p first second tapes
    → twin_if_alike ask p first second tapes ≡ twinned_to ask p first second tapes
unfolding by_difference
alike_so ask p first second tapes alike = rw (alike_have_none p (lengths_of tapes) ask.budget first second alike) refl

pub twin_answered : (words : List (List ℕ)) (ask : TwinAsk) (outside : Outside) (p : TypedProgramTree) (first second : List Entry) (tapes : FourTapes)
    → words_of words ≡ Some (twin ask) → HoldsTwin ask outside.files p first second tapes → AreTaken ask p first second tapes
    → AnswersAtOnce words outside (twinned_to ask p first second tapes)
unfolding answer_to question_of
twin_answered words ask outside p first second tapes asks h alike =
    subst (AnswersAtOnce words outside) (twin_there ask outside.files p first second tapes h ∙ alike_so ask p first second tapes alike)
    (is_answer words (twin ask) outside (found_of ask.program outside.files p h.program) asks (found_there ask.program outside.files p h.program))

-- ---- files that are refused, and inputs

-- the answer to what is found has this status
abbrev IsRefusedAs : TwinAsk → Contents → Status → Type 0
IsRefusedAs ask files s = (found : Finding) × FoundAt (its_program ask.program) files found × (status_in_answer (twin_of found ask files) ≡ s)

refused_unlike : (d : Option Difference) (more : Option Difference → Answer) → (d ≡ None → ⊥) → status_in_answer (by_difference d >>= more) ≡ statuses.NotAlike
unfolding by_difference
refused_unlike None more some = absurd (some refl)
refused_unlike (Some (at_entry name)) more some = refl
refused_unlike (Some (at_word place x y)) more some = refl

twin_refused : (ask : TwinAsk) (files : Contents) (s : Status) → TwinRefused ask files s → IsRefusedAs ask files s
unfolding twin_of inputs_at tape_file_at bad_input bad_tape
twin_refused ask files s (for_program refused) =
    let no = no_program ask.program files s refused in
    (no.found, no.at, rw no.none (sym no.status))
twin_refused ask files s (for_input is p h bytes err there bad) = (
  found_of ask.program files p h,
  found_there ask.program files p h,
  rw (program_there ask.program files p h h.within.list, read_there files ask.input bytes there, bad) (sym is),
)
twin_refused ask files s (for_second is p h first inputs bytes err there bad) = (
  found_of ask.program files p h,
  found_there ask.program files p h,
  rw (program_there ask.program files p h h.within.list, inputs, read_there files ask.second bytes there, bad) (sym is),
)
twin_refused ask files s (for_tape is p h first inputs second others bytes place there bad) = (
  found_of ask.program files p h,
  found_there ask.program files p h,
  rw (program_there ask.program files p h h.within.list, inputs, others, read_there files ask.tape bytes there, bad) (sym is),
)
twin_refused ask files s (not_alike is p first second tapes h unlike) = (
  found_of ask.program files p h.program,
  found_there ask.program files p h.program,
  ap status_in_answer (twin_there ask files p first second tapes h)
      ∙ refused_unlike (first_difference ask p first second tapes) (λ none. twinned_to ask p first second tapes)
      (λ none. unlike (none_are_alike p (lengths_of tapes) ask.budget first second none))
      ∙ sym is,
)

pub twin_answered_so : (words : List (List ℕ)) (ask : TwinAsk) (outside : Outside) (s : Status) → words_of words ≡ Some (twin ask)
    → TwinRefused ask outside.files s → HasAnswerOf words outside s
unfolding answer_to question_of
twin_answered_so words ask outside s asks out =
    let (found, at, status) = twin_refused ask outside.files s out in
    (twin_of found ask outside.files, is_answer words (twin ask) outside found asks at, status)

-- ---- and only so

-- inputs are refused as unlike
abbrev cause_status : Result (Option Difference) Cause → Status
cause_status (Ok d) = statuses.NotAlike
cause_status (Err c) = c.status

abbrev IsSome : Option Difference → Type 0
IsSome d = d ≡ None → ⊥

unlike_cases : (d : Option Difference) (c : Cause) → by_difference d ≡ Err c → IsSome d × (status_of_cause c ≡ statuses.NotAlike)
unfolding by_difference
unlike_cases None c is = absurd cc
unlike_cases (Some (at_entry name)) c is = (λ none. cc, ap cause_status (sym is))
unlike_cases (Some (at_word place x y)) c is = (λ none. cc, ap cause_status (sym is))

module _ (found : Finding) (ask : TwinAsk) (files : Contents) (h : FoundAt (its_program ask.program) files found) (r : Answer)
    (refusal : can_refuse (status_in_answer r) ≡ true) where
  by_input : (p : TypedProgramTree) → HoldsTyped ask.program files p → (c : Cause) → r ≡ Err c → ReadRefused files ask.input bad_input inputs_read_of c
      → TwinRefused ask files (status_in_answer r)
  by_input p held c is (inl missed) = not_missing r c ask.input refusal is missed
  by_input p held c is (inr (bytes, err, there, bad, e)) =
      for_input (refusing r c is ∙ ap status_of_cause e ∙ input_status err) p held bytes err there bad

  module _ (p : TypedProgramTree) (held : HoldsTyped ask.program files p) (first : List Entry) (inputs : inputs_at files ask.input ≡ Ok first) where
    by_second : (c : Cause) → r ≡ Err c → ReadRefused files ask.second bad_input inputs_read_of c → TwinRefused ask files (status_in_answer r)
    by_second c is (inl missed) = not_missing r c ask.second refusal is missed
    by_second c is (inr (bytes, err, there, bad, e)) =
        for_second (refusing r c is ∙ ap status_of_cause e ∙ input_status err) p held first inputs bytes err there bad

    module _ (second : List Entry) (others : inputs_at files ask.second ≡ Ok second) where
      by_tape : (c : Cause) → r ≡ Err c → ReadRefused files ask.tape bad_tape tapes_read_of c → TwinRefused ask files (status_in_answer r)
      by_tape c is (inl missed) = not_missing r c ask.tape refusal is missed
      by_tape c is (inr (bytes, place, there, bad, e)) =
          for_tape (refusing r c is ∙ ap status_of_cause e ∙ tape_status place) p held first inputs second others bytes place there bad

      at_difference : (tapes : FourTapes) → tape_file_at files ask.tape ≡ Ok tapes → twin_if_alike ask p first second tapes ≡ r
          → TwinRefused ask files (status_in_answer r)
      at_difference tapes taped is =
          elim (steps (by_difference (first_difference ask p first second tapes)) (λ none. twinned_to ask p first second tapes) r is) [
            | inl (c, e, is_r) ↦
                let unlike = unlike_cases (first_difference ask p first second tapes) c e in
                not_alike (refusing r c is_r ∙ unlike.1) p first second tapes
                (record { program = held; inputs = inputs; other = others; tapes = taped })
                (λ alike. unlike.0 (alike_have_none p (lengths_of tapes) ask.budget first second alike))
            | inr (none, e, done) ↦ not_done r refusal (ap status_in_answer (sym done))
          ]

      at_tape : (tape_file_at files ask.tape >>= twin_if_alike ask p first second) ≡ r → TwinRefused ask files (status_in_answer r)
      at_tape is =
          elim (steps (tape_file_at files ask.tape) (twin_if_alike ask p first second) r is) [
            | inl (c, e, is_r) ↦ by_tape c is_r (tape_file_refused files ask.tape c e)
            | inr (tapes, e, rest) ↦ at_difference tapes e rest
          ]

    abbrev after_second : List Entry → Answer
    after_second second = tape_file_at files ask.tape >>= twin_if_alike ask p first second

    at_second : (inputs_at files ask.second >>= after_second) ≡ r → TwinRefused ask files (status_in_answer r)
    at_second is =
        elim (steps (inputs_at files ask.second) after_second r is) [
          | inl (c, e, is_r) ↦ by_second c is_r (inputs_refused files ask.second c e)
          | inr (second, e, rest) ↦ at_tape second e rest
        ]

  abbrev after_inputs : TypedProgramTree → List Entry → Answer
  after_inputs p first = inputs_at files ask.second >>= λ second. tape_file_at files ask.tape >>= twin_if_alike ask p first second

  at_inputs : (p : TypedProgramTree) → HoldsTyped ask.program files p → (inputs_at files ask.input >>= after_inputs p) ≡ r
      → TwinRefused ask files (status_in_answer r)
  at_inputs p held is =
      elim (steps (inputs_at files ask.input) (after_inputs p) r is) [
        | inl (c, e, is_r) ↦ by_input p held c is_r (inputs_refused files ask.input c e)
        | inr (first, e, rest) ↦ at_second p held first e rest
      ]

  abbrev after_program : TypedProgramTree → Answer
  after_program p = inputs_at files ask.input >>= after_inputs p

  refused_only : twin_of found ask files ≡ r → TwinRefused ask files (status_in_answer r)
  unfolding twin_of
  refused_only is =
      elim (steps (program_at found files ask.program) after_program r is) [
        | inl (c, e, is_r) ↦ for_program (refused_by_program ask.program files r refusal c is_r (program_cases found files ask.program h (Err c) e))
        | inr (p, e, rest) ↦ at_inputs p (program_cases found files ask.program h (Ok p) e) rest
      ]

pub twin_refused_only : (words : List (List ℕ)) (ask : TwinAsk) (outside : Outside) → words_of words ≡ Some (twin ask) → (answer : Answer)
    → AnswersAtOnce words outside answer → can_refuse (status_in_answer answer) ≡ true → TwinRefused ask outside.files (status_in_answer answer)
unfolding answer_to question_of
twin_refused_only words ask outside asks answer a refusal =
    let (found, at, is) = command_answers words (twin ask) outside answer asks a in
    refused_only found ask outside.files at answer refusal is
