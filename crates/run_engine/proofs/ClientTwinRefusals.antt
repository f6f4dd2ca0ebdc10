-- What the answer of `client-twin` is: for files that are as they must be, and that it is refused only for one that is there and is not, or for inputs
-- that are not alike.
use Rattle.std.proofs.Common.{◌≡◌, ℕ, List, true, Option, Some, None, Ok, Err, Result, refl, ap, subst, sym, ◌∙◌, inl, inr}
use Rattle.outside.specs.Files.{Contents}
use Rattle.command_frame.specs.declared.status.Status.{Status}
use Rattle.command_frame.specs.declared.status.Status.TheVariants as statuses
use Rattle.command_frame.specs.Answer.{Answer, Cause, ◌>>=◌}
use Rattle.command_frame.specs.Status.{can_refuse}
use Rattle.command_words.specs.Ask.{ClientTwinAsk, client_twin, words_of}
use Rattle.tape_file.specs.Format.{read_of as tapes_read_of}
use Rattle.tape_file.specs.Tapes.{FourTapes}
use Rattle.program_trees.specs.TypedPrograms.{TypedProgramTree}
use Rattle.value_file.specs.declared.inputs.Entry.{Entry}
use Rattle.value_file.specs.Input.{read_of as inputs_read_of}
use Rattle.program_views.specs.Views.{lengths_of}
use Rattle.tape_twin.specs.FirstDifference.{at_entry, at_word}
use Rattle.client_commands.specs.Difference.{ClientDifference, seen_by_all, at_element, client_difference}
use Rattle.client_commands.proofs.Differences.{none_differs, none_are_alike}
use Rattle.program_commands.specs.Judging.{Finding, FoundAt, its_program}
use Rattle.program_commands.specs.Programs.{program_at}
use Rattle.program_commands.specs.Reading.{bad_input, bad_tape, inputs_at, tape_file_at}
use Rattle.program_commands.specs.Held.{HoldsTyped}
use Rattle.client_commands.specs.Twin.{by_client_difference, client_twin_effect, client_twin_of}
use Rattle.run_engine.specs.ClientTwinPromises.{AreTakenByClient, HoldsClientTwin, ClientTwinRefused, for_input, for_program, for_second, for_tape, not_alike}
use Rattle.run_engine.specs.Told.{Outside}
use Rattle.run_engine.specs.Words.{answer_to, question_of}
use Rattle.program_commands.proofs.Accepting.{program_cases, refused_by_program}
use Rattle.program_commands.proofs.Held.{found_of, found_there, no_program, program_there}
use Rattle.program_commands.proofs.Refusals.{ReadRefused, input_status, inputs_refused, not_done, not_missing, refusing, status_in_answer, status_of_cause}
use Rattle.program_commands.proofs.Refusals.{steps, tape_file_refused, tape_status}
use Rattle.run_engine.proofs.Runs.{AnswersAtOnce, HasAnswerOf, command_answers, is_answer}
use Rattle.program_commands.proofs.Held.{read_there}

-- ---- files that are as they must be

abbrev pub client_twinned_to : ClientTwinAsk → TypedProgramTree → (first second : List Entry) → FourTapes → Answer
client_twinned_to ask p first second tapes = Ok (client_twin_effect ask p first second tapes)

abbrev client_first_difference : ClientTwinAsk → TypedProgramTree → (first second : List Entry) → FourTapes → Option ClientDifference
client_first_difference ask p first second tapes = client_difference p first second (lengths_of tapes) ask.budget

-- where the inputs are alike
abbrev client_twin_if_alike : ClientTwinAsk → TypedProgramTree → (first second : List Entry) → FourTapes → Answer
client_twin_if_alike ask p first second tapes = by_client_difference (client_first_difference ask p first second tapes) >>= λ none. client_twinned_to ask p first second tapes

client_twin_there : (ask : ClientTwinAsk) (files : Contents) (p : TypedProgramTree) (first second : List Entry) (tapes : FourTapes)
    (h : HoldsClientTwin ask files p first second tapes)
    → client_twin_of (found_of ask.program files p h.program) ask files ≡ client_twin_if_alike ask p first second tapes
unfolding client_twin_of
client_twin_there ask files p first second tapes h =
    rw (program_there ask.program files p h.program h.program.within.list, h.inputs, h.other, h.tapes) refl

alike_so : (ask : ClientTwinAsk) (p : TypedProgramTree) (first second : List Entry) (tapes : FourTapes) → AreTakenByClient ask p first second tapes
    → client_twin_if_alike ask p first second tapes ≡ client_twinned_to ask p first second tapes
unfolding by_client_difference
alike_so ask p first second tapes alike = rw (none_differs p (lengths_of tapes) ask.budget first second alike) refl

pub client_twin_answered : (words : List (List ℕ)) (ask : ClientTwinAsk) (outside : Outside) (p : TypedProgramTree) (first second : List Entry) (tapes : FourTapes)
    → words_of words ≡ Some (client_twin ask) → HoldsClientTwin ask outside.files p first second tapes → AreTakenByClient ask p first second tapes
    → AnswersAtOnce words outside (client_twinned_to ask p first second tapes)
unfolding answer_to question_of
client_twin_answered words ask outside p first second tapes asks h alike =
    subst (AnswersAtOnce words outside) (client_twin_there ask outside.files p first second tapes h ∙ alike_so ask p first second tapes alike)
    (is_answer words (client_twin ask) outside (found_of ask.program outside.files p h.program) asks (found_there ask.program outside.files p h.program))

-- ---- files that are refused, and inputs

-- the answer to what is found has this status
abbrev IsRefusedAs : ClientTwinAsk → Contents → Status → Type 0
IsRefusedAs ask files s = (found : Finding) × FoundAt (its_program ask.program) files found × (status_in_answer (client_twin_of found ask files) ≡ s)

refused_unlike : (d : Option ClientDifference) (more : Option ClientDifference → Answer) → (d ≡ None → ⊥) → status_in_answer (by_client_difference d >>= more) ≡ statuses.NotAlike
unfolding by_client_difference
refused_unlike None more some = absurd (some refl)
refused_unlike (Some (seen_by_all (at_entry name))) more some = refl
refused_unlike (Some (seen_by_all (at_word place x y))) more some = refl
refused_unlike (Some (at_element place x y)) more some = refl

client_twin_refused : (ask : ClientTwinAsk) (files : Contents) (s : Status) → ClientTwinRefused ask files s → IsRefusedAs ask files s
unfolding client_twin_of inputs_at tape_file_at bad_input bad_tape
client_twin_refused ask files s (for_program refused) =
    let no = no_program ask.program files s refused in
    (no.found, no.at, rw no.none (sym no.status))
client_twin_refused ask files s (for_input is p h bytes err there bad) = (
  found_of ask.program files p h,
  found_there ask.program files p h,
  rw (program_there ask.program files p h h.within.list, read_there files ask.input bytes there, bad) (sym is),
)
client_twin_refused ask files s (for_second is p h first inputs bytes err there bad) = (
  found_of ask.program files p h,
  found_there ask.program files p h,
  rw (program_there ask.program files p h h.within.list, inputs, read_there files ask.second bytes there, bad) (sym is),
)
client_twin_refused ask files s (for_tape is p h first inputs second others bytes place there bad) = (
  found_of ask.program files p h,
  found_there ask.program files p h,
  rw (program_there ask.program files p h h.within.list, inputs, others, read_there files ask.tape bytes there, bad) (sym is),
)
client_twin_refused ask files s (not_alike is p first second tapes h unlike) = (
  found_of ask.program files p h.program,
  found_there ask.program files p h.program,
  ap status_in_answer (client_twin_there ask files p first second tapes h)
      ∙ refused_unlike (client_first_difference ask p first second tapes) (λ none. client_twinned_to ask p first second tapes)
      (λ none. unlike (none_are_alike p (lengths_of tapes) ask.budget first second none))
      ∙ sym is,
)

pub client_twin_answered_so : (words : List (List ℕ)) (ask : ClientTwinAsk) (outside : Outside) (s : Status) → words_of words ≡ Some (client_twin ask)
    → ClientTwinRefused ask outside.files s → HasAnswerOf words outside s
unfolding answer_to question_of
client_twin_answered_so words ask outside s asks out =
    let (found, at, status) = client_twin_refused ask outside.files s out in
    (client_twin_of found ask outside.files, is_answer words (client_twin ask) outside found asks at, status)

-- ---- and only so

-- inputs are refused as unlike
abbrev cause_status : Result (Option ClientDifference) Cause → Status
cause_status (Ok d) = statuses.NotAlike
cause_status (Err c) = c.status

abbrev IsSome : Option ClientDifference → Type 0
IsSome d = d ≡ None → ⊥

unlike_cases : (d : Option ClientDifference) (c : Cause) → by_client_difference d ≡ Err c → IsSome d × (status_of_cause c ≡ statuses.NotAlike)
unfolding by_client_difference
unlike_cases None c is = absurd cc
unlike_cases (Some (seen_by_all (at_entry name))) c is = (λ none. cc, ap cause_status (sym is))
unlike_cases (Some (seen_by_all (at_word place x y))) c is = (λ none. cc, ap cause_status (sym is))
unlike_cases (Some (at_element place x y)) c is = (λ none. cc, ap cause_status (sym is))

module _ (found : Finding) (ask : ClientTwinAsk) (files : Contents) (h : FoundAt (its_program ask.program) files found) (r : Answer)
    (refusal : can_refuse (status_in_answer r) ≡ true) where
  by_input : (p : TypedProgramTree) → HoldsTyped ask.program files p → (c : Cause) → r ≡ Err c → ReadRefused files ask.input bad_input inputs_read_of c
      → ClientTwinRefused ask files (status_in_answer r)
  by_input p held c is (inl missed) = not_missing r c ask.input refusal is missed
  by_input p held c is (inr (bytes, err, there, bad, e)) =
      for_input (refusing r c is ∙ ap status_of_cause e ∙ input_status err) p held bytes err there bad

  module _ (p : TypedProgramTree) (held : HoldsTyped ask.program files p) (first : List Entry) (inputs : inputs_at files ask.input ≡ Ok first) where
    by_second : (c : Cause) → r ≡ Err c → ReadRefused files ask.second bad_input inputs_read_of c → ClientTwinRefused ask files (status_in_answer r)
    by_second c is (inl missed) = not_missing r c ask.second refusal is missed
    by_second c is (inr (bytes, err, there, bad, e)) =
        for_second (refusing r c is ∙ ap status_of_cause e ∙ input_status err) p held first inputs bytes err there bad

    module _ (second : List Entry) (others : inputs_at files ask.second ≡ Ok second) where
      by_tape : (c : Cause) → r ≡ Err c → ReadRefused files ask.tape bad_tape tapes_read_of c → ClientTwinRefused ask files (status_in_answer r)
      by_tape c is (inl missed) = not_missing r c ask.tape refusal is missed
      by_tape c is (inr (bytes, place, there, bad, e)) =
          for_tape (refusing r c is ∙ ap status_of_cause e ∙ tape_status place) p held first inputs second others bytes place there bad

      at_difference : (tapes : FourTapes) → tape_file_at files ask.tape ≡ Ok tapes → client_twin_if_alike ask p first second tapes ≡ r
          → ClientTwinRefused ask files (status_in_answer r)
      at_difference tapes taped is =
          elim (steps (by_client_difference (client_first_difference ask p first second tapes)) (λ none. client_twinned_to ask p first second tapes) r is) [
            | inl (c, e, is_r) ↦
                let unlike = unlike_cases (client_first_difference ask p first second tapes) c e in
                not_alike (refusing r c is_r ∙ unlike.1) p first second tapes
                (record { program = held; inputs = inputs; other = others; tapes = taped })
                (λ alike. unlike.0 (none_differs p (lengths_of tapes) ask.budget first second alike))
            | inr (none, e, done) ↦ not_done r refusal (ap status_in_answer (sym done))
          ]

      at_tape : (tape_file_at files ask.tape >>= client_twin_if_alike ask p first second) ≡ r → ClientTwinRefused ask files (status_in_answer r)
      at_tape is =
          elim (steps (tape_file_at files ask.tape) (client_twin_if_alike ask p first second) r is) [
            | inl (c, e, is_r) ↦ by_tape c is_r (tape_file_refused files ask.tape c e)
            | inr (tapes, e, rest) ↦ at_difference tapes e rest
          ]

    abbrev after_second : List Entry → Answer
    after_second second = tape_file_at files ask.tape >>= client_twin_if_alike ask p first second

    at_second : (inputs_at files ask.second >>= after_second) ≡ r → ClientTwinRefused ask files (status_in_answer r)
    at_second is =
        elim (steps (inputs_at files ask.second) after_second r is) [
          | inl (c, e, is_r) ↦ by_second c is_r (inputs_refused files ask.second c e)
          | inr (second, e, rest) ↦ at_tape second e rest
        ]

  abbrev after_inputs : TypedProgramTree → List Entry → Answer
  after_inputs p first = inputs_at files ask.second >>= λ second. tape_file_at files ask.tape >>= client_twin_if_alike ask p first second

  at_inputs : (p : TypedProgramTree) → HoldsTyped ask.program files p → (inputs_at files ask.input >>= after_inputs p) ≡ r
      → ClientTwinRefused ask files (status_in_answer r)
  at_inputs p held is =
      elim (steps (inputs_at files ask.input) (after_inputs p) r is) [
        | inl (c, e, is_r) ↦ by_input p held c is_r (inputs_refused files ask.input c e)
        | inr (first, e, rest) ↦ at_second p held first e rest
      ]

  abbrev after_program : TypedProgramTree → Answer
  after_program p = inputs_at files ask.input >>= after_inputs p

  refused_only : client_twin_of found ask files ≡ r → ClientTwinRefused ask files (status_in_answer r)
  unfolding client_twin_of
  refused_only is =
      elim (steps (program_at found files ask.program) after_program r is) [
        | inl (c, e, is_r) ↦ for_program (refused_by_program ask.program files r refusal c is_r (program_cases found files ask.program h (Err c) e))
        | inr (p, e, rest) ↦ at_inputs p (program_cases found files ask.program h (Ok p) e) rest
      ]

pub client_twin_refused_only : (words : List (List ℕ)) (ask : ClientTwinAsk) (outside : Outside) → words_of words ≡ Some (client_twin ask) → (answer : Answer)
    → AnswersAtOnce words outside answer → can_refuse (status_in_answer answer) ≡ true → ClientTwinRefused ask outside.files (status_in_answer answer)
unfolding answer_to question_of
client_twin_refused_only words ask outside asks answer a refusal =
    let (found, at, is) = command_answers words (client_twin ask) outside answer asks a in
    refused_only found ask outside.files at answer refusal is
