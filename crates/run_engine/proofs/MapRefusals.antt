-- What the answer of `map` is: for files that are as they must be, and that it is refused only for one that is there and is not.
use Rattle.std.proofs.Common.{◌≡◌, ℕ, List, true, Some, Ok, Err, refl, ap, subst, sym, ◌∙◌, inl, inr}
use Rattle.outside.specs.Files.{Contents}
use Rattle.command_frame.specs.declared.status.Status.{Status}
use Rattle.command_frame.specs.Answer.{Answer, Cause, ◌>>=◌}
use Rattle.command_frame.specs.Status.{can_refuse}
use Rattle.command_words.specs.Ask.{MapAsk, map_tape, words_of}
use Rattle.tape_file.specs.Format.{read_of as tapes_read_of}
use Rattle.tape_file.specs.Tapes.{FourTapes}
use Rattle.program_trees.specs.TypedPrograms.{TypedProgramTree}
use Rattle.value_file.specs.declared.inputs.Entry.{Entry}
use Rattle.value_file.specs.Input.{read_of as inputs_read_of}
use Rattle.program_commands.specs.Judging.{Finding, FoundAt, its_program}
use Rattle.tape_commands.specs.Map.{map_effect, map_of}
use Rattle.run_engine.specs.MapPromises.{HoldsMap, MapRefused, for_input, for_program, for_tape}
use Rattle.program_commands.specs.Programs.{program_at}
use Rattle.program_commands.specs.Reading.{bad_input, bad_tape, inputs_at, tape_file_at}
use Rattle.program_commands.specs.Held.{HoldsTyped}
use Rattle.run_engine.specs.Told.{Outside}
use Rattle.run_engine.specs.Words.{answer_to, question_of}
use Rattle.program_commands.proofs.Accepting.{program_cases, refused_by_program}
use Rattle.program_commands.proofs.Held.{found_of, found_there, no_program, program_there}
use Rattle.program_commands.proofs.Refusals.{ReadRefused, input_status, inputs_refused, not_done, not_missing, refusing, status_in_answer, status_of_cause}
use Rattle.program_commands.proofs.Refusals.{steps, tape_file_refused, tape_status}
use Rattle.run_engine.proofs.Runs.{AnswersAtOnce, HasAnswerOf, command_answers, is_answer}
use Rattle.program_commands.proofs.Held.{read_there}

-- ---- files that are as they must be

abbrev pub mapped_to : MapAsk → TypedProgramTree → List Entry → FourTapes → Answer
mapped_to ask p entries tapes = Ok (map_effect ask p entries tapes)

map_there : (ask : MapAsk) (files : Contents) (p : TypedProgramTree) (entries : List Entry) (tapes : FourTapes) (h : HoldsMap ask files p entries tapes)
    → map_of (found_of ask.program files p h.program) ask files ≡ mapped_to ask p entries tapes
unfolding map_of
map_there ask files p entries tapes h = rw (program_there ask.program files p h.program h.program.within.list, h.inputs, h.tapes) refl

pub map_answered : (words : List (List ℕ)) (ask : MapAsk) (outside : Outside) (p : TypedProgramTree) (entries : List Entry) (tapes : FourTapes)
    → words_of words ≡ Some (map_tape ask) → HoldsMap ask outside.files p entries tapes → AnswersAtOnce words outside (mapped_to ask p entries tapes)
unfolding answer_to question_of
map_answered words ask outside p entries tapes asks h =
    subst (AnswersAtOnce words outside) (map_there ask outside.files p entries tapes h)
    (is_answer words (map_tape ask) outside (found_of ask.program outside.files p h.program) asks (found_there ask.program outside.files p h.program))

-- ---- files that are refused

-- the answer to what is found has this status
abbrev IsRefusedAs : MapAsk → Contents → Status → Type 0
IsRefusedAs ask files s = (found : Finding) × FoundAt (its_program ask.program) files found × (status_in_answer (map_of found ask files) ≡ s)

map_refused : (ask : MapAsk) (files : Contents) (s : Status) → MapRefused ask files s → IsRefusedAs ask files s
unfolding map_of inputs_at tape_file_at bad_input bad_tape
map_refused ask files s (for_program refused) =
    let no = no_program ask.program files s refused in
    (no.found, no.at, rw no.none (sym no.status))
map_refused ask files s (for_input is p h bytes err there bad) = (
  found_of ask.program files p h,
  found_there ask.program files p h,
  rw (program_there ask.program files p h h.within.list, read_there files ask.input bytes there, bad) (sym is),
)
map_refused ask files s (for_tape is p h entries inputs bytes place there bad) = (
  found_of ask.program files p h,
  found_there ask.program files p h,
  rw (program_there ask.program files p h h.within.list, inputs, read_there files ask.tape bytes there, bad) (sym is),
)

pub map_answered_so : (words : List (List ℕ)) (ask : MapAsk) (outside : Outside) (s : Status) → words_of words ≡ Some (map_tape ask)
    → MapRefused ask outside.files s → HasAnswerOf words outside s
unfolding answer_to question_of
map_answered_so words ask outside s asks out =
    let (found, at, status) = map_refused ask outside.files s out in
    (map_of found ask outside.files, is_answer words (map_tape ask) outside found asks at, status)

-- ---- and only so

module _ (found : Finding) (ask : MapAsk) (files : Contents) (h : FoundAt (its_program ask.program) files found) (r : Answer)
    (refusal : can_refuse (status_in_answer r) ≡ true) where
  by_input : (p : TypedProgramTree) → HoldsTyped ask.program files p → (c : Cause) → r ≡ Err c → ReadRefused files ask.input bad_input inputs_read_of c
      → MapRefused ask files (status_in_answer r)
  by_input p held c is (inl missed) = not_missing r c ask.input refusal is missed
  by_input p held c is (inr (bytes, err, there, bad, e)) =
      for_input (refusing r c is ∙ ap status_of_cause e ∙ input_status err) p held bytes err there bad

  module _ (p : TypedProgramTree) (held : HoldsTyped ask.program files p) (entries : List Entry) (inputs : inputs_at files ask.input ≡ Ok entries) where
    by_tape : (c : Cause) → r ≡ Err c → ReadRefused files ask.tape bad_tape tapes_read_of c → MapRefused ask files (status_in_answer r)
    by_tape c is (inl missed) = not_missing r c ask.tape refusal is missed
    by_tape c is (inr (bytes, place, there, bad, e)) =
        for_tape (refusing r c is ∙ ap status_of_cause e ∙ tape_status place) p held entries inputs bytes place there bad

    at_tape : (tape_file_at files ask.tape >>= mapped_to ask p entries) ≡ r → MapRefused ask files (status_in_answer r)
    at_tape is =
        elim (steps (tape_file_at files ask.tape) (mapped_to ask p entries) r is) [
          | inl (c, e, is_r) ↦ by_tape c is_r (tape_file_refused files ask.tape c e)
          | inr (tapes, e, done) ↦ not_done r refusal (ap status_in_answer (sym done))
        ]

  abbrev after_inputs : TypedProgramTree → List Entry → Answer
  after_inputs p entries = tape_file_at files ask.tape >>= mapped_to ask p entries

  at_inputs : (p : TypedProgramTree) → HoldsTyped ask.program files p → (inputs_at files ask.input >>= after_inputs p) ≡ r
      → MapRefused ask files (status_in_answer r)
  at_inputs p held is =
      elim (steps (inputs_at files ask.input) (after_inputs p) r is) [
        | inl (c, e, is_r) ↦ by_input p held c is_r (inputs_refused files ask.input c e)
        | inr (entries, e, rest) ↦ at_tape p held entries e rest
      ]

  abbrev after_program : TypedProgramTree → Answer
  after_program p = inputs_at files ask.input >>= after_inputs p

  refused_only : map_of found ask files ≡ r → MapRefused ask files (status_in_answer r)
  unfolding map_of
  refused_only is =
      elim (steps (program_at found files ask.program) after_program r is) [
        | inl (c, e, is_r) ↦ for_program (refused_by_program ask.program files r refusal c is_r (program_cases found files ask.program h (Err c) e))
        | inr (p, e, rest) ↦ at_inputs p (program_cases found files ask.program h (Ok p) e) rest
      ]

pub map_refused_only : (words : List (List ℕ)) (ask : MapAsk) (outside : Outside) → words_of words ≡ Some (map_tape ask) → (answer : Answer)
    → AnswersAtOnce words outside answer → can_refuse (status_in_answer answer) ≡ true → MapRefused ask outside.files (status_in_answer answer)
unfolding answer_to question_of
map_refused_only words ask outside asks answer a refusal =
    let (found, at, is) = command_answers words (map_tape ask) outside answer asks a in
    refused_only found ask outside.files at answer refusal is
