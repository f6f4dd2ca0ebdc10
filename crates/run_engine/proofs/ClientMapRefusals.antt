-- What the answer of `client-map` is: for files that are as they must be, and that it is refused only for one that is there and is not.
use Rattle.std.proofs.Common.{◌≡◌, ℕ, List, true, Some, Ok, Err, refl, ap, subst, sym, ◌∙◌, inl, inr}
use Rattle.outside.specs.Files.{Contents}
use Rattle.command_frame.specs.declared.status.Status.{Status}
use Rattle.command_frame.specs.Answer.{Answer, Cause, ◌>>=◌}
use Rattle.command_frame.specs.Status.{can_refuse}
use Rattle.command_words.specs.Ask.{ClientMapAsk, client_map, words_of}
use Rattle.tape_file.specs.Format.{read_of as tapes_read_of}
use Rattle.tape_file.specs.Tapes.{FourTapes}
use Rattle.program_trees.specs.TypedPrograms.{TypedProgramTree}
use Rattle.value_file.specs.declared.inputs.Entry.{Entry}
use Rattle.value_file.specs.Input.{read_of as inputs_read_of}
use Rattle.program_commands.specs.Judging.{Finding, FoundAt, its_program}
use Rattle.client_commands.specs.Map.{client_map_effect, client_map_of}
use Rattle.run_engine.specs.ClientMapPromises.{HoldsClientMap, ClientMapRefused, for_input, for_program, for_tape}
use Rattle.program_commands.specs.Programs.{program_at}
use Rattle.program_commands.specs.Reading.{bad_input, bad_tape, inputs_at, tape_file_at}
use Rattle.program_commands.specs.Held.{HoldsTyped}
use Rattle.run_engine.specs.Told.{Outside}
use Rattle.run_engine.specs.Words.{answer_to, question_of}
use Rattle.program_commands.proofs.Accepting.{program_cases, refused_by_program}
use Rattle.program_commands.proofs.Held.{found_of, found_there, no_program, program_there}
use Rattle.program_commands.proofs.Refusals.{ReadRefused, input_status, inputs_refused, not_done, not_missing, refusing, status_in_answer, status_of_cause}
use Rattle.program_commands.proofs.Refusals.{steps, tape_file_refused, tape_status}
use Rattle.run_engine.proofs.Runs.{AnswersAtOnce, HasAnswerOf, command_answers, is_answer}
use Rattle.program_commands.proofs.Held.{read_there}

-- ---- files that are as they must be

abbrev pub client_mapped_to : ClientMapAsk → TypedProgramTree → List Entry → FourTapes → Answer
client_mapped_to ask p entries tapes = Ok (client_map_effect ask p entries tapes)

client_map_there : (ask : ClientMapAsk) (files : Contents) (p : TypedProgramTree) (entries : List Entry) (tapes : FourTapes) (h : HoldsClientMap ask files p entries tapes)
    → client_map_of (found_of ask.program files p h.program) ask files ≡ client_mapped_to ask p entries tapes
unfolding client_map_of
client_map_there ask files p entries tapes h = rw (program_there ask.program files p h.program h.program.within.list, h.inputs, h.tapes) refl

pub client_map_answered : (words : List (List ℕ)) (ask : ClientMapAsk) (outside : Outside) (p : TypedProgramTree) (entries : List Entry) (tapes : FourTapes)
    → words_of words ≡ Some (client_map ask) → HoldsClientMap ask outside.files p entries tapes → AnswersAtOnce words outside (client_mapped_to ask p entries tapes)
unfolding answer_to question_of
client_map_answered words ask outside p entries tapes asks h =
    subst (AnswersAtOnce words outside) (client_map_there ask outside.files p entries tapes h)
    (is_answer words (client_map ask) outside (found_of ask.program outside.files p h.program) asks (found_there ask.program outside.files p h.program))

-- ---- files that are refused

-- the answer to what is found has this status
abbrev IsRefusedAs : ClientMapAsk → Contents → Status → Type 0
IsRefusedAs ask files s = (found : Finding) × FoundAt (its_program ask.program) files found × (status_in_answer (client_map_of found ask files) ≡ s)

client_map_refused : (ask : ClientMapAsk) (files : Contents) (s : Status) → ClientMapRefused ask files s → IsRefusedAs ask files s
unfolding client_map_of inputs_at tape_file_at bad_input bad_tape
client_map_refused ask files s (for_program refused) =
    let no = no_program ask.program files s refused in
    (no.found, no.at, rw no.none (sym no.status))
client_map_refused ask files s (for_input is p h bytes err there bad) = (
  found_of ask.program files p h,
  found_there ask.program files p h,
  rw (program_there ask.program files p h h.within.list, read_there files ask.input bytes there, bad) (sym is),
)
client_map_refused ask files s (for_tape is p h entries inputs bytes place there bad) = (
  found_of ask.program files p h,
  found_there ask.program files p h,
  rw (program_there ask.program files p h h.within.list, inputs, read_there files ask.tape bytes there, bad) (sym is),
)

pub client_map_answered_so : (words : List (List ℕ)) (ask : ClientMapAsk) (outside : Outside) (s : Status) → words_of words ≡ Some (client_map ask)
    → ClientMapRefused ask outside.files s → HasAnswerOf words outside s
unfolding answer_to question_of
client_map_answered_so words ask outside s asks out =
    let (found, at, status) = client_map_refused ask outside.files s out in
    (client_map_of found ask outside.files, is_answer words (client_map ask) outside found asks at, status)

-- ---- and only so

module _ (found : Finding) (ask : ClientMapAsk) (files : Contents) (h : FoundAt (its_program ask.program) files found) (r : Answer)
    (refusal : can_refuse (status_in_answer r) ≡ true) where
  by_input : (p : TypedProgramTree) → HoldsTyped ask.program files p → (c : Cause) → r ≡ Err c → ReadRefused files ask.input bad_input inputs_read_of c
      → ClientMapRefused ask files (status_in_answer r)
  by_input p held c is (inl missed) = not_missing r c ask.input refusal is missed
  by_input p held c is (inr (bytes, err, there, bad, e)) =
      for_input (refusing r c is ∙ ap status_of_cause e ∙ input_status err) p held bytes err there bad

  module _ (p : TypedProgramTree) (held : HoldsTyped ask.program files p) (entries : List Entry) (inputs : inputs_at files ask.input ≡ Ok entries) where
    by_tape : (c : Cause) → r ≡ Err c → ReadRefused files ask.tape bad_tape tapes_read_of c → ClientMapRefused ask files (status_in_answer r)
    by_tape c is (inl missed) = not_missing r c ask.tape refusal is missed
    by_tape c is (inr (bytes, place, there, bad, e)) =
        for_tape (refusing r c is ∙ ap status_of_cause e ∙ tape_status place) p held entries inputs bytes place there bad

    at_tape : (tape_file_at files ask.tape >>= client_mapped_to ask p entries) ≡ r → ClientMapRefused ask files (status_in_answer r)
    at_tape is =
        elim (steps (tape_file_at files ask.tape) (client_mapped_to ask p entries) r is) [
          | inl (c, e, is_r) ↦ by_tape c is_r (tape_file_refused files ask.tape c e)
          | inr (tapes, e, done) ↦ not_done r refusal (ap status_in_answer (sym done))
        ]

  abbrev after_inputs : TypedProgramTree → List Entry → Answer
  after_inputs p entries = tape_file_at files ask.tape >>= client_mapped_to ask p entries

  at_inputs : (p : TypedProgramTree) → HoldsTyped ask.program files p → (inputs_at files ask.input >>= after_inputs p) ≡ r
      → ClientMapRefused ask files (status_in_answer r)
  at_inputs p held is =
      elim (steps (inputs_at files ask.input) (after_inputs p) r is) [
        | inl (c, e, is_r) ↦ by_input p held c is_r (inputs_refused files ask.input c e)
        | inr (entries, e, rest) ↦ at_tape p held entries e rest
      ]

  abbrev after_program : TypedProgramTree → Answer
  after_program p = inputs_at files ask.input >>= after_inputs p

  refused_only : client_map_of found ask files ≡ r → ClientMapRefused ask files (status_in_answer r)
  unfolding client_map_of
  refused_only is =
      elim (steps (program_at found files ask.program) after_program r is) [
        | inl (c, e, is_r) ↦ for_program (refused_by_program ask.program files r refusal c is_r (program_cases found files ask.program h (Err c) e))
        | inr (p, e, rest) ↦ at_inputs p (program_cases found files ask.program h (Ok p) e) rest
      ]

pub client_map_refused_only : (words : List (List ℕ)) (ask : ClientMapAsk) (outside : Outside) → words_of words ≡ Some (client_map ask) → (answer : Answer)
    → AnswersAtOnce words outside answer → can_refuse (status_in_answer answer) ≡ true → ClientMapRefused ask outside.files (status_in_answer answer)
unfolding answer_to question_of
client_map_refused_only words ask outside asks answer a refusal =
    let (found, at, is) = command_answers words (client_map ask) outside answer asks a in
    refused_only found ask outside.files at answer refusal is
