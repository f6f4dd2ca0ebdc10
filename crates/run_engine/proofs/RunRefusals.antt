-- What the answer of `run` is: for files that are as they must be, and that it is refused only for one that is there and is not.
use Rattle.std.proofs.Common.{◌≡◌, ℕ, List, Some, Ok, Err, Result, refl, ap, subst, sym, ◌∙◌, inl, inr}
use Rattle.outside.specs.Files.{Contents}
use Rattle.command_frame.specs.declared.status.Status.{Status}
use Rattle.command_frame.specs.declared.status.Status.TheVariants as statuses
use Rattle.command_frame.specs.Answer.{Answer, Cause, ◌>>=◌}
use Rattle.command_words.specs.Ask.{RunAsk, file, run, scheduled, words_of}
use Rattle.protocol_model.specs.Network.{Accepted, Answer as NetAnswer, Delivery, EmptyLink, Stalled}
use Rattle.schedule_file.specs.Reading.{links_of}
use Rattle.tape_file.specs.Format.{read_of as tapes_read_of}
use Rattle.tape_file.specs.Tapes.{FourTapes}
use Rattle.program_trees.specs.TypedPrograms.{TypedProgramTree}
use Rattle.value_file.specs.declared.inputs.Entry.{Entry}
use Rattle.value_file.specs.Input.{read_of as inputs_read_of}
use Rattle.program_commands.specs.Eval.{end_of}
use Rattle.program_commands.specs.Judging.{Finding, FoundAt, its_program}
use Rattle.program_commands.specs.Programs.{program_at}
use Rattle.program_commands.specs.Reading.{bad_input, bad_schedule, bad_tape, delivery_at, inputs_at, schedule_file_at, tape_file_at, tapes_at}
use Rattle.run_engine.specs.Headline.{refused_line}
use Rattle.miner_commands.specs.Run.{run_of, run_told}
use Rattle.program_commands.specs.Schedules.{by_net, refused_with}
use Rattle.run_engine.specs.Runs.{HoldsRun, IsNotTaken, RunRefused, net_for, not_taken}
use Rattle.program_commands.specs.Held.{HoldsTyped}
use Rattle.program_commands.specs.Reports.{eval_with}
use Rattle.run_engine.specs.Runs.{bad_program, bad_input as input_refused, bad_schedule as schedule_refused, bad_tape as tape_refused}
use Rattle.run_engine.specs.Told.{Outside}
use Rattle.run_engine.specs.Words.{answer_to, question_of}
use Rattle.program_commands.proofs.Held.{found_of, found_there, no_program, program_there}
use Rattle.program_commands.proofs.Accepting.{program_cases, refused_by_program}
use Rattle.program_commands.proofs.Refusals.{Refuses, ReadRefused, input_status, inputs_refused, no_ending, not_missing, order_refused, refusing}
use Rattle.program_commands.proofs.Refusals.{schedule_status, status_in_answer, status_of_cause, steps, tape_status, tapes_refused}
use Rattle.run_engine.proofs.Runs.{AnswersAtOnce, HasAnswerOf, command_answers, is_answer}
use Rattle.program_commands.proofs.Held.{read_there}

-- ---- files that are as they must be

abbrev pub ran : RunAsk → TypedProgramTree → List Entry → FourTapes → Delivery → Answer
ran ask p entries tapes delivery = Ok (run_told ask p entries tapes delivery)

-- where the net takes the delivery
abbrev run_under : RunAsk → TypedProgramTree → List Entry → FourTapes → Delivery → Answer
run_under ask p entries tapes delivery = by_net (net_for ask p entries tapes delivery) >>= λ taken. ran ask p entries tapes delivery

run_there : (ask : RunAsk) (files : Contents) (p : TypedProgramTree) (entries : List Entry) (tapes : FourTapes) (delivery : Delivery)
    (h : HoldsRun ask files p entries tapes delivery) → run_of (found_of ask.program files p h.program) ask files ≡ run_under ask p entries tapes delivery
unfolding run_of
run_there ask files p entries tapes delivery h =
    rw (program_there ask.program files p h.program h.program.within.list, h.inputs, h.tapes, h.order) refl

taken_so : (ask : RunAsk) (p : TypedProgramTree) (entries : List Entry) (tapes : FourTapes) (delivery : Delivery)
    → net_for ask p entries tapes delivery ≡ Accepted → run_under ask p entries tapes delivery ≡ ran ask p entries tapes delivery
unfolding by_net
taken_so ask p entries tapes delivery accepted = rw accepted refl

pub run_answered : (words : List (List ℕ)) (ask : RunAsk) (outside : Outside) (p : TypedProgramTree) (entries : List Entry) (tapes : FourTapes)
    (delivery : Delivery) → words_of words ≡ Some (run ask) → HoldsRun ask outside.files p entries tapes delivery
    → net_for ask p entries tapes delivery ≡ Accepted → AnswersAtOnce words outside (ran ask p entries tapes delivery)
unfolding answer_to question_of
run_answered words ask outside p entries tapes delivery asks h accepted =
    subst (AnswersAtOnce words outside) (run_there ask outside.files p entries tapes delivery h ∙ taken_so ask p entries tapes delivery accepted)
    (is_answer words (run ask) outside (found_of ask.program outside.files p h.program) asks (found_there ask.program outside.files p h.program))

-- ---- files that are refused, and schedules

-- the answer to what is found has this status
abbrev IsRefusedAs : RunAsk → Contents → Status → Type 0
IsRefusedAs ask files s = (found : Finding) × FoundAt (its_program ask.program) files found × (status_in_answer (run_of found ask files) ≡ s)

pub refused_by_net : (answer : NetAnswer) (more : NetAnswer → Answer) → IsNotTaken answer → status_in_answer (by_net answer >>= more) ≡ statuses.Schedule
unfolding by_net
refused_by_net Accepted more refused = absurd refused
refused_by_net (EmptyLink entry link sent) more refused = refl
refused_by_net (Stalled miner link) more refused = refl

refused_so : (answer : NetAnswer) (more : NetAnswer → Answer) → IsNotTaken answer → by_net answer >>= more ≡ Err (refused_with (refused_line answer))
unfolding by_net
refused_so Accepted more refused = absurd refused
refused_so (EmptyLink entry link sent) more refused = refl
refused_so (Stalled miner link) more refused = refl

pub run_refused_by_net : (words : List (List ℕ)) (ask : RunAsk) (outside : Outside) (p : TypedProgramTree) (entries : List Entry) (tapes : FourTapes)
    (delivery : Delivery) → words_of words ≡ Some (run ask) → HoldsRun ask outside.files p entries tapes delivery
    → IsNotTaken (net_for ask p entries tapes delivery) → AnswersAtOnce words outside (Err (refused_with (refused_line (net_for ask p entries tapes delivery))))
unfolding answer_to question_of
run_refused_by_net words ask outside p entries tapes delivery asks h refused =
    subst (AnswersAtOnce words outside)
    (run_there ask outside.files p entries tapes delivery h
    ∙ refused_so (net_for ask p entries tapes delivery) (λ taken. ran ask p entries tapes delivery) refused)
    (is_answer words (run ask) outside (found_of ask.program outside.files p h.program) asks (found_there ask.program outside.files p h.program))

run_refused : (ask : RunAsk) (files : Contents) (s : Status) → RunRefused ask files s → IsRefusedAs ask files s
unfolding run_of inputs_at tapes_at tape_file_at delivery_at schedule_file_at bad_input bad_tape bad_schedule
run_refused ask files s (bad_program refused) =
    let no = no_program ask.program files s refused in
    (no.found, no.at, rw no.none (sym no.status))
run_refused ask files s (input_refused is p h bytes err there bad) = (
  found_of ask.program files p h,
  found_there ask.program files p h,
  rw (program_there ask.program files p h h.within.list, read_there files ask.input bytes there, bad) (sym is),
)
run_refused ask files s (tape_refused is p h entries inputs path bytes place source there bad) = (
  found_of ask.program files p h,
  found_there ask.program files p h,
  rw (program_there ask.program files p h h.within.list, inputs, source, read_there files path bytes there, bad) (sym is),
)
run_refused ask files s (schedule_refused is p h entries inputs tapes taped path bytes line order there bad) = (
  found_of ask.program files p h,
  found_there ask.program files p h,
  rw (program_there ask.program files p h h.within.list, inputs, taped, order, read_there files path bytes there, bad) (sym is),
)
run_refused ask files s (not_taken is p entries tapes delivery h refused) = (
  found_of ask.program files p h.program,
  found_there ask.program files p h.program,
  ap status_in_answer (run_there ask files p entries tapes delivery h)
      ∙ refused_by_net (net_for ask p entries tapes delivery) (λ taken. ran ask p entries tapes delivery) refused
      ∙ sym is,
)

pub run_answered_so : (words : List (List ℕ)) (ask : RunAsk) (outside : Outside) (s : Status) → words_of words ≡ Some (run ask)
    → RunRefused ask outside.files s → HasAnswerOf words outside s
unfolding answer_to question_of
run_answered_so words ask outside s asks out =
    let (found, at, status) = run_refused ask outside.files s out in
    (run_of found ask outside.files, is_answer words (run ask) outside found asks at, status)

-- ---- and only so

-- the net refuses a schedule as one
abbrev cause_status : Result NetAnswer Cause → Status
cause_status (Ok answer) = statuses.Schedule
cause_status (Err c) = c.status

pub net_cases : (answer : NetAnswer) (c : Cause) → by_net answer ≡ Err c → IsNotTaken answer × (status_of_cause c ≡ statuses.Schedule)
unfolding by_net
net_cases Accepted c is = absurd cc
net_cases (EmptyLink entry link sent) c is = (tt, ap cause_status (sym is))
net_cases (Stalled miner link) c is = (tt, ap cause_status (sym is))

module _ (found : Finding) (ask : RunAsk) (files : Contents) (h : FoundAt (its_program ask.program) files found) (r : Answer)
    (why : Refuses (status_in_answer r)) where
  by_input : (p : TypedProgramTree) → HoldsTyped ask.program files p → (c : Cause) → r ≡ Err c → ReadRefused files ask.input bad_input inputs_read_of c
      → RunRefused ask files (status_in_answer r)
  by_input p held c is (inl missed) = not_missing r c ask.input why.refusal is missed
  by_input p held c is (inr (bytes, err, there, bad, e)) =
      input_refused (refusing r c is ∙ ap status_of_cause e ∙ input_status err) p held bytes err there bad

  module _ (p : TypedProgramTree) (held : HoldsTyped ask.program files p) (entries : List Entry) (inputs : inputs_at files ask.input ≡ Ok entries) where
    by_tape : (c : Cause) → r ≡ Err c → (path : List ℕ) → ask.source ≡ file path → ReadRefused files path bad_tape tapes_read_of c
        → RunRefused ask files (status_in_answer r)
    by_tape c is path source (inl missed) = not_missing r c path why.refusal is missed
    by_tape c is path source (inr (bytes, place, there, bad, e)) =
        tape_refused (refusing r c is ∙ ap status_of_cause e ∙ tape_status place) p held entries inputs path bytes place source there bad

    module _ (tapes : FourTapes) (taped : tapes_at files ask.source ≡ Ok tapes) where
      by_schedule : (c : Cause) → r ≡ Err c → (path : List ℕ) → ask.order ≡ scheduled path → ReadRefused files path bad_schedule links_of c
          → RunRefused ask files (status_in_answer r)
      by_schedule c is path order (inl missed) = not_missing r c path why.refusal is missed
      by_schedule c is path order (inr (bytes, line, there, bad, e)) =
          schedule_refused (refusing r c is ∙ ap status_of_cause e ∙ schedule_status line) p held entries inputs tapes taped path bytes line order there bad

      at_net : (delivery : Delivery) → delivery_at files ask.order ≡ Ok delivery → run_under ask p entries tapes delivery ≡ r
          → RunRefused ask files (status_in_answer r)
      at_net delivery order is =
          elim (steps (by_net (net_for ask p entries tapes delivery)) (λ taken. ran ask p entries tapes delivery) r is) [
            | inl (c, e, is_r) ↦
                let refused = net_cases (net_for ask p entries tapes delivery) c e in
                not_taken (refusing r c is_r ∙ refused.1) p entries tapes delivery
                (record { program = held; inputs = inputs; tapes = taped; order = order }) refused.0
            | inr (taken, e, done) ↦
                no_ending (status_in_answer r) (end_of (eval_with p entries tapes ask.budget)).how why (ap status_in_answer (sym done))
          ]

      at_order : (delivery_at files ask.order >>= run_under ask p entries tapes) ≡ r → RunRefused ask files (status_in_answer r)
      at_order is =
          elim (steps (delivery_at files ask.order) (run_under ask p entries tapes) r is) [
            | inl (c, e, is_r) ↦ let (path, order, refused) = order_refused files ask.order c e in by_schedule c is_r path order refused
            | inr (delivery, e, rest) ↦ at_net delivery e rest
          ]

    abbrev after_tapes : FourTapes → Answer
    after_tapes tapes = delivery_at files ask.order >>= run_under ask p entries tapes

    at_tapes : (tapes_at files ask.source >>= after_tapes) ≡ r → RunRefused ask files (status_in_answer r)
    at_tapes is =
        elim (steps (tapes_at files ask.source) after_tapes r is) [
          | inl (c, e, is_r) ↦ let (path, source, refused) = tapes_refused files ask.source c e in by_tape c is_r path source refused
          | inr (tapes, e, rest) ↦ at_order tapes e rest
        ]

  abbrev after_inputs : TypedProgramTree → List Entry → Answer
  after_inputs p entries = tapes_at files ask.source >>= λ tapes. delivery_at files ask.order >>= run_under ask p entries tapes

  at_inputs : (p : TypedProgramTree) → HoldsTyped ask.program files p → (inputs_at files ask.input >>= after_inputs p) ≡ r
      → RunRefused ask files (status_in_answer r)
  at_inputs p held is =
      elim (steps (inputs_at files ask.input) (after_inputs p) r is) [
        | inl (c, e, is_r) ↦ by_input p held c is_r (inputs_refused files ask.input c e)
        | inr (entries, e, rest) ↦ at_tapes p held entries e rest
      ]

  abbrev after_program : TypedProgramTree → Answer
  after_program p = inputs_at files ask.input >>= after_inputs p

  refused_only : run_of found ask files ≡ r → RunRefused ask files (status_in_answer r)
  unfolding run_of
  refused_only is =
      elim (steps (program_at found files ask.program) after_program r is) [
        | inl (c, e, is_r) ↦ bad_program (refused_by_program ask.program files r why.refusal c is_r (program_cases found files ask.program h (Err c) e))
        | inr (p, e, rest) ↦ at_inputs p (program_cases found files ask.program h (Ok p) e) rest
      ]

pub run_refused_only : (words : List (List ℕ)) (ask : RunAsk) (outside : Outside) → words_of words ≡ Some (run ask) → (answer : Answer)
    → AnswersAtOnce words outside answer → Refuses (status_in_answer answer) → RunRefused ask outside.files (status_in_answer answer)
unfolding answer_to question_of
run_refused_only words ask outside asks answer a why =
    let (found, at, is) = command_answers words (run ask) outside answer asks a in
    refused_only found ask outside.files at answer why is
