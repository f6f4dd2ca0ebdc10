-- What the answer of `simulate` is: for files that are as they must be, and that it is refused only for one that is there and is not, for
-- opened words that don't suffice, or for a schedule that can't be followed to the end.
use Rattle.std.proofs.Common.{◌≡◌, ℕ, List, length, true, Some, Ok, Err, Result, refl, ap, subst, sym, ◌∙◌, inl, inr}
use Rattle.outside.specs.Files.{Contents}
use Rattle.command_frame.specs.declared.status.Status.{Status}
use Rattle.command_frame.specs.declared.status.Status.TheVariants as statuses
use Rattle.command_frame.specs.Answer.{Answer, Cause, ◌>>=◌}
use Rattle.command_frame.specs.Status.{can_refuse}
use Rattle.command_words.specs.Ask.{SimulateAsk, scheduled, simulate, words_of}
use Rattle.sc_text.specs.declared.end.Ending.{Ending}
use Rattle.protocol_model.specs.Network.{Delivery}
use Rattle.schedule_file.specs.Reading.{links_of}
use Rattle.tape_file.specs.Format.{read_of as tapes_read_of}
use Rattle.tape_file.specs.Tapes.{FourTapes}
use Rattle.program_trees.specs.TypedPrograms.{TypedProgramTree}
use Rattle.value_file.specs.declared.public.PublicEntry.{PublicEntry}
use Rattle.value_file.specs.PublicFile.{read_public_of}
use Rattle.view_reader.specs.Opened.{opened_of}
use Rattle.language_model.specs.Effects.{Ended, Short, RunStop}
use Rattle.blind_evaluation.specs.Courses.{IsEnded}
use Rattle.program_commands.specs.Judging.{Finding, FoundAt, its_program}
use Rattle.program_commands.specs.Programs.{program_at}
use Rattle.program_commands.specs.Reading.{bad_input, bad_opened, bad_schedule, bad_tape, delivery_at, opened_at, public_at, schedule_file_at, tape_file_at}
use Rattle.program_commands.specs.Schedules.{by_net}
use Rattle.program_commands.specs.Held.{HoldsTyped}
use Rattle.tape_commands.specs.Simulate.{by_told, net_simulated, simulate_of, stop_told}
use Rattle.run_engine.specs.SimulatePromises.{HoldsSimulation, IsSimulated, SimulateRefused, for_opened, for_program}
use Rattle.run_engine.specs.SimulatePromises.{for_public, for_schedule, for_tape, net_refuses, told_too_little}
use Rattle.run_engine.specs.Told.{Outside}
use Rattle.run_engine.specs.Words.{answer_to, question_of}
use Rattle.program_commands.proofs.Accepting.{program_cases, refused_by_program}
use Rattle.program_commands.proofs.Held.{found_of, found_there, no_program, program_there}
use Rattle.program_commands.proofs.Refusals.{ReadRefused, input_status, not_done, not_missing, opened_refused, opened_status, order_refused, public_refused}
use Rattle.program_commands.proofs.Refusals.{refusing, schedule_status, status_in_answer, status_of_cause, steps, tape_file_refused, tape_status}
use Rattle.run_engine.proofs.RunRefusals.{net_cases, refused_by_net}
use Rattle.run_engine.proofs.Runs.{AnswersAtOnce, HasAnswerOf, command_answers, is_answer}
use Rattle.program_commands.proofs.Held.{read_there}
use Rattle.tape_commands.proofs.SimulatePlanned.{by_the_net, by_the_words, enough, short_told, simulated_to, taken_so}

-- ---- files that are as they must be

simulate_there : (ask : SimulateAsk) (files : Contents) (p : TypedProgramTree) (part : List PublicEntry) (opened : List ℕ) (tapes : FourTapes)
    (delivery : Delivery) (h : HoldsSimulation ask files p part opened tapes delivery)
    → simulate_of (found_of ask.program files p h.program) ask files ≡ by_the_words ask p part opened tapes delivery
unfolding simulate_of
simulate_there ask files p part opened tapes delivery h =
    rw (program_there ask.program files p h.program h.program.within.list, h.public, h.opened, h.tapes, h.order) refl

pub simulate_answered : (words : List (List ℕ)) (ask : SimulateAsk) (outside : Outside) (p : TypedProgramTree) (part : List PublicEntry)
    (opened : List ℕ) (tapes : FourTapes) (delivery : Delivery) → words_of words ≡ Some (simulate ask)
    → HoldsSimulation ask outside.files p part opened tapes delivery → IsSimulated ask p part opened tapes delivery
    → AnswersAtOnce words outside (simulated_to ask p part opened tapes delivery)
unfolding answer_to question_of
simulate_answered words ask outside p part opened tapes delivery asks h is =
    subst (AnswersAtOnce words outside)
    (simulate_there ask outside.files p part opened tapes delivery h ∙ enough ask p part opened tapes delivery is.suffice
    ∙ taken_so ask p part opened tapes delivery is.taken)
    (is_answer words (simulate ask) outside (found_of ask.program outside.files p h.program) asks (found_there ask.program outside.files p h.program))

-- ---- files that are refused, opened words and schedules

-- the answer to what is found has this status
abbrev IsRefusedAs : SimulateAsk → Contents → Status → Type 0
IsRefusedAs ask files s = (found : Finding) × FoundAt (its_program ask.program) files found × (status_in_answer (simulate_of found ask files) ≡ s)

simulate_refused : (ask : SimulateAsk) (files : Contents) (s : Status) → SimulateRefused ask files s → IsRefusedAs ask files s
unfolding simulate_of public_at opened_at tape_file_at delivery_at schedule_file_at bad_input bad_opened bad_tape bad_schedule
simulate_refused ask files s (for_program refused) =
    let no = no_program ask.program files s refused in
    (no.found, no.at, rw no.none (sym no.status))
simulate_refused ask files s (for_public is p h bytes err there bad) = (
  found_of ask.program files p h,
  found_there ask.program files p h,
  rw (program_there ask.program files p h h.within.list, read_there files ask.public bytes there, bad) (sym is),
)
simulate_refused ask files s (for_opened is p h part public bytes line there bad) = (
  found_of ask.program files p h,
  found_there ask.program files p h,
  rw (program_there ask.program files p h h.within.list, public, read_there files ask.opened bytes there, bad) (sym is),
)
simulate_refused ask files s (for_tape is p h part public opened words bytes place there bad) = (
  found_of ask.program files p h,
  found_there ask.program files p h,
  rw (program_there ask.program files p h h.within.list, public, words, read_there files ask.sim bytes there, bad) (sym is),
)
simulate_refused ask files s (for_schedule is p h part public opened words tapes taped path bytes line order there bad) = (
  found_of ask.program files p h,
  found_there ask.program files p h,
  rw (program_there ask.program files p h h.within.list, public, words, taped, order, read_there files path bytes there, bad) (sym is),
)
simulate_refused ask files s (told_too_little is p part opened tapes delivery h short) = (
  found_of ask.program files p h.program,
  found_there ask.program files p h.program,
  ap status_in_answer (simulate_there ask files p part opened tapes delivery h
      ∙ short_told (length opened) (stop_told ask p part opened tapes) (by_the_net ask p part opened tapes delivery) short)
      ∙ sym is,
)
simulate_refused ask files s (net_refuses is p part opened tapes delivery h suffice refused) = (
  found_of ask.program files p h.program,
  found_there ask.program files p h.program,
  ap status_in_answer (simulate_there ask files p part opened tapes delivery h ∙ enough ask p part opened tapes delivery suffice)
      ∙ refused_by_net (net_simulated ask p part opened tapes delivery) (λ taken. simulated_to ask p part opened tapes delivery) refused
      ∙ sym is,
)

pub simulate_answered_so : (words : List (List ℕ)) (ask : SimulateAsk) (outside : Outside) (s : Status) → words_of words ≡ Some (simulate ask)
    → SimulateRefused ask outside.files s → HasAnswerOf words outside s
unfolding answer_to question_of
simulate_answered_so words ask outside s asks out =
    let (found, at, status) = simulate_refused ask outside.files s out in
    (simulate_of found ask outside.files, is_answer words (simulate ask) outside found asks at, status)

-- ---- and only so

-- words are refused as too few
abbrev cause_status : Result Ending Cause → Status
cause_status (Ok ending) = statuses.OpenedShort
cause_status (Err c) = c.status

short_cases : (have : ℕ) (s : RunStop) (c : Cause) → by_told have s ≡ Err c → (s ≡ Short) × (status_of_cause c ≡ statuses.OpenedShort)
unfolding by_told
short_cases have (Ended ending) c is = absurd cc
short_cases have Short c is = (refl, ap cause_status (sym is))

enough_cases : (have : ℕ) (s : RunStop) (ending : Ending) → by_told have s ≡ Ok ending → IsEnded s
unfolding by_told
enough_cases have (Ended other) ending is = tt
enough_cases have Short ending is = absurd cc

module _ (found : Finding) (ask : SimulateAsk) (files : Contents) (h : FoundAt (its_program ask.program) files found) (r : Answer)
    (refusal : can_refuse (status_in_answer r) ≡ true) where
  abbrev IsRefused : Type 0
  IsRefused = SimulateRefused ask files (status_in_answer r)

  by_public : (p : TypedProgramTree) → HoldsTyped ask.program files p → (c : Cause) → r ≡ Err c
      → ReadRefused files ask.public bad_input read_public_of c → IsRefused
  by_public p held c is (inl missed) = not_missing r c ask.public refusal is missed
  by_public p held c is (inr (bytes, err, there, bad, e)) =
      for_public (refusing r c is ∙ ap status_of_cause e ∙ input_status err) p held bytes err there bad

  module _ (p : TypedProgramTree) (held : HoldsTyped ask.program files p) (part : List PublicEntry) (public : public_at files ask.public ≡ Ok part) where
    by_opened : (c : Cause) → r ≡ Err c → ReadRefused files ask.opened bad_opened opened_of c → IsRefused
    by_opened c is (inl missed) = not_missing r c ask.opened refusal is missed
    by_opened c is (inr (bytes, line, there, bad, e)) =
        for_opened (refusing r c is ∙ ap status_of_cause e ∙ opened_status line) p held part public bytes line there bad

    module _ (opened : List ℕ) (words : opened_at files ask.opened ≡ Ok opened) where
      by_tape : (c : Cause) → r ≡ Err c → ReadRefused files ask.sim bad_tape tapes_read_of c → IsRefused
      by_tape c is (inl missed) = not_missing r c ask.sim refusal is missed
      by_tape c is (inr (bytes, place, there, bad, e)) =
          for_tape (refusing r c is ∙ ap status_of_cause e ∙ tape_status place) p held part public opened words bytes place there bad

      module _ (tapes : FourTapes) (taped : tape_file_at files ask.sim ≡ Ok tapes) where
        by_schedule : (c : Cause) → r ≡ Err c → (path : List ℕ) → ask.order ≡ scheduled path → ReadRefused files path bad_schedule links_of c → IsRefused
        by_schedule c is path order (inl missed) = not_missing r c path refusal is missed
        by_schedule c is path order (inr (bytes, line, there, bad, e)) =
            for_schedule (refusing r c is ∙ ap status_of_cause e ∙ schedule_status line) p held part public opened words tapes taped path bytes line order
            there bad

        module _ (delivery : Delivery) (order : delivery_at files ask.order ≡ Ok delivery) where
          abbrev all_held : HoldsSimulation ask files p part opened tapes delivery
          all_held = record { program = held; public = public; opened = words; tapes = taped; order = order }

          at_net : IsEnded (stop_told ask p part opened tapes) → by_the_net ask p part opened tapes delivery ≡ r → IsRefused
          at_net suffice is =
              elim (steps (by_net (net_simulated ask p part opened tapes delivery)) (λ taken. simulated_to ask p part opened tapes delivery) r is) [
                | inl (c, e, is_r) ↦
                    let refused = net_cases (net_simulated ask p part opened tapes delivery) c e in
                    net_refuses (refusing r c is_r ∙ refused.1) p part opened tapes delivery all_held suffice refused.0
                | inr (taken, e, done) ↦ not_done r refusal (ap status_in_answer (sym done))
              ]

          at_words : by_the_words ask p part opened tapes delivery ≡ r → IsRefused
          at_words is =
              elim (steps (by_told (length opened) (stop_told ask p part opened tapes)) (λ ending. by_the_net ask p part opened tapes delivery) r is) [
                | inl (c, e, is_r) ↦
                    let short = short_cases (length opened) (stop_told ask p part opened tapes) c e in
                    told_too_little (refusing r c is_r ∙ short.1) p part opened tapes delivery all_held short.0
                | inr (ending, e, rest) ↦ at_net (enough_cases (length opened) (stop_told ask p part opened tapes) ending e) rest
              ]

        at_order : (delivery_at files ask.order >>= by_the_words ask p part opened tapes) ≡ r → IsRefused
        at_order is =
            elim (steps (delivery_at files ask.order) (by_the_words ask p part opened tapes) r is) [
              | inl (c, e, is_r) ↦ let (path, order, refused) = order_refused files ask.order c e in by_schedule c is_r path order refused
              | inr (delivery, e, rest) ↦ at_words delivery e rest
            ]

      abbrev after_tapes : FourTapes → Answer
      after_tapes tapes = delivery_at files ask.order >>= by_the_words ask p part opened tapes

      at_tapes : (tape_file_at files ask.sim >>= after_tapes) ≡ r → IsRefused
      at_tapes is =
          elim (steps (tape_file_at files ask.sim) after_tapes r is) [
            | inl (c, e, is_r) ↦ by_tape c is_r (tape_file_refused files ask.sim c e)
            | inr (tapes, e, rest) ↦ at_order tapes e rest
          ]

    abbrev after_opened : List ℕ → Answer
    after_opened opened = tape_file_at files ask.sim >>= λ tapes. delivery_at files ask.order >>= by_the_words ask p part opened tapes

    at_opened : (opened_at files ask.opened >>= after_opened) ≡ r → IsRefused
    at_opened is =
        elim (steps (opened_at files ask.opened) after_opened r is) [
          | inl (c, e, is_r) ↦ by_opened c is_r (opened_refused files ask.opened c e)
          | inr (opened, e, rest) ↦ at_tapes opened e rest
        ]

  abbrev after_public : TypedProgramTree → List PublicEntry → Answer
  after_public p part =
      opened_at files ask.opened
      >>= λ opened. tape_file_at files ask.sim >>= λ tapes. delivery_at files ask.order >>= by_the_words ask p part opened tapes

  at_public : (p : TypedProgramTree) → HoldsTyped ask.program files p → (public_at files ask.public >>= after_public p) ≡ r → IsRefused
  at_public p held is =
      elim (steps (public_at files ask.public) (after_public p) r is) [
        | inl (c, e, is_r) ↦ by_public p held c is_r (public_refused files ask.public c e)
        | inr (part, e, rest) ↦ at_opened p held part e rest
      ]

  abbrev after_program : TypedProgramTree → Answer
  after_program p = public_at files ask.public >>= after_public p

  refused_only : simulate_of found ask files ≡ r → IsRefused
  unfolding simulate_of
  refused_only is =
      elim (steps (program_at found files ask.program) after_program r is) [
        | inl (c, e, is_r) ↦ for_program (refused_by_program ask.program files r refusal c is_r (program_cases found files ask.program h (Err c) e))
        | inr (p, e, rest) ↦ at_public p (program_cases found files ask.program h (Ok p) e) rest
      ]

pub simulate_refused_only : (words : List (List ℕ)) (ask : SimulateAsk) (outside : Outside) → words_of words ≡ Some (simulate ask) → (answer : Answer)
    → AnswersAtOnce words outside answer → can_refuse (status_in_answer answer) ≡ true → SimulateRefused ask outside.files (status_in_answer answer)
unfolding answer_to question_of
simulate_refused_only words ask outside asks answer a refusal =
    let (found, at, is) = command_answers words (simulate ask) outside answer asks a in
    refused_only found ask outside.files at answer refusal is
