-- What the answer of `client-simulate` is: for files that are as they must be, and that it is refused only for one that is there and is not, or
-- for words that don't suffice.
use Rattle.std.proofs.Common.{◌≡◌, ℕ, List, length, true, Option, None, Some, Ok, Err, Result, refl, ap, subst, sym, ◌∙◌, inl, inr, ◌⊎◌}
use Rattle.outside.specs.Files.{Contents}
use Rattle.command_frame.specs.declared.status.Status.{Status}
use Rattle.command_frame.specs.declared.status.Status.TheVariants as statuses
use Rattle.command_frame.specs.Answer.{Answer, Cause, ◌>>=◌}
use Rattle.command_frame.specs.Status.{can_refuse}
use Rattle.command_words.specs.Ask.{ClientSimulateAsk, client_simulate, words_of}
use Rattle.sc_text.specs.declared.event.Event.{Event}
use Rattle.tape_file.specs.Format.{read_of as tapes_read_of}
use Rattle.tape_file.specs.Tapes.{FourTapes}
use Rattle.program_trees.specs.TypedPrograms.{TypedProgramTree}
use Rattle.value_file.specs.declared.public.PublicEntry.{PublicEntry}
use Rattle.value_file.specs.PublicFile.{read_public_of}
use Rattle.view_reader.specs.Opened.{opened_of}
use Rattle.view_reader.specs.Published.{published_in}
use Rattle.language_model.specs.Effects.{Ended, Short, RunStop}
use Rattle.blind_evaluation.specs.Courses.{IsEnded}
use Rattle.program_commands.specs.Judging.{Finding, FoundAt, its_program}
use Rattle.program_commands.specs.Programs.{program_at}
use Rattle.program_commands.specs.Reading.{bad_input, bad_opened, bad_tape, opened_at, public_at, published_at, tape_file_at}
use Rattle.program_commands.specs.Held.{HoldsTyped}
use Rattle.client_view.specs.Views.{told_events}
use Rattle.client_commands.specs.Simulate.{by_shortage, client_simulate_effect, client_simulate_of, client_view_simulated, run_told, shortage_told}
use Rattle.run_engine.specs.ClientSimulatePromises.{HoldsClientSimulation, IsClientSimulated, OpensTooMuch, HandsTooMuch, ClientSimulateRefused, for_opened}
use Rattle.run_engine.specs.ClientSimulatePromises.{for_program, for_public, for_published, for_tape, handed_too_little, told_too_little}
use Rattle.run_engine.specs.Told.{Outside}
use Rattle.run_engine.specs.Words.{answer_to, question_of}
use Rattle.program_commands.proofs.Accepting.{program_cases, refused_by_program}
use Rattle.program_commands.proofs.Held.{found_of, found_there, no_program, program_there, read_there}
use Rattle.program_commands.proofs.Refusals.{ReadRefused, input_status, not_done, not_missing, opened_refused, opened_status, published_refused, public_refused}
use Rattle.program_commands.proofs.Refusals.{refusing, status_in_answer, status_of_cause, steps, tape_file_refused, tape_status}
use Rattle.run_engine.proofs.Runs.{AnswersAtOnce, HasAnswerOf, command_answers, is_answer}

-- ---- files that are as they must be

module _ (ask : ClientSimulateAsk) (p : TypedProgramTree) (part : List PublicEntry) (opened published : List ℕ) (tapes : FourTapes) where
  abbrev pub client_simulated_to : Answer
  client_simulated_to = Ok (client_simulate_effect ask (client_view_simulated ask p part opened tapes published))

  -- by what the words come to
  abbrev pub by_words_told : Answer
  by_words_told = shortage_told ask p part opened tapes published >>= λ told. client_simulated_to

  abbrev of_stop : Option (List Event) → RunStop → Answer
  of_stop told stop = by_shortage (length opened) (length published) told stop >>= λ events. client_simulated_to

  enough_told : (told : Option (List Event)) (events : List Event) (stop : RunStop) → told ≡ Some events → IsEnded stop
      → of_stop told stop ≡ client_simulated_to
  unfolding by_shortage
  enough_told told events (Ended ending) is ended = ap (λ (o : Option (List Event)). of_stop o (Ended ending)) is
  enough_told told events Short is ended = absurd ended

  pub enough : IsClientSimulated ask p part opened published tapes → by_words_told ≡ client_simulated_to
  enough is = enough_told (told_events (run_told ask p part opened tapes).events published) is.events (run_told ask p part opened tapes).stop is.told is.suffice

  short_status : (told : Option (List Event)) (events : List Event) (stop : RunStop) → told ≡ Some events → stop ≡ Short
      → status_in_answer (of_stop told stop) ≡ statuses.OpenedShort
  unfolding by_shortage
  short_status told events stop is short = rw (is, short) refl

  none_status : (told : Option (List Event)) (stop : RunStop) → told ≡ None → status_in_answer (of_stop told stop) ≡ statuses.OpenedShort
  unfolding by_shortage
  none_status told stop is = rw is refl

  opens_status : OpensTooMuch ask p part opened published tapes → status_in_answer by_words_told ≡ statuses.OpenedShort
  opens_status h =
      short_status (told_events (run_told ask p part opened tapes).events published) h.events (run_told ask p part opened tapes).stop h.told h.short

  hands_status : HandsTooMuch ask p part opened published tapes → status_in_answer by_words_told ≡ statuses.OpenedShort
  hands_status h = none_status (told_events (run_told ask p part opened tapes).events published) (run_told ask p part opened tapes).stop h

client_simulate_there : (ask : ClientSimulateAsk) (files : Contents) (p : TypedProgramTree) (part : List PublicEntry) (opened published : List ℕ)
    (tapes : FourTapes) (h : HoldsClientSimulation ask files p part opened published tapes)
    → client_simulate_of (found_of ask.program files p h.program) ask files ≡ by_words_told ask p part opened published tapes
unfolding client_simulate_of
client_simulate_there ask files p part opened published tapes h =
    rw (program_there ask.program files p h.program h.program.within.list, h.public, h.opened, h.published, h.tapes) refl

pub client_simulate_answered : (words : List (List ℕ)) (ask : ClientSimulateAsk) (outside : Outside) (p : TypedProgramTree) (part : List PublicEntry)
    (opened published : List ℕ) (tapes : FourTapes) → words_of words ≡ Some (client_simulate ask)
    → HoldsClientSimulation ask outside.files p part opened published tapes → IsClientSimulated ask p part opened published tapes
    → AnswersAtOnce words outside (client_simulated_to ask p part opened published tapes)
unfolding answer_to question_of
client_simulate_answered words ask outside p part opened published tapes asks h is =
    subst (AnswersAtOnce words outside)
    (client_simulate_there ask outside.files p part opened published tapes h ∙ enough ask p part opened published tapes is)
    (is_answer words (client_simulate ask) outside (found_of ask.program outside.files p h.program) asks (found_there ask.program outside.files p h.program))

-- ---- files that are refused, and words

-- the answer to what is found has this status
abbrev IsRefusedAs : ClientSimulateAsk → Contents → Status → Type 0
IsRefusedAs ask files s = (found : Finding) × FoundAt (its_program ask.program) files found × (status_in_answer (client_simulate_of found ask files) ≡ s)

client_simulate_refused : (ask : ClientSimulateAsk) (files : Contents) (s : Status) → ClientSimulateRefused ask files s → IsRefusedAs ask files s
unfolding client_simulate_of public_at opened_at published_at tape_file_at bad_input bad_opened bad_tape
client_simulate_refused ask files s (for_program refused) =
    let no = no_program ask.program files s refused in
    (no.found, no.at, rw no.none (sym no.status))
client_simulate_refused ask files s (for_public is p h bytes err there bad) = (
  found_of ask.program files p h,
  found_there ask.program files p h,
  rw (program_there ask.program files p h h.within.list, read_there files ask.public bytes there, bad) (sym is),
)
client_simulate_refused ask files s (for_opened is p h part public bytes line there bad) = (
  found_of ask.program files p h,
  found_there ask.program files p h,
  rw (program_there ask.program files p h h.within.list, public, read_there files ask.opened bytes there, bad) (sym is),
)
client_simulate_refused ask files s (for_published is p h part public opened words bytes line there bad) = (
  found_of ask.program files p h,
  found_there ask.program files p h,
  rw (program_there ask.program files p h h.within.list, public, words, read_there files ask.published bytes there, bad) (sym is),
)
client_simulate_refused ask files s (for_tape is p h part public opened words published handed bytes place there bad) = (
  found_of ask.program files p h,
  found_there ask.program files p h,
  rw (program_there ask.program files p h h.within.list, public, words, handed, read_there files ask.sim bytes there, bad) (sym is),
)
client_simulate_refused ask files s (handed_too_little is p part opened published tapes h short) = (
  found_of ask.program files p h.program,
  found_there ask.program files p h.program,
  ap status_in_answer (client_simulate_there ask files p part opened published tapes h) ∙ hands_status ask p part opened published tapes short ∙ sym is,
)
client_simulate_refused ask files s (told_too_little is p part opened published tapes h short) = (
  found_of ask.program files p h.program,
  found_there ask.program files p h.program,
  ap status_in_answer (client_simulate_there ask files p part opened published tapes h) ∙ opens_status ask p part opened published tapes short ∙ sym is,
)

pub client_simulate_answered_so : (words : List (List ℕ)) (ask : ClientSimulateAsk) (outside : Outside) (s : Status)
    → words_of words ≡ Some (client_simulate ask) → ClientSimulateRefused ask outside.files s → HasAnswerOf words outside s
unfolding answer_to question_of
client_simulate_answered_so words ask outside s asks out =
    let (found, at, status) = client_simulate_refused ask outside.files s out in
    (client_simulate_of found ask outside.files, is_answer words (client_simulate ask) outside found asks at, status)

-- ---- and only so

-- words are refused as too few
abbrev cause_status : Result (List Event) Cause → Status
cause_status (Ok events) = statuses.OpenedShort
cause_status (Err c) = c.status

abbrev Wanting : Option (List Event) → RunStop → Type 0
Wanting told stop = (told ≡ None) ⊎ ((stop ≡ Short) × (events : List Event) × (told ≡ Some events))

wanting_cases : (o q : ℕ) (told : Option (List Event)) (stop : RunStop) (c : Cause) → by_shortage o q told stop ≡ Err c
    → Wanting told stop × (status_of_cause c ≡ statuses.OpenedShort)
unfolding by_shortage
wanting_cases o q None stop c is = (inl refl, ap cause_status (sym is))
wanting_cases o q (Some events) (Ended ending) c is = absurd cc
wanting_cases o q (Some events) Short c is = (inr (refl, events, refl), ap cause_status (sym is))

module _ (found : Finding) (ask : ClientSimulateAsk) (files : Contents) (h : FoundAt (its_program ask.program) files found) (r : Answer)
    (refusal : can_refuse (status_in_answer r) ≡ true) where
  abbrev IsRefused : Type 0
  IsRefused = ClientSimulateRefused ask files (status_in_answer r)

  by_public : (p : TypedProgramTree) → HoldsTyped ask.program files p → (c : Cause) → r ≡ Err c
      → ReadRefused files ask.public bad_input read_public_of c → IsRefused
  by_public p held c is (inl missed) = not_missing r c ask.public refusal is missed
  by_public p held c is (inr (bytes, err, there, bad, e)) =
      for_public (refusing r c is ∙ ap status_of_cause e ∙ input_status err) p held bytes err there bad

  module _ (p : TypedProgramTree) (held : HoldsTyped ask.program files p) (part : List PublicEntry) (public : public_at files ask.public ≡ Ok part) where
    by_opened : (c : Cause) → r ≡ Err c → ReadRefused files ask.opened bad_opened opened_of c → IsRefused
    by_opened c is (inl missed) = not_missing r c ask.opened refusal is missed
    by_opened c is (inr (bytes, line, there, bad, e)) =
        for_opened (refusing r c is ∙ ap status_of_cause e ∙ opened_status line) p held part public bytes line there bad

    module _ (opened : List ℕ) (words : opened_at files ask.opened ≡ Ok opened) where
      by_published : (c : Cause) → r ≡ Err c → ReadRefused files ask.published bad_opened published_in c → IsRefused
      by_published c is (inl missed) = not_missing r c ask.published refusal is missed
      by_published c is (inr (bytes, line, there, bad, e)) =
          for_published (refusing r c is ∙ ap status_of_cause e ∙ opened_status line) p held part public opened words bytes line there bad

      module _ (published : List ℕ) (handed : published_at files ask.published ≡ Ok published) where
        by_tape : (c : Cause) → r ≡ Err c → ReadRefused files ask.sim bad_tape tapes_read_of c → IsRefused
        by_tape c is (inl missed) = not_missing r c ask.sim refusal is missed
        by_tape c is (inr (bytes, place, there, bad, e)) =
            for_tape (refusing r c is ∙ ap status_of_cause e ∙ tape_status place) p held part public opened words published handed bytes place there bad

        module _ (tapes : FourTapes) (taped : tape_file_at files ask.sim ≡ Ok tapes) where
          abbrev all_held : HoldsClientSimulation ask files p part opened published tapes
          all_held = record { program = held; public = public; opened = words; published = handed; tapes = taped }

          by_wanting : (c : Cause) → r ≡ Err c → status_of_cause c ≡ statuses.OpenedShort
              → Wanting (told_events (run_told ask p part opened tapes).events published) (run_told ask p part opened tapes).stop → IsRefused
          by_wanting c is status (inl none) = handed_too_little (refusing r c is ∙ status) p part opened published tapes all_held none
          by_wanting c is status (inr (short, events, told)) =
              told_too_little (refusing r c is ∙ status) p part opened published tapes all_held (record { short = short; events = events; told = told })

          at_words : by_words_told ask p part opened published tapes ≡ r → IsRefused
          at_words is =
              elim (steps (shortage_told ask p part opened tapes published) (λ events. client_simulated_to ask p part opened published tapes) r is) [
                | inl (c, e, is_r) ↦
                    let wanting = wanting_cases (length opened) (length published) (told_events (run_told ask p part opened tapes).events published)
                    (run_told ask p part opened tapes).stop c e in
                    by_wanting c is_r wanting.1 wanting.0
                | inr (events, e, done) ↦ not_done r refusal (ap status_in_answer (sym done))
              ]

        at_tapes : (tape_file_at files ask.sim >>= by_words_told ask p part opened published) ≡ r → IsRefused
        at_tapes is =
            elim (steps (tape_file_at files ask.sim) (by_words_told ask p part opened published) r is) [
              | inl (c, e, is_r) ↦ by_tape c is_r (tape_file_refused files ask.sim c e)
              | inr (tapes, e, rest) ↦ at_words tapes e rest
            ]

      abbrev after_published : List ℕ → Answer
      after_published published = tape_file_at files ask.sim >>= by_words_told ask p part opened published

      at_published : (published_at files ask.published >>= after_published) ≡ r → IsRefused
      at_published is =
          elim (steps (published_at files ask.published) after_published r is) [
            | inl (c, e, is_r) ↦ by_published c is_r (published_refused files ask.published c e)
            | inr (published, e, rest) ↦ at_tapes published e rest
          ]

    abbrev after_opened : List ℕ → Answer
    after_opened opened =
        published_at files ask.published >>= λ published. tape_file_at files ask.sim >>= by_words_told ask p part opened published

    at_opened : (opened_at files ask.opened >>= after_opened) ≡ r → IsRefused
    at_opened is =
        elim (steps (opened_at files ask.opened) after_opened r is) [
          | inl (c, e, is_r) ↦ by_opened c is_r (opened_refused files ask.opened c e)
          | inr (opened, e, rest) ↦ at_published opened e rest
        ]

  abbrev after_public : TypedProgramTree → List PublicEntry → Answer
  after_public p part =
      opened_at files ask.opened
      >>= λ opened. published_at files ask.published >>= λ published. tape_file_at files ask.sim >>= by_words_told ask p part opened published

  at_public : (p : TypedProgramTree) → HoldsTyped ask.program files p → (public_at files ask.public >>= after_public p) ≡ r → IsRefused
  at_public p held is =
      elim (steps (public_at files ask.public) (after_public p) r is) [
        | inl (c, e, is_r) ↦ by_public p held c is_r (public_refused files ask.public c e)
        | inr (part, e, rest) ↦ at_opened p held part e rest
      ]

  abbrev after_program : TypedProgramTree → Answer
  after_program p = public_at files ask.public >>= after_public p

  refused_only : client_simulate_of found ask files ≡ r → IsRefused
  unfolding client_simulate_of
  refused_only is =
      elim (steps (program_at found files ask.program) after_program r is) [
        | inl (c, e, is_r) ↦ for_program (refused_by_program ask.program files r refusal c is_r (program_cases found files ask.program h (Err c) e))
        | inr (p, e, rest) ↦ at_public p (program_cases found files ask.program h (Ok p) e) rest
      ]

pub client_simulate_refused_only : (words : List (List ℕ)) (ask : ClientSimulateAsk) (outside : Outside) → words_of words ≡ Some (client_simulate ask)
    → (answer : Answer) → AnswersAtOnce words outside answer → can_refuse (status_in_answer answer) ≡ true
    → ClientSimulateRefused ask outside.files (status_in_answer answer)
unfolding answer_to question_of
client_simulate_refused_only words ask outside asks answer a refusal =
    let (found, at, is) = command_answers words (client_simulate ask) outside answer asks a in
    refused_only found ask outside.files at answer refusal is
