-- What `client-simulate` plans is what is decided of the files.
use Rattle.std.proofs.Common.{◌≡◌, ℕ, List, length, true, Option, Some, None, Ok, Err, Result, refl, sym, ◌∙◌, ap, subst}
use Rattle.outside.specs.Files.{FilesState}
use Rattle.command_frame.specs.declared.stop.Stop.{Stop}
use Rattle.command_frame.specs.Answer.{Answer, Cause, ◌>>=◌}
use Rattle.command_frame.specs.Reads.{StopNames, Stops}
use Rattle.command_words.specs.Ask.{ClientSimulateAsk}
use Rattle.sc_text.specs.declared.event.Event.{Event}
use Rattle.program_trees.specs.TypedPrograms.{TypedProgramTree}
use Rattle.value_file.specs.declared.public.PublicEntry.{PublicEntry}
use Rattle.tape_file.specs.Tapes.{FourTapes}
use Rattle.language_model.specs.Effects.{Ended, Short, RunStop}
use Rattle.language_model.specs.Reports.{Report}
use Rattle.client_view.specs.Views.{ClientView, told_events, made_with}
use Rattle.client_simulator.specs.Simulating.{IsAnswer, IsClientSimulation}
use Rattle.client_simulator.specs.declared.simulate_err.SimulateErr.{SimulateErr}
use Rattle.client_simulator.specs.declared.simulate_err.SimulateErr.TheVariants as refusal
use Rattle.program_commands.specs.Judging.{Finding}
use Rattle.program_commands.specs.Programs.{program_at}
use Rattle.program_commands.specs.Reading.{opened_at, public_at, published_at, tape_file_at}
use Rattle.program_commands.proofs.Judged.{refused_so}
use Rattle.program_commands.proofs.Exits.{unnamed_memory, unnamed_refusal}
use Rattle.tape_commands.specs.Simulate.{short_line, short_with}
use Rattle.client_commands.specs.Simulate.{IsClientSimulateStop, by_shortage, published_short_line, run_told, shortage_told, client_view_simulated}
use Rattle.client_commands.specs.Simulate.{client_simulate_effect, client_simulate_of}

-- ---- by the answer

module _ (part : List PublicEntry) (opened published : List ℕ) (s : FourTapes) (r : Report) where
  abbrev shortage : RunStop → Result (List Event) Cause
  shortage stop = by_shortage (length opened) (length published) (told_events r.events published) stop

  -- a view is made of told events
  made_told : (o : Option (List Event)) (view : ClientView) → made_with part s r o ≡ Some view
      → (events : List Event) × (o ≡ Some events)
  made_told None view is = absurd cc
  made_told (Some events) view is = (events, refl)

  suffices : (stop : RunStop) (view : ClientView) → IsAnswer part opened published s r stop (Ok view)
      → (events : List Event) × (shortage stop ≡ Ok events)
  unfolding by_shortage
  suffices (Ended ending) view h =
      let told = made_told (told_events r.events published) view h in
      (told.0, ap (λ (o : Option (List Event)). by_shortage (length opened) (length published) o (Ended ending)) told.1)
  suffices Short view h = absurd h

  opened_short : (stop : RunStop) (have : ℕ) → IsAnswer part opened published s r stop (Err (refusal.OpenedShort have))
      → shortage stop ≡ Err (short_with (short_line have))
  unfolding by_shortage
  opened_short (Ended ending) have h = absurd h
  opened_short Short have h =
      ap (λ (o : Option (List Event)). by_shortage (length opened) (length published) o Short) h.suffice
      ∙ ap (λ (n : ℕ). Err (short_with (short_line n))) (sym h.all)

  published_none : (stop : RunStop) (have : ℕ) → told_events r.events published ≡ None → have ≡ length published
      → shortage stop ≡ Err (short_with (published_short_line have))
  unfolding by_shortage
  published_none stop have none all =
      ap (λ (o : Option (List Event)). by_shortage (length opened) (length published) o stop) none
      ∙ ap (λ (n : ℕ). Err (short_with (published_short_line n))) (sym all)

  published_short : (stop : RunStop) (have : ℕ) → IsAnswer part opened published s r stop (Err (refusal.PublishedShort have))
      → shortage stop ≡ Err (short_with (published_short_line have))
  published_short (Ended ending) have h = published_none (Ended ending) have h.short h.all
  published_short Short have h = published_none Short have h.short h.all

  -- what gives a view is the simulator's
  view_so : (stop : RunStop) (view : ClientView) → IsAnswer part opened published s r stop (Ok view)
      → made_with part s r (told_events r.events published) ≡ Some view
  view_so (Ended ending) view h = h
  view_so Short view h = absurd h

-- ---- what is decided of the files that were read

module _ (found : Finding) (ask : ClientSimulateAsk) (f : FilesState) (p : TypedProgramTree) (part : List PublicEntry) (opened published : List ℕ)
    (tapes : FourTapes)
    (program : f.told ≡ true → program_at found f.contents ask.program ≡ Ok p)
    (public : f.told ≡ true → public_at f.contents ask.public ≡ Ok part)
    (words : f.told ≡ true → opened_at f.contents ask.opened ≡ Ok opened)
    (handed : f.told ≡ true → published_at f.contents ask.published ≡ Ok published)
    (taped : f.told ≡ true → tape_file_at f.contents ask.sim ≡ Ok tapes) where
  abbrev r : Report
  r = run_told ask p part opened tapes

  abbrev simulated_to : Answer
  simulated_to = Ok (client_simulate_effect ask (client_view_simulated ask p part opened tapes published))

  abbrev by_the_words : Result (List Event) Cause → Answer
  by_the_words told = told >>= λ events. simulated_to

  read_so : f.told ≡ true → client_simulate_of found ask f.contents ≡ by_the_words (shortage_told ask p part opened tapes published)
  unfolding client_simulate_of
  read_so t = rw (program t, public t, words t, handed t, taped t) refl

  made_so : (view : ClientView) → IsClientSimulation p part opened published tapes ask.budget (Ok view) → f.told ≡ true
      → client_simulate_of found ask f.contents ≡ Ok (client_simulate_effect ask (Some view))
  made_so view h t =
      read_so t
      ∙ ap by_the_words (suffices part opened published tapes r r.stop view h).1
      ∙ ap (λ (v : Option ClientView). Ok (client_simulate_effect ask v)) (view_so part opened published tapes r r.stop view h)

  -- a simulator without a view stops the command
  stops_so : (f' : FilesState) (e : SimulateErr) (stop : Stop) → IsClientSimulation p part opened published tapes ask.budget (Err e)
      → IsClientSimulateStop e stop → Stops f f' stop (client_simulate_of found ask f.contents)
  stops_so f' (refusal.OpenedShort have) stop h is =
      refused_so f f' stop (client_simulate_of found ask f.contents) is
      (λ t. read_so t ∙ ap by_the_words (opened_short part opened published tapes r r.stop have h))
  stops_so f' (refusal.PublishedShort have) stop h is =
      refused_so f f' stop (client_simulate_of found ask f.contents) is
      (λ t. read_so t ∙ ap by_the_words (published_short part opened published tapes r r.stop have h))
  stops_so f' refusal.Memory stop h is = subst (λ (s : Stop). Stops f f' s (client_simulate_of found ask f.contents)) (sym is) tt

  -- the words as they are lent to the simulator
  module _ (lent handed_lent : List ℕ) (same : lent ≡ opened) (also : handed_lent ≡ published) where
    abbrev answers : (words more : List ℕ) → Result ClientView SimulateErr → Type 0
    answers words more result = IsClientSimulation p part words more tapes ask.budget result

    as_read : (result : Result ClientView SimulateErr) → answers lent handed_lent result → answers opened published result
    as_read result h =
        subst (λ (ws : List ℕ). answers ws published result) same (subst (λ (ws : List ℕ). answers lent ws result) also h)

    pub simulated_so : (view : ClientView) → answers lent handed_lent (Ok view) → f.told ≡ true
        → client_simulate_of found ask f.contents ≡ Ok (client_simulate_effect ask (Some view))
    simulated_so view h t = made_so view (as_read (Ok view) h) t

    pub stops : (f' : FilesState) (e : SimulateErr) (stop : Stop) → answers lent handed_lent (Err e) → IsClientSimulateStop e stop
        → Stops f f' stop (client_simulate_of found ask f.contents)
    stops f' e stop h is = stops_so f' e stop (as_read (Err e) h) is

-- a simulator that gives no view names no file
pub simulate_stop_names : (paths : List (List ℕ)) (e : SimulateErr) (stop : Stop) → IsClientSimulateStop e stop → StopNames paths stop
simulate_stop_names paths (refusal.OpenedShort have) stop of = unnamed_refusal paths (short_with (short_line have)) stop of
simulate_stop_names paths (refusal.PublishedShort have) stop of = unnamed_refusal paths (short_with (published_short_line have)) stop of
simulate_stop_names paths refusal.Memory stop of = unnamed_memory paths stop of
