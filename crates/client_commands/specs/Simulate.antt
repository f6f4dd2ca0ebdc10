-- The command `client-simulate`: the client's view that the simulator makes of the public part of the inputs, opened words, those that are
-- handed over, and tapes alone.
use Rattle.std.specs.Prelude.{◌≡◌, ℕ, List, [], ◌∷◌, ◌++◌, length, codes, Option, Some, None, Result, Ok, Err}
use Rattle.std.specs.Fmt.{decimal}
use Rattle.outside.specs.Files.{Contents}
use Rattle.command_frame.specs.declared.status.Status.TheVariants.{Done}
use Rattle.command_frame.specs.Answer.{Answer, Cause, Effect, Written, ◌>>=◌}
use Rattle.command_frame.specs.Stops.{IsRefusalFor}
use Rattle.command_frame.specs.declared.stop.Stop.{Stop}
use Rattle.command_frame.specs.declared.stop.Stop.TheVariants as stops
use Rattle.command_words.specs.Ask.{ClientSimulateAsk}
use Rattle.sc_text.specs.declared.event.Event.{Event}
use Rattle.program_trees.specs.TypedPrograms.{TypedProgramTree}
use Rattle.value_file.specs.declared.public.PublicEntry.{PublicEntry}
use Rattle.tape_file.specs.Tapes.{FourTapes}
use Rattle.language_model.specs.Effects.{Ended, Short, RunStop}
use Rattle.language_model.specs.Reports.{Report}
use Rattle.program_views.specs.Views.{lengths_of, told_run}
use Rattle.client_text.specs.Text.{client_bytes}
use Rattle.client_view.specs.Views.{ClientView, told_events, client_simulated}
use Rattle.client_simulator.specs.declared.simulate_err.SimulateErr.{SimulateErr}
use Rattle.client_simulator.specs.declared.simulate_err.SimulateErr.TheVariants as refusal
use Rattle.program_commands.specs.Judging.{Finding}
use Rattle.program_commands.specs.Programs.{program_at}
use Rattle.program_commands.specs.Reading.{opened_at, public_at, published_at, tape_file_at}
use Rattle.tape_commands.specs.Simulate.{short_line, short_with}

-- ---- words that don't suffice

-- a value that is handed over wanted more words than the file has
unfoldable pub published_short_line : (have : ℕ) → List ℕ
published_short_line have = codes "error: V3 have " ++ decimal have ++ codes "\n"

-- a run whose events are told all they want is taken if it ended, and one that wants more of either is refused for what is wanted first: its
-- events come before the opened value that wanted more
unfoldable pub by_shortage : (opened published : ℕ) → Option (List Event) → RunStop → Result (List Event) Cause
by_shortage opened published None stop = Err (short_with (published_short_line published))
by_shortage opened published (Some told) (Ended ending) = Ok told
by_shortage opened published (Some told) Short = Err (short_with (short_line opened))

-- the stop of a simulator that gives no view
abbrev pub IsClientSimulateStop : SimulateErr → Stop → Type 0
IsClientSimulateStop (refusal.OpenedShort have) stop = IsRefusalFor (short_with (short_line have)) stop
IsClientSimulateStop (refusal.PublishedShort have) stop = IsRefusalFor (short_with (published_short_line have)) stop
IsClientSimulateStop refusal.Memory stop = stop ≡ stops.Memory

-- ---- the view

-- a run that ended has a view
abbrev pub client_view_at : (path : List ℕ) → Option ClientView → List Written
client_view_at path None = []
client_view_at path (Some view) = record { path = path; bytes = client_bytes view } ∷ []

-- nothing is printed, and how the run ends changes nothing
abbrev pub client_simulate_effect : ClientSimulateAsk → Option ClientView → Effect
client_simulate_effect ask view = record { writes = client_view_at ask.view view; text = []; status = Done }

module _ (ask : ClientSimulateAsk) (program : TypedProgramTree) (part : List PublicEntry) (opened : List ℕ) (tapes : FourTapes) where
  -- the run of one who is told these words
  abbrev pub run_told : Report
  run_told = told_run program part opened (lengths_of tapes) ask.budget

  module _ (published : List ℕ) where
    -- its events, told these words, where both suffice
    abbrev pub shortage_told : Result (List Event) Cause
    shortage_told = by_shortage (length opened) (length published) (told_events run_told.events published) run_told.stop

    abbrev pub client_view_simulated : Option ClientView
    client_view_simulated = client_simulated program part opened published tapes ask.budget

-- Each file is read and then checked: the program and its size, the public part, the opened words, what is handed over, the tape. Then the words
-- have to suffice for the run of one who is told them.
unfoldable pub client_simulate_of : Finding → ClientSimulateAsk → Contents → Answer
client_simulate_of found ask files = do
  program ← program_at found files ask.program
  part ← public_at files ask.public
  opened ← opened_at files ask.opened
  published ← published_at files ask.published
  tapes ← tape_file_at files ask.sim
  _ ← shortage_told ask program part opened tapes published
  Ok (client_simulate_effect ask (client_view_simulated ask program part opened tapes published))

-- the paths that `client-simulate` reads, and that it writes
unfoldable pub client_simulate_paths : ClientSimulateAsk → List (List ℕ)
client_simulate_paths ask = ask.program ∷ ask.public ∷ ask.opened ∷ ask.published ∷ ask.sim ∷ []

unfoldable pub client_simulated_paths : (view : List ℕ) → List (List ℕ)
client_simulated_paths view = view ∷ []
