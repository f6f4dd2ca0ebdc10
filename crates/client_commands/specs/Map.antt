-- The command `client-map`: of a run in the clear the tapes that the client's view of it is made of, and what the simulator is told.
use Rattle.std.specs.Prelude.{ℕ, List, [], ◌∷◌, Ok}
use Rattle.outside.specs.Files.{Contents}
use Rattle.command_frame.specs.declared.status.Status.TheVariants.{Done}
use Rattle.command_frame.specs.Answer.{Answer, Effect, ◌>>=◌}
use Rattle.command_words.specs.Ask.{ClientMapAsk}
use Rattle.sc_text.specs.declared.event.Event.{Event}
use Rattle.sc_text.specs.declared.event.Event.TheVariants.{Open, Publish, Hand}
use Rattle.program_trees.specs.TypedPrograms.{TypedProgramTree}
use Rattle.value_file.specs.declared.inputs.Entry.{Entry}
use Rattle.value_file.specs.Public.{part_bytes, part_of}
use Rattle.tape_file.specs.Format.{tape_bytes}
use Rattle.tape_file.specs.Tapes.{FourTapes}
use Rattle.view_reader.specs.Opened.{opened_bytes}
use Rattle.view_reader.specs.Published.{Publication, published_bytes}
use Rattle.program_views.specs.Views.{lengths_of, openings, run_on}
use Rattle.client_view.specs.TapeMaps.{client_mapped}
use Rattle.client_runs.specs.declared.maps.MappedRun.{MappedRun}
use Rattle.program_commands.specs.Judging.{Finding}
use Rattle.program_commands.specs.Programs.{program_at}
use Rattle.program_commands.specs.Reading.{inputs_at, tape_file_at}
use Rattle.tape_commands.specs.Map.{open_bytes}

-- what is handed over, value by value
abbrev pub publications : List Event → List Publication
publications [] = []
publications (Open elements ∷ events) = publications events
publications (Publish text elements ∷ events) = publications events
publications (Hand text kind elements ∷ events) = record { name = text; elements = elements } ∷ publications events

-- the file of the tapes that the client's view is made of
unfoldable pub client_sim_bytes : TypedProgramTree → List Entry → FourTapes → (budget : ℕ) → List ℕ
client_sim_bytes program entries tapes budget = tape_bytes (client_mapped program entries tapes budget)

-- the lines of what is handed over
unfoldable pub handed_bytes : TypedProgramTree → List Entry → FourTapes → (budget : ℕ) → List ℕ
handed_bytes program entries tapes budget = published_bytes (publications (run_on program entries (lengths_of tapes) budget).events)

-- the simulator's tape, the public part of the inputs, what is opened, and what is handed over; nothing is printed, and how the run ends
-- changes nothing
abbrev pub writes_to : ClientMapAsk → (sim public opened published : List ℕ) → Effect
writes_to ask sim public opened published =
    record {
      writes =
          record { path = ask.sim; bytes = sim }
          ∷ record { path = ask.public; bytes = public }
          ∷ record { path = ask.opened; bytes = opened }
          ∷ record { path = ask.published; bytes = published }
          ∷ [];
      text = [];
      status = Done;
    }

abbrev pub client_map_effect : ClientMapAsk → TypedProgramTree → List Entry → FourTapes → Effect
client_map_effect ask program entries tapes =
    writes_to ask (client_sim_bytes program entries tapes ask.budget) (part_bytes (part_of entries)) (open_bytes program entries tapes ask.budget)
    (handed_bytes program entries tapes ask.budget)

-- the same of a run in memory
abbrev pub made_effect : ClientMapAsk → List Entry → MappedRun → Effect
made_effect ask entries run =
    writes_to ask (tape_bytes run.tapes) (part_bytes (part_of entries)) (opened_bytes (openings run.report.events.items))
    (published_bytes (publications run.report.events.items))

-- Each file is read and then checked: the program and its size, the input, the tape; then the program is run.
unfoldable pub client_map_of : Finding → ClientMapAsk → Contents → Answer
client_map_of found ask files = do
  program ← program_at found files ask.program
  entries ← inputs_at files ask.input
  tapes ← tape_file_at files ask.tape
  Ok (client_map_effect ask program entries tapes)

-- the paths that `client-map` reads, and that it writes
unfoldable pub client_map_paths : ClientMapAsk → List (List ℕ)
client_map_paths ask = ask.program ∷ ask.input ∷ ask.tape ∷ []

unfoldable pub client_mapped_paths : ClientMapAsk → List (List ℕ)
client_mapped_paths ask = ask.sim ∷ ask.public ∷ ask.opened ∷ ask.published ∷ []
