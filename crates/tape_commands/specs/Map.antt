-- The command `map`: of a run in the clear the tapes that a miner's view of it is made of, and what the simulator is told.
use Rattle.std.specs.Prelude.{ℕ, List, [], ◌∷◌, Ok}
use Rattle.outside.specs.Files.{Contents}
use Rattle.command_frame.specs.declared.status.Status.TheVariants.{Done}
use Rattle.command_frame.specs.Answer.{Answer, Effect, ◌>>=◌}
use Rattle.command_words.specs.Ask.{MapAsk}
use Rattle.proto_core.specs.declared.party.Number.{Number}
use Rattle.program_trees.specs.TypedPrograms.{TypedProgramTree}
use Rattle.value_file.specs.declared.inputs.Entry.{Entry}
use Rattle.value_file.specs.Public.{part_bytes, part_of}
use Rattle.tape_file.specs.Format.{tape_bytes}
use Rattle.tape_file.specs.Tapes.{FourTapes}
use Rattle.view_reader.specs.Opened.{opened_bytes}
use Rattle.tape_twin.specs.TapeMaps.{mapped}
use Rattle.tape_twin.specs.Views.{lengths_of, openings, run_on}
use Rattle.tape_twin.specs.declared.mapped_run.MappedRun.{MappedRun}
use Rattle.program_commands.specs.Judging.{Finding}
use Rattle.program_commands.specs.Programs.{program_at}
use Rattle.program_commands.specs.Reading.{inputs_at, tape_file_at}

-- the file of the tapes that the miner's view is made of
unfoldable pub sim_bytes : Number → TypedProgramTree → List Entry → FourTapes → (budget : ℕ) → List ℕ
sim_bytes miner program entries tapes budget = tape_bytes (mapped miner program entries tapes budget)

-- the lines of what is opened
unfoldable pub open_bytes : TypedProgramTree → List Entry → FourTapes → (budget : ℕ) → List ℕ
open_bytes program entries tapes budget = opened_bytes (openings (run_on program entries (lengths_of tapes) budget).events)

-- the simulator's tape, the public part of the inputs, and what is opened; nothing is printed, and how the run ends changes nothing
abbrev pub writes_to : MapAsk → (sim public opened : List ℕ) → Effect
writes_to ask sim public opened =
    record {
      writes =
          record { path = ask.sim; bytes = sim } ∷ record { path = ask.public; bytes = public } ∷ record { path = ask.opened; bytes = opened } ∷ [];
      text = [];
      status = Done;
    }

abbrev pub map_effect : MapAsk → TypedProgramTree → List Entry → FourTapes → Effect
map_effect ask program entries tapes =
    writes_to ask (sim_bytes ask.miner program entries tapes ask.budget) (part_bytes (part_of entries)) (open_bytes program entries tapes ask.budget)

-- the same of a run in memory
abbrev pub made_effect : MapAsk → List Entry → MappedRun → Effect
made_effect ask entries run =
    writes_to ask (tape_bytes run.tapes) (part_bytes (part_of entries)) (opened_bytes (openings run.report.events.items))

-- Each file is read and then checked: the program and its size, the input, the tape; then the program is run.
unfoldable pub map_of : Finding → MapAsk → Contents → Answer
map_of found ask files = do
  program ← program_at found files ask.program
  entries ← inputs_at files ask.input
  tapes ← tape_file_at files ask.tape
  Ok (map_effect ask program entries tapes)

-- the paths that `map` reads, and that it writes
unfoldable pub map_paths : MapAsk → List (List ℕ)
map_paths ask = ask.program ∷ ask.input ∷ ask.tape ∷ []

unfoldable pub mapped_paths : MapAsk → List (List ℕ)
mapped_paths ask = ask.sim ∷ ask.public ∷ ask.opened ∷ []
