-- The command `simulate`: the view that the simulator makes for a miner, of the public part of the inputs, opened words and tapes alone.
use Rattle.std.specs.Prelude.{◌≡◌, ℕ, List, [], ◌∷◌, ◌++◌, length, codes, Option, Some, None, Result, Ok, Err}
use Rattle.std.specs.Fmt.{decimal}
use Rattle.outside.specs.Files.{Contents}
use Rattle.command_frame.specs.declared.status.Status.TheVariants.{Done, OpenedShort}
use Rattle.command_frame.specs.Answer.{Answer, Cause, Effect, Written, ◌>>=◌}
use Rattle.command_frame.specs.Stops.{IsRefusalFor}
use Rattle.command_frame.specs.declared.stop.Stop.{Stop}
use Rattle.command_frame.specs.declared.stop.Stop.TheVariants as stops
use Rattle.command_words.specs.Ask.{SimulateAsk}
use Rattle.sc_text.specs.declared.end.Ending.{Ending}
use Rattle.protocol_model.specs.Network.{Answer as NetAnswer, Delivery}
use Rattle.program_trees.specs.TypedPrograms.{TypedProgramTree}
use Rattle.value_file.specs.declared.public.PublicEntry.{PublicEntry}
use Rattle.tape_file.specs.Tapes.{FourTapes}
use Rattle.language_model.specs.Effects.{Ended, Short, RunStop}
use Rattle.view_simulator.specs.Views.{lengths_of, simulated, told_run}
use Rattle.view_text.specs.Text.{view_bytes}
use Rattle.view_text.specs.View.{View}
use Rattle.view_simulator.specs.Simulating.{net_told}
use Rattle.view_simulator.specs.declared.errors.SimulateErr.{SimulateErr}
use Rattle.view_simulator.specs.declared.errors.SimulateErr.TheVariants as refusal
use Rattle.program_commands.specs.Judging.{Finding}
use Rattle.program_commands.specs.Programs.{program_at}
use Rattle.program_commands.specs.Reading.{delivery_at, opened_at, order_paths, public_at, tape_file_at}
use Rattle.program_commands.specs.Schedules.{by_net, empty_line, refused_with, stalled_line}

-- ---- opened words that don't suffice

-- a value that was opened wanted more words than the file has
unfoldable pub short_line : (have : ℕ) → List ℕ
short_line have = codes "error: V2 have " ++ decimal have ++ codes "\n"

abbrev pub short_with : List ℕ → Cause
short_with line = record { status = OpenedShort; line = line }

-- a run that was told enough is taken, one that wanted more than so many words is refused
unfoldable pub by_told : (have : ℕ) → RunStop → Result Ending Cause
by_told have (Ended ending) = Ok ending
by_told have Short = Err (short_with (short_line have))

-- the stop of a simulator that gives no view
abbrev pub IsSimulateStop : SimulateErr → Stop → Type 0
IsSimulateStop (refusal.OpenedShort have) stop = IsRefusalFor (short_with (short_line have)) stop
IsSimulateStop (refusal.EmptyLink entry link sent) stop = IsRefusalFor (refused_with (empty_line entry link sent)) stop
IsSimulateStop (refusal.Stalled miner link) stop = IsRefusalFor (refused_with (stalled_line miner link)) stop
IsSimulateStop refusal.Memory stop = stop ≡ stops.Memory

-- ---- the view

-- a run that ended has a view
abbrev pub view_at : (path : List ℕ) → Option View → List Written
view_at path None = []
view_at path (Some view) = record { path = path; bytes = view_bytes view } ∷ []

-- nothing is printed, and how the run ends changes nothing
abbrev pub simulate_effect : SimulateAsk → Option View → Effect
simulate_effect ask view = record { writes = view_at ask.view view; text = []; status = Done }

-- Each file is read and then checked: the program and its size, the public part, the opened words, the tape, the schedule. Then the words
-- have to suffice for the run of one who is told them, and last the net takes the deliveries.
unfoldable pub simulate_of : Finding → SimulateAsk → Contents → Answer
simulate_of found ask files = do
  program ← program_at found files ask.program
  part ← public_at files ask.public
  opened ← opened_at files ask.opened
  tapes ← tape_file_at files ask.sim
  delivery ← delivery_at files ask.order
  _ ← by_told (length opened) (told_run program part opened (lengths_of tapes) ask.budget).stop
  _ ← by_net (net_told ask.miner program part opened tapes ask.budget delivery)
  Ok (simulate_effect ask (simulated ask.miner program part opened tapes ask.budget delivery))

-- ---- what the simulator comes to, by names of its own

module _ (ask : SimulateAsk) (program : TypedProgramTree) (part : List PublicEntry) (opened : List ℕ) (tapes : FourTapes) where
  -- why the run stops of one who is told these words
  abbrev pub stop_told : RunStop
  stop_told = (told_run program part opened (lengths_of tapes) ask.budget).stop

  -- what a delivery comes to, by the gates of that run
  abbrev pub net_simulated : Delivery → NetAnswer
  net_simulated delivery = net_told ask.miner program part opened tapes ask.budget delivery

  abbrev pub view_simulated : Delivery → Option View
  view_simulated delivery = simulated ask.miner program part opened tapes ask.budget delivery

-- the paths that `simulate` reads, and that it writes
unfoldable pub simulate_paths : SimulateAsk → List (List ℕ)
simulate_paths ask = ask.program ∷ ask.public ∷ ask.opened ∷ ask.sim ∷ order_paths ask.order

unfoldable pub simulated_paths : (view : List ℕ) → List (List ℕ)
simulated_paths view = view ∷ []
