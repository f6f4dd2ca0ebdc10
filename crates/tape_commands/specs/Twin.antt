-- The command `twin`: the tapes with which a miner's view of the run on other inputs is its view of the run on these.
use Rattle.std.specs.Prelude.{◌≡◌, ℕ, List, [], ◌∷◌, ◌++◌, codes, Option, Some, None, Result, Ok, Err}
use Rattle.std.specs.Fmt.{decimal}
use Rattle.outside.specs.Files.{Contents}
use Rattle.command_frame.specs.declared.status.Status.TheVariants.{Done, NotAlike}
use Rattle.command_frame.specs.Answer.{Answer, Cause, Effect, ◌>>=◌}
use Rattle.command_frame.specs.Stops.{IsRefusalFor}
use Rattle.command_frame.specs.declared.stop.Stop.{Stop}
use Rattle.command_frame.specs.declared.stop.Stop.TheVariants as stops
use Rattle.command_words.specs.Ask.{TwinAsk}
use Rattle.proto_core.specs.declared.party.Number.{Number}
use Rattle.program_trees.specs.TypedPrograms.{TypedProgramTree}
use Rattle.value_file.specs.declared.inputs.Entry.{Entry}
use Rattle.tape_file.specs.Format.{tape_bytes}
use Rattle.tape_file.specs.Tapes.{FourTapes}
use Rattle.tape_twin.specs.TapeMaps.{twinned}
use Rattle.tape_twin.specs.Views.{lengths_of}
use Rattle.tape_twin.specs.FirstDifference.{Difference, at_entry, at_word, difference}
use Rattle.tape_twin.specs.declared.twin_err.TwinErr.{TwinErr}
use Rattle.tape_twin.specs.declared.twin_err.TwinErr.TheVariants as refusal
use Rattle.program_commands.specs.Judging.{Finding}
use Rattle.program_commands.specs.Programs.{program_at}
use Rattle.program_commands.specs.Reading.{inputs_at, tape_file_at}

-- ---- inputs that are not alike

-- an input of this name isn't the same in what everybody knows
unfoldable pub entry_line : (name : List ℕ) → List ℕ
entry_line name = codes "error: Z1 public " ++ name ++ codes "\n"

-- at this place other words are opened
unfoldable pub word_line : (place first second : ℕ) → List ℕ
word_line place first second =
    codes "error: Z1 opened " ++ decimal place ++ codes " " ++ decimal first ++ codes " " ++ decimal second ++ codes "\n"

abbrev pub unlike : List ℕ → Cause
unlike line = record { status = NotAlike; line = line }

-- inputs without difference are taken, others refused for the first one
unfoldable pub by_difference : Option Difference → Result (Option Difference) Cause
by_difference None = Ok None
by_difference (Some (at_entry name)) = Err (unlike (entry_line name))
by_difference (Some (at_word place first second)) = Err (unlike (word_line place first second))

-- the stop of inputs that are refused
abbrev pub IsTwinStop : TwinErr → Stop → Type 0
IsTwinStop (refusal.PublicDiffers name) stop = IsRefusalFor (unlike (entry_line name)) stop
IsTwinStop (refusal.OpenedDiffers place first second) stop = IsRefusalFor (unlike (word_line place first second)) stop
IsTwinStop refusal.Memory stop = stop ≡ stops.Memory

-- ---- the twin

-- the file of the tapes that the second inputs are run with
unfoldable pub twin_bytes : Number → TypedProgramTree → (first second : List Entry) → FourTapes → (budget : ℕ) → List ℕ
twin_bytes miner program first second tapes budget = tape_bytes (twinned miner program first second tapes budget)

-- nothing is printed, and how the runs end changes nothing
abbrev pub writes_to : (path bytes : List ℕ) → Effect
writes_to path bytes = record { writes = record { path = path; bytes = bytes } ∷ []; text = []; status = Done }

abbrev pub twin_effect : TwinAsk → TypedProgramTree → (first second : List Entry) → FourTapes → Effect
twin_effect ask program first second tapes = writes_to ask.to (twin_bytes ask.miner program first second tapes ask.budget)

-- the same of tapes in memory
abbrev pub written_effect : (path : List ℕ) → FourTapes → Effect
written_effect path tapes = writes_to path (tape_bytes tapes)

-- Each file is read and then checked: the program and its size, the two inputs, the tape; then the program is run on both inputs.
unfoldable pub twin_of : Finding → TwinAsk → Contents → Answer
twin_of found ask files = do
  program ← program_at found files ask.program
  first ← inputs_at files ask.input
  second ← inputs_at files ask.second
  tapes ← tape_file_at files ask.tape
  _ ← by_difference (difference program first second (lengths_of tapes) ask.budget)
  Ok (twin_effect ask program first second tapes)

-- the paths that `twin` reads, and that it writes
unfoldable pub twin_paths : TwinAsk → List (List ℕ)
twin_paths ask = ask.program ∷ ask.input ∷ ask.second ∷ ask.tape ∷ []

unfoldable pub twinned_paths : (to : List ℕ) → List (List ℕ)
twinned_paths to = to ∷ []
