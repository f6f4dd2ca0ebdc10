-- The command `client-twin`: the tapes with which the client's view of the run on other inputs is its view of the run on these.
use Rattle.std.specs.Prelude.{◌≡◌, ℕ, List, [], ◌∷◌, ◌++◌, codes, Option, Some, None, Result, Ok, Err}
use Rattle.std.specs.Fmt.{decimal}
use Rattle.outside.specs.Files.{Contents}
use Rattle.command_frame.specs.Answer.{Answer, Cause, Effect, ◌>>=◌}
use Rattle.command_frame.specs.Stops.{IsRefusalFor}
use Rattle.command_frame.specs.declared.stop.Stop.{Stop}
use Rattle.command_frame.specs.declared.stop.Stop.TheVariants as stops
use Rattle.command_words.specs.Ask.{ClientTwinAsk}
use Rattle.program_trees.specs.TypedPrograms.{TypedProgramTree}
use Rattle.value_file.specs.declared.inputs.Entry.{Entry}
use Rattle.tape_file.specs.Format.{tape_bytes}
use Rattle.tape_file.specs.Tapes.{FourTapes}
use Rattle.program_views.specs.Views.{lengths_of}
use Rattle.tape_twin.specs.FirstDifference.{at_entry, at_word}
use Rattle.client_view.specs.TapeMaps.{client_twinned}
use Rattle.client_runs.specs.declared.twin_err.TwinErr.{TwinErr}
use Rattle.client_runs.specs.declared.twin_err.TwinErr.TheVariants as refusal
use Rattle.program_commands.specs.Judging.{Finding}
use Rattle.program_commands.specs.Programs.{program_at}
use Rattle.program_commands.specs.Reading.{inputs_at, tape_file_at}
use Rattle.tape_commands.specs.Twin.{entry_line, word_line, unlike, writes_to}
use Rattle.client_commands.specs.Difference.{ClientDifference, seen_by_all, at_element, client_difference}

-- ---- inputs that are not alike to the client

-- at this place other words are handed over
unfoldable pub element_line : (place first second : ℕ) → List ℕ
element_line place first second =
    codes "error: Z1 published " ++ decimal place ++ codes " " ++ decimal first ++ codes " " ++ decimal second ++ codes "\n"

-- inputs without difference are taken, others refused for the first one
unfoldable pub by_client_difference : Option ClientDifference → Result (Option ClientDifference) Cause
by_client_difference None = Ok None
by_client_difference (Some (seen_by_all (at_entry name))) = Err (unlike (entry_line name))
by_client_difference (Some (seen_by_all (at_word place first second))) = Err (unlike (word_line place first second))
by_client_difference (Some (at_element place first second)) = Err (unlike (element_line place first second))

-- the stop of inputs that are refused
abbrev pub IsClientTwinStop : TwinErr → Stop → Type 0
IsClientTwinStop (refusal.PublicDiffers name) stop = IsRefusalFor (unlike (entry_line name)) stop
IsClientTwinStop (refusal.OpenedDiffers place first second) stop = IsRefusalFor (unlike (word_line place first second)) stop
IsClientTwinStop (refusal.PublishedDiffers place first second) stop = IsRefusalFor (unlike (element_line place first second)) stop
IsClientTwinStop refusal.Memory stop = stop ≡ stops.Memory

-- ---- the twin

-- the file of the tapes that the second inputs are run with
unfoldable pub client_twin_bytes : TypedProgramTree → (first second : List Entry) → FourTapes → (budget : ℕ) → List ℕ
client_twin_bytes program first second tapes budget = tape_bytes (client_twinned program first second tapes budget)

-- nothing is printed, and how the runs end changes nothing
abbrev pub client_twin_effect : ClientTwinAsk → TypedProgramTree → (first second : List Entry) → FourTapes → Effect
client_twin_effect ask program first second tapes = writes_to ask.to (client_twin_bytes program first second tapes ask.budget)

-- Each file is read and then checked: the program and its size, the two inputs, the tape; then the program is run on both inputs.
unfoldable pub client_twin_of : Finding → ClientTwinAsk → Contents → Answer
client_twin_of found ask files = do
  program ← program_at found files ask.program
  first ← inputs_at files ask.input
  second ← inputs_at files ask.second
  tapes ← tape_file_at files ask.tape
  _ ← by_client_difference (client_difference program first second (lengths_of tapes) ask.budget)
  Ok (client_twin_effect ask program first second tapes)

-- the paths that `client-twin` reads; it writes one
unfoldable pub client_twin_paths : ClientTwinAsk → List (List ℕ)
client_twin_paths ask = ask.program ∷ ask.input ∷ ask.second ∷ ask.tape ∷ []
