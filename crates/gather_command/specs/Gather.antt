-- The command `gather`: a miner puts the share files that several owners dealt it end to end.
use Rattle.std.specs.Prelude.{◌≡◌, ℕ, List, [], ◌∷◌, ◌++◌, codes, Result, Ok}
use Rattle.std.specs.Fmt.{decimal}
use Rattle.outside.specs.Files.{Contents}
use Rattle.command_frame.specs.declared.status.Status.TheVariants.{Done, Input}
use Rattle.command_frame.specs.Answer.{Answer, Cause, Effect, ◌>>=◌}
use Rattle.command_frame.specs.Stops.{IsRefusalFor, memory_line}
use Rattle.command_frame.specs.declared.stop.Stop.{Stop}
use Rattle.command_frame.specs.declared.stop.Stop.TheVariants as stops
use Rattle.command_words.specs.Ask.{GatherAsk}
use Rattle.input_share.specs.ShareFile.{MinerFile}
use Rattle.input_share.specs.Written.{file_bytes}
use Rattle.proto_core.specs.declared.party.Number.{Number}
use Rattle.gather_command.specs.Gathering.{gathered}
use Rattle.gather_command.specs.declared.gathering.GatherErr.{GatherErr}
use Rattle.gather_command.specs.declared.gathering.GatherErr.TheVariants as refusal
use Rattle.program_commands.specs.Reading.{read_or, share_at}

-- ---- files that don't go together

-- two inputs have this name
unfoldable pub name_line : (name : List ℕ) → List ℕ
name_line name = codes "error: G1 " ++ name ++ codes "\n"

-- the lengths of this file, counted from 0, don't go with those before it
unfoldable pub lens_line : (file : ℕ) → List ℕ
lens_line file = codes "error: G2 file " ++ decimal file ++ codes "\n"

-- the line for each refusal; it decides nothing of want of memory
abbrev pub gather_line : GatherErr → List ℕ
gather_line (refusal.NameTwice name) = name_line name
gather_line (refusal.OtherLengths file) = lens_line file
gather_line refusal.Memory = memory_line

unfoldable pub ungathered : GatherErr → Cause
ungathered err = record { status = Input; line = gather_line err }

-- the stop of files that are refused
abbrev pub IsGatherStop : GatherErr → Stop → Type 0
IsGatherStop (refusal.NameTwice name) stop = IsRefusalFor (record { status = Input; line = name_line name }) stop
IsGatherStop (refusal.OtherLengths file) stop = IsRefusalFor (record { status = Input; line = lens_line file }) stop
IsGatherStop refusal.Memory stop = stop ≡ stops.Memory

-- ---- the file of all

-- the share files of a miner at these paths, in order
unfoldable pub shares_at : Contents → Number → (paths : List (List ℕ)) → Result (List MinerFile) Cause
shares_at files miner [] = Ok []
shares_at files miner (path ∷ paths) = do
  share ← share_at files miner path
  shares ← shares_at files miner paths
  Ok (share ∷ shares)

-- nothing is printed
abbrev pub gather_effect : (to : List ℕ) → MinerFile → Effect
gather_effect to file = record { writes = record { path = to; bytes = file_bytes file } ∷ []; text = []; status = Done }

-- each file is read and then checked, in order; then they are put end to end
unfoldable pub gather_of : GatherAsk → Contents → Answer
gather_of ask files = do
  first ← share_at files ask.miner ask.first
  more ← shares_at files ask.miner ask.more
  file ← read_or ungathered (gathered first more)
  Ok (gather_effect ask.to file)

-- the paths that `gather` reads, and that it writes
unfoldable pub gather_paths : GatherAsk → List (List ℕ)
gather_paths ask = ask.first ∷ ask.more

unfoldable pub gathered_paths : (to : List ℕ) → List (List ℕ)
gathered_paths to = to ∷ []
