-- The command `compile`: the code of a program, written to a file.
use Rattle.std.specs.Prelude.{◌≡◌, ℕ, List, [], ◌∷◌, ◌++◌, Ok, length, codes}
use Rattle.std.specs.Fmt.{decimal}
use Rattle.outside.specs.Files.{Contents}
use Rattle.command_frame.specs.declared.status.Status.TheVariants.{Done}
use Rattle.command_frame.specs.Answer.{Answer, Effect, ◌>>=◌}
use Rattle.command_words.specs.Ask.{CompileAsk}
use Rattle.bytecode.specs.Raw.{RawCode}
use Rattle.bytecode.specs.Written.{written_code}
use Rattle.program_run.specs.Meaning.{mean_in}
use Rattle.language_model.specs.Effects.{World}
use Rattle.language_model.specs.Reports.{evaluated}
use Rattle.program_run.specs.RawCodes.{raw_code_of_program}
use Rattle.reached_instances.specs.Instances.{Instance}
use Rattle.program_trees.specs.TypedPrograms.{TypedProgramTree}
use Rattle.verified_code.specs.Settled.{settled}
use Rattle.verified_code.specs.Verified.{IsVerified}
use Rattle.program_commands.specs.Judging.{Finding}
use Rattle.program_commands.specs.Programs.{program_at}

unfoldable pub functions_text : (count : ℕ) → List ℕ
functions_text count = codes "functions " ++ decimal count ++ codes "\n"

-- the bytes of the program's code
unfoldable pub code_bytes : TypedProgramTree → List Instance → List ℕ
code_bytes program reached = written_code (raw_code_of_program program reached)

-- the code is verified, and what is settled of it does what the program does: in each world, clear or blind, with each budget and whatever
-- the answers
abbrev pub CodeMeansProgram : TypedProgramTree → List Instance → Type 0
CodeMeansProgram program reached =
    IsVerified (raw_code_of_program program reached)
    × ((w : World) (budget : ℕ) (answers : List ℕ) →
    mean_in w (settled (raw_code_of_program program reached)) budget answers ≡ evaluated w program budget answers)

-- code has a function for each instance
abbrev pub compile_effect : List ℕ → TypedProgramTree → List Instance → Effect
compile_effect path program reached =
    record { writes = record { path = path; bytes = code_bytes program reached } ∷ []; text = functions_text (length reached); status = Done }

-- the same of code in memory
abbrev pub written_effect : (path : List ℕ) → RawCode → Effect
written_effect path code =
    record { writes = record { path = path; bytes = written_code code } ∷ []; text = functions_text (length code.functions); status = Done }

unfoldable pub compile_of : Finding → CompileAsk → Contents → Answer
compile_of found ask files = do
  program ← program_at found files ask.program
  Ok (compile_effect ask.code program found.reached)

-- the paths that `compile` reads, and those that it writes
unfoldable pub compile_paths : CompileAsk → List (List ℕ)
compile_paths ask = ask.program ∷ []

unfoldable pub compiled_paths : CompileAsk → List (List ℕ)
compiled_paths ask = ask.code ∷ []
