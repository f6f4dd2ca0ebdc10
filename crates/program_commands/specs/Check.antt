-- The command `check`.
use Rattle.std.specs.Prelude.{ℕ, List, [], ◌∷◌, Ok, codes}
use Rattle.outside.specs.Files.{Contents}
use Rattle.command_frame.specs.declared.status.Status.TheVariants.{Done}
use Rattle.command_frame.specs.Answer.{Answer, Effect, ◌>>=◌}
use Rattle.program_commands.specs.Judging.{Finding}
use Rattle.program_commands.specs.Programs.{program_at}

unfoldable pub check_text : List ℕ
check_text = codes "ok\n"

abbrev pub check_effect : Effect
check_effect = record { writes = []; text = check_text; status = Done }

-- the program is read and judged, its size too, and no more
unfoldable pub check_of : Finding → (path : List ℕ) → Contents → Answer
check_of found path files = do
  program ← program_at found files path
  Ok check_effect

-- the path that `check` reads
unfoldable pub check_paths : (path : List ℕ) → List (List ℕ)
check_paths path = path ∷ []
