-- Paths that begin with a prefix.
use Rattle.std.specs.Prelude.{ℕ, List, ◌++◌}
use Rattle.command_frame.specs.Answer.{Written}

-- a path after the prefix
unfoldable pub path_to : (prefix suffix : List ℕ) → List ℕ
path_to prefix suffix = prefix ++ suffix

abbrev pub file_of : (prefix suffix : List ℕ) → (bytes : List ℕ) → Written
file_of prefix suffix bytes = record { path = path_to prefix suffix; bytes = bytes }
