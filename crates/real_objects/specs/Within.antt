-- What is taken of a reader's bytes.
use Rattle.std.specs.Prelude.{ℕ, List, length, Option, Some, None, nat_le, if◌then◌else◌}

-- the bytes, unless they are more than this many
unfoldable pub bytes_within : ℕ → List ℕ → Option (List ℕ)
bytes_within most bytes = if nat_le (length bytes) most then Some bytes else None
