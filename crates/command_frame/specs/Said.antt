-- What the lines of the error stream have in common.
use Rattle.std.specs.Prelude.{ℕ, ◌≡◌, ◌-◌, List, codes, drop, length, take}

-- it begins with `error: ` and ends with a newline
abbrev pub IsErrorLine : List ℕ → Type 0
IsErrorLine line = (take 7 line ≡ codes "error: ") × (drop (length line - 1) line ≡ codes "\n")
