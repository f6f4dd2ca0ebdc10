-- The lines that tell the calls of children.
use Rattle.std.specs.Prelude.{ℕ, List, ◌++◌, codes}
use Rattle.std.specs.Fmt.{decimal}
use Rattle.std.specs.List.{flat_map}
use Rattle.outside.specs.Spawner.{ChildCall, started, awaited}

-- a word after a blank
abbrev pub word_told : List ℕ → List ℕ
word_told word = codes " " ++ word

-- `start WORD WORD ..` or `wait CHILD`
abbrev pub call_told : ChildCall → List ℕ
call_told (started words child) = codes "start" ++ flat_map word_told words ++ codes "\n"
call_told (awaited child) = codes "wait " ++ decimal child ++ codes "\n"

-- each call as a line
abbrev pub calls_told : List ChildCall → List ℕ
calls_told calls = flat_map call_told calls
