-- The names of functions.
use Rattle.std.specs.Prelude.{ℕ, List}
use denote.Ref.{Bor}
use Rattle.program_trees.specs.declared.function.Function.{Function}

abbrev pub name_of : Bor Function → List ℕ
name_of f = f.now.function.text
