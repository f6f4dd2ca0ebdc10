-- What every list of reached instances is.
use Rattle.std.specs.Prelude.{◌≡◌, List, [], ◌∷◌, ◌++◌}
use Rattle.program_trees.specs.Lists.{Among}
use Rattle.program_trees.specs.TypedPrograms.{TypedProgramTree}
use Rattle.reached_instances.specs.Instances.{Instance}
use Rattle.reached_instances.specs.Calls.{main_of}
use Rattle.reached_instances.specs.Reached.{IsReached, IsReachedList}

abbrev pub BeginsWithMain : TypedProgramTree → Type 0
BeginsWithMain p = (is : List Instance) → IsReachedList p is → (others : List Instance) × (is ≡ main_of p ++ others)

-- no instance stands again after itself
abbrev pub IsEachOnce : List Instance → Type 0
IsEachOnce [] = Unit {0}
IsEachOnce (i ∷ is) = (Among i is → ⊥) × IsEachOnce is

abbrev pub HasEachOnce : TypedProgramTree → Type 0
HasEachOnce p = (is : List Instance) → IsReachedList p is → IsEachOnce is

abbrev pub HasEachReached : TypedProgramTree → Type 0
HasEachReached p = (is : List Instance) (i : Instance) → IsReachedList p is → IsReached p i → Among i is

abbrev pub IsTheOnlyList : TypedProgramTree → Type 0
IsTheOnlyList p = (is js : List Instance) → IsReachedList p is → IsReachedList p js → is ≡ js
