-- The instances that a program reaches, in the order in which they are first called.
use Rattle.std.specs.Prelude.{◌≡◌, List, ◌++◌, length, Some}
use Rattle.std.specs.List.{slice_get, flat_map}
use Rattle.program_trees.specs.Lists.{Among}
use Rattle.program_trees.specs.TypedPrograms.{TypedFunctionTree, TypedProgramTree}
use Rattle.reached_instances.specs.Instances.{Instance, firsts}
use Rattle.reached_instances.specs.Calls.{called_by, main_of}

-- the least set with `main` that is closed under calls
pub data IsReached (p : TypedProgramTree) : Instance → Type 0 where
  begins : (i : Instance) → Among i (main_of p) → IsReached p i
  follows : (i j : Instance) → IsReached p i → Among j (called_by p i) → IsReached p j

-- `main`, and then what the instances of the list call, one after another, each once; and no other
pub record IsReachedList (p : TypedProgramTree) (list : List Instance) : Type 0 where
  pub in_order : list ≡ firsts (main_of p ++ flat_map (called_by p) list)
  pub reached : (i : Instance) → Among i list → IsReached p i

-- its function is there, and each domain variable is bound
pub record IsBound (p : TypedProgramTree) (i : Instance) : Type 0 where
  pub called : TypedFunctionTree
  pub there : slice_get p.functions i.function ≡ Some called
  pub bound : length i.binding ≡ called.variables
