-- Which functions are well typed under a binding, and which programs.
use Rattle.std.specs.Prelude.{◌≡◌, ◌≤◌, false, IsTrue, length, Some}
use Rattle.std.specs.List.{slice_get}
use Rattle.program_trees.specs.declared.typed_function.Returned.{Returned}
use Rattle.program_trees.specs.declared.typed_function.Returned.TheVariants.{Nothing, Value}
use Rattle.program_trees.specs.TypedStatements.{TypedStatementTrees}
use Rattle.program_trees.specs.TypedPrograms.{TypedFunctionTree, TypedProgramTree}
use Rattle.reached_instances.specs.Domains.{Setting}
use Rattle.reached_instances.specs.Instances.{Instance}
use Rattle.reached_instances.specs.Reached.{IsReached}
use Rattle.well_typed.specs.Statements.{AreWellTypedStatements, one_returns}

-- a function that gives a value back never falls off its end
abbrev pub GivesBack : Returned → TypedStatementTrees → Type 0
GivesBack Nothing body = Unit {0}
GivesBack (Value s) body = IsTrue (one_returns body)

-- where the body of an instance stands
abbrev pub setting_of : TypedProgramTree → Instance → TypedFunctionTree → Setting
setting_of p i f = record { functions = p.functions; slots = f.slots; binding = i.binding }

pub record IsWellTypedInstance (p : TypedProgramTree) (i : Instance) : Type 0 where
  pub called : TypedFunctionTree
  pub there : slice_get p.functions i.function ≡ Some called
  pub bound : length i.binding ≡ called.variables
  pub parameters : called.parameters ≤ length called.slots
  pub body : AreWellTypedStatements (setting_of p i called) called.given false called.body
  pub returns : GivesBack called.given called.body

-- `main` is called without arguments, and gives nothing back
pub record HasPlainMain (p : TypedProgramTree) : Type 0 where
  pub called : TypedFunctionTree
  pub there : slice_get p.functions 0 ≡ Some called
  pub variables : called.variables ≡ 0
  pub parameters : called.parameters ≡ 0
  pub given : called.given ≡ Nothing

-- each function that `main` reaches is well typed under each binding with which it is reached
pub record IsWellTyped (p : TypedProgramTree) : Type 0 where
  pub main : HasPlainMain p
  pub instances : (i : Instance) → IsReached p i → IsWellTypedInstance p i
