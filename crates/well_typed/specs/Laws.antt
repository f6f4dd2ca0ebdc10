-- What is true of the typed tree of an accepted program.
use Rattle.std.specs.Prelude.{◌≡◌, ℕ, List, map, length, Some}
use Rattle.std.specs.List.{slice_get}
use Rattle.program_trees.specs.Programs.{FunctionTree, ProgramTree}
use Rattle.domain_types.specs.declared.value_type.Protection.{Protection}
use Rattle.domain_types.specs.declared.value_type.Protection.TheVariants as checked
use Rattle.domain_types.specs.Declarations.{declared_by, functions_of}
use Rattle.domain_types.specs.Reached.{IsChecked}
use Rattle.domain_types.specs.ProgramTypes.{IsAccepted}
use Rattle.program_trees.specs.TypedPrograms.{TypedProgramTree}
use Rattle.name_resolution.specs.Order.{reached}
use Rattle.name_resolution.specs.Functions.{typed_of}
use Rattle.reached_instances.specs.declared.instance.BoundDomain.{BoundDomain}
use Rattle.reached_instances.specs.declared.instance.BoundDomain.TheVariants.{Public, Private}
use Rattle.reached_instances.specs.Instances.{Instance}
use Rattle.reached_instances.specs.Reached.{IsReached}
use Rattle.well_typed.specs.Programs.{IsWellTyped}
use Rattle.well_typed.specs.Sources.{IsWellWritten}

abbrev pub IsWellTypedWhereAccepted : ProgramTree → Type 0
IsWellTypedWhereAccepted p = IsAccepted p → IsWellWritten p → (t : TypedProgramTree) → typed_of p ≡ Some t → IsWellTyped t

-- the domain that the checker calls so
abbrev pub bound_domain : Protection → BoundDomain
bound_domain checked.Public = Public
bound_domain (checked.Private k) = Private k

-- the checker checked an instance: the function that has this number in the typed tree, under its own number, with the domains that
-- are bound
pub record IsCheckedInstance (p : ProgramTree) (i : Instance) : Type 0 where
  pub function : FunctionTree
  pub number : ℕ
  pub domains : List Protection
  pub named : slice_get (reached (declared_by p)) i.function ≡ Some function
  pub there : slice_get (functions_of p.items) number ≡ Some function
  pub count : length domains ≡ length function.variables
  pub binding : i.binding ≡ map bound_domain domains
  pub checked : IsChecked p (record { function = number; binding = domains })

abbrev pub AreInstancesChecked : ProgramTree → Type 0
AreInstancesChecked p =
    IsAccepted p → IsWellWritten p → (t : TypedProgramTree) → typed_of p ≡ Some t → (i : Instance) → IsReached t i → IsCheckedInstance p i
