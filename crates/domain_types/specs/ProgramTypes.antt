-- The faults of a program, when it is accepted, and which fault is told.
use Rattle.std.specs.Prelude.{ℕ, ◌≡◌, Bool, true, false, not, ◌&&◌, ◌||◌, List, [], ◌∷◌, ◌++◌, Some, codes, bytes_eq, is_some}
use Rattle.std.specs.List.{slice_get, list_any}
use Rattle.program_trees.specs.declared.statement.Identifier.{Identifier}
use Rattle.program_trees.specs.declared.function.ResultType.{ResultType}
use Rattle.program_trees.specs.declared.function.ResultType.TheVariants as returned
use Rattle.program_trees.specs.Programs.{FunctionTree, ItemTree, imports, kind, domain, defines, ProgramTree}
use Rattle.domain_types.specs.declared.fault.TypeProblem.TheVariants.{UnknownName, Twice, NoMain, BadImport}
use Rattle.domain_types.specs.declared.fault.TypeFault.{TypeFault}
use Rattle.domain_types.specs.Types.{fault_if, is_without}
use Rattle.declarations.specs.Declarations.{Declared, declared_by, functions_of, number_in, is_known_kind, built_in_named}
use Rattle.domain_types.specs.ExpressionTypes.{within}
use Rattle.domain_types.specs.FunctionTypes.{function_faults, head_faults}
use Rattle.domain_types.specs.Reached.{Call, Instance, Calls, IsChecked}
use Rattle.sc_text.specs.Lists.{Among}
use Rattle.domain_types.specs.Least.{NotAfter}

-- DECLARATIONS

abbrev pub is_module : List ℕ → Bool
is_module x = bytes_eq x (codes "stdlib") || bytes_eq x (codes "shared3p")

abbrev pub is_one_of : List ℕ → List (List ℕ) → Bool
is_one_of x names = is_some (number_in x names)

-- the names of kinds and domains, and those of functions, after one more declaration
abbrev pub more_kinds : List (List ℕ) → ItemTree → List (List ℕ)
more_kinds ks (kind x) = ks ++ x.text ∷ []
more_kinds ks (domain x k) = ks ++ x.text ∷ []
more_kinds ks _ = ks

abbrev pub more_functions : List (List ℕ) → ItemTree → List (List ℕ)
more_functions fs (defines f) = fs ++ f.function.text ∷ []
more_functions fs _ = fs

-- a kind or a domain called as one before it, or as the kind of the import, which stands before all
abbrev pub space_faults : Declared → (kinds : List (List ℕ)) → Identifier → List TypeFault
space_faults d ks x = fault_if (is_one_of x.text ks || (d.shared3p && bytes_eq x.text (codes "shared3p"))) x.place Twice

-- a declaration after these kinds and domains, and after these functions; what a function declares inside is not among these
abbrev pub item_faults : Declared → (kinds functions : List (List ℕ)) → ItemTree → List TypeFault
item_faults d ks fs (imports x) = fault_if (not (is_module x.text)) x.place BadImport
item_faults d ks fs (kind x) =
    fault_if (not (bytes_eq x.text (codes "shared3p"))) x.place UnknownName ++ space_faults d ks x
item_faults d ks fs (domain x k) =
    space_faults d ks x ++ fault_if (not (is_known_kind d k.text)) k.place UnknownName
item_faults d ks fs (defines f) =
    fault_if (is_some (built_in_named d f.function.text) || is_one_of f.function.text fs) f.function.place Twice

abbrev pub items_faults : Declared → (kinds functions : List (List ℕ)) → List ItemTree → List TypeFault
items_faults d ks fs [] = []
items_faults d ks fs (i ∷ is) = item_faults d ks fs i ++ items_faults d (more_kinds ks i) (more_functions fs i) is

abbrev pub is_void : ResultType → Bool
is_void returned.Void = true
is_void (returned.Value t) = false

-- `void main()`, no template and without parameters
abbrev pub is_main : FunctionTree → Bool
is_main f =
    bytes_eq f.function.text (codes "main") && is_without f.variables && is_void f.returned && is_without f.parameters

abbrev pub has_main : List FunctionTree → Bool
has_main fs = list_any is_main fs

-- the faults of the declarations themselves, and of a program without `main` at the end of its text
abbrev pub declaring_faults : ProgramTree → List TypeFault
declaring_faults p =
    items_faults (declared_by p) [] [] p.items ++ fault_if (not (has_main (functions_of p.items))) p.end NoMain

-- THE FAULTS OF A PROGRAM

-- those of its declarations; those of each function that is checked, with its domains; and those of the head of each
-- function that is called there, whether or not that call is refused
pub data IsFault (p : ProgramTree) : TypeFault → Type 0 where
  declaring : (g : TypeFault) → Among g (declaring_faults p) → IsFault p g
  inside :
      (i : Instance) (f : FunctionTree) (g : TypeFault) → IsChecked p i → slice_get (functions_of p.items) i.function ≡ Some f →
      Among g (function_faults (within (declared_by p) f i.binding) f) → IsFault p g
  of_head :
      (i : Instance) (c : Call) (f : FunctionTree) (g : TypeFault) → IsChecked p i → Calls p i c →
      slice_get (functions_of p.items) c.function ≡ Some f → Among g (head_faults (declared_by p) p.items f) → IsFault p g

-- a program is accepted where it has no fault
pub record IsAccepted (p : ProgramTree) : Type 0 where
  pub faultless : (g : TypeFault) → IsFault p g → ⊥

-- the fault that is told: at the least place, and there of the least number
pub record IsRefused (p : ProgramTree) (g : TypeFault) : Type 0 where
  pub is : IsFault p g
  pub first : (h : TypeFault) → IsFault p h → NotAfter g h
