-- The functions of a program by their numbers, as they are kept and as trees.
use Rattle.std.proofs.Common.{◌≡◌, ℕ, ◌<◌, ◌≤◌, List, length, get_or, refl, ap, ◌∙◌, Some, None}
use Rattle.std.specs.Prelude.{map, option_map}
use Rattle.std.specs.List.{slice_get}
use Rattle.std.proofs.lemmas.Option.{slice_get-map, slice_get_read, slice_get_past}
use Rattle.program_trees.specs.declared.typed_function.TypedFunction.{TypedFunction}
use Rattle.program_trees.specs.TypedPrograms.{typed_function_tree}

pub the_function : (fs : List TypedFunction) (k : ℕ) (f : TypedFunction) → k < length fs → f ≡ get_or fs k f
    → slice_get (map typed_function_tree fs) k ≡ Some (typed_function_tree f)
the_function fs k f within is = slice_get-map typed_function_tree fs k ∙ ap (option_map typed_function_tree) (slice_get_read fs (length fs) k f refl within is)

pub no_function : (fs : List TypedFunction) (k : ℕ) → length fs ≤ k → slice_get (map typed_function_tree fs) k ≡ None
no_function fs k past = slice_get-map typed_function_tree fs k ∙ ap (option_map typed_function_tree) (slice_get_past fs k past)
