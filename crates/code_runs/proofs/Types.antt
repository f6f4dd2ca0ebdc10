-- A type and the form in which its words are told.
use Rattle.std.proofs.Common.{◌≡◌, refl}
use Rattle.program_trees.specs.declared.expression.DataType.{DataType}
use Rattle.program_trees.specs.declared.expression.DataType.TheVariants.{Uint64, Int64}
use Rattle.program_trees.specs.declared.expression.DataType.TheVariants as datatype
use Rattle.code_places.specs.Places.{element_type_of}
use Rattle.code_runs.specs.Telling.{type_of}

pub same_type : (t : DataType) → type_of (element_type_of t) ≡ t
same_type Uint64 = refl
same_type Int64 = refl
same_type datatype.Bool = refl
