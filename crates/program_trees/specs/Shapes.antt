-- The shape of a value of a data type.
use Rattle.std.specs.Prelude.{Bool}
use Rattle.program_trees.specs.declared.expression.DataType.{DataType}
use Rattle.program_trees.specs.declared.kinds.Shape.{Shape}

abbrev pub shape_of : DataType → (array : Bool) → Shape
shape_of element array = record { element = element; array = array }
