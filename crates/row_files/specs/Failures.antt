-- The calls of objects that a row lets fail.
use Rattle.std.specs.Prelude.{ℕ, List, ◌==◌, map}
use Rattle.std.specs.List.{filter}
use Rattle.row_files.specs.declared.row.Object.{Object}
use Rattle.row_files.specs.declared.row.Object.TheVariants.{Files, Out, Err, Links, Children}
use Rattle.row_files.specs.declared.row.Failing.{Failing}

-- the number of an object, in the order in which they stand
abbrev pub object_number : Object → ℕ
object_number Files = 0
object_number Out = 1
object_number Err = 2
object_number Links = 3
object_number Children = 4

-- the calls of this object
abbrev pub calls_failing : Object → List Failing → List ℕ
calls_failing object failing = map (λ call. call.call) (filter (λ call. object_number call.object == object_number object) failing)
