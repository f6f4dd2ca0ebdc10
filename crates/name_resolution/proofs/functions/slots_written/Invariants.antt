use Rattle.std.proofs.Common.{◌≡◌, Some, take}
use Rattle.std.specs.Prelude.{map}
use Rattle.declarations.specs.Views.{declared}
use Rattle.name_resolution.specs.Functions.{slots_written}
use Rattle.name_resolution.specs.inner.Views.{type_at}
use Rattle.name_resolution.proofs.functions.slots_written.Given as goal

abbrev pub invariant-loop-each : goal.invariant-loop-each
invariant-loop-each l = slots_written (declared l.declarations) l.variables (map type_at (take l.each-index l.each-items)) ≡ Some l.slots.items
