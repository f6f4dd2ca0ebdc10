use Rattle.std.proofs.Common.{◌≡◌}
use Rattle.reached_instances.specs.Domains.{bound_below}
use Rattle.reached_instances.proofs.binding.binding_of.Given as goal

abbrev pub invariant-loop-variable : goal.invariant-loop-variable
invariant-loop-variable l = l.binding.items ≡ bound_below l.variable l.function.slots.items l.arguments
