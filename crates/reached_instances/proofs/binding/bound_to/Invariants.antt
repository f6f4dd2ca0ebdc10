use Rattle.std.proofs.Common.{◌≡◌, length}
use Rattle.reached_instances.specs.Domains.{joined_domain, bound_to}
use Rattle.reached_instances.proofs.binding.bound_to.Given as goal

abbrev pub invariant-loop-slot : goal.invariant-loop-slot
invariant-loop-slot l = bound_to l.variable l.fn.slots l.fn.arguments ≡ joined_domain l.bound (bound_to l.variable l.slots l.arguments)

abbrev pub decreases-loop-slot : goal.decreases-loop-slot
decreases-loop-slot l = length l.slots
