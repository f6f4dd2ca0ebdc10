use Rattle.std.proofs.Common.{◌≡◌, length}
use Rattle.domain_types.specs.ExpressionTypes.{binding_by}
use Rattle.domain_types.proofs.Bindings.{put_before}
use Rattle.domain_types.proofs.defined_calls.binding.Given as goal

abbrev pub invariant-loop-variable : goal.invariant-loop-variable
invariant-loop-variable l = binding_by l.fn.variables l.parameters l.arguments ≡ put_before l.domains.items (binding_by l.variables l.parameters l.arguments)

abbrev pub decreases-loop-variable : goal.decreases-loop-variable
decreases-loop-variable l = length l.variables
