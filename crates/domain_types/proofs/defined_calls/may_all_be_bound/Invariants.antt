use Rattle.std.proofs.Common.{◌≡◌, length}
use Rattle.std.specs.Prelude.{◌&&◌}
use Rattle.domain_types.specs.Types.{is_without}
use Rattle.domain_types.specs.ExpressionTypes.{binding_faults}
use Rattle.domain_types.specs.inner.LeastFault.{least}
use Rattle.domain_types.proofs.defined_calls.may_all_be_bound.Given as goal

abbrev pub invariant-loop-variable : goal.invariant-loop-variable
invariant-loop-variable l = record {
  fits : is_without (binding_faults l.place l.fn.variables l.parameters l.arguments)
      ≡ l.fits && is_without (binding_faults l.place l.variables l.parameters l.arguments);
  least_fault : least l.initial.least_fault (binding_faults l.place l.fn.variables l.parameters l.arguments)
      ≡ least l.least_fault (binding_faults l.place l.variables l.parameters l.arguments);
}

abbrev pub decreases-loop-variable : goal.decreases-loop-variable
decreases-loop-variable l = length l.variables
