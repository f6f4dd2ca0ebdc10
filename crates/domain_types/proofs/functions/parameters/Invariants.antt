use Rattle.std.proofs.Common.{◌≡◌, length}
use Rattle.domain_types.specs.FunctionTypes.{with_parameters, parameter_faults}
use Rattle.domain_types.specs.Views.{setting}
use Rattle.domain_types.specs.inner.LeastFault.{least}
use Rattle.domain_types.proofs.functions.parameters.Given as goal

abbrev pub invariant-loop-parameter : goal.invariant-loop-parameter
invariant-loop-parameter l = record {
  least_fault : least l.initial.least_fault (parameter_faults (setting l.here) l.initial.variables l.fn.list)
      ≡ least l.least_fault (parameter_faults (setting l.here) l.variables l.list);
  variables : with_parameters (setting l.here) l.fn.list l.initial.variables ≡ with_parameters (setting l.here) l.list l.variables;
}

abbrev pub decreases-loop-parameter : goal.decreases-loop-parameter
decreases-loop-parameter l = length l.list
