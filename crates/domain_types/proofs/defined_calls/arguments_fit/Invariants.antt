use Rattle.std.proofs.Common.{◌≡◌, length}
use Rattle.std.specs.Prelude.{◌&&◌}
use Rattle.domain_types.specs.Types.{is_without}
use Rattle.domain_types.specs.Views.{setting}
use Rattle.domain_types.specs.ExpressionTypes.{argument_faults}
use Rattle.domain_types.specs.inner.LeastFault.{least}
use Rattle.domain_types.proofs.defined_calls.arguments_fit.Given as goal

abbrev pub invariant-loop-parameter : goal.invariant-loop-parameter
invariant-loop-parameter l = record {
  fits : is_without (argument_faults (setting l.callee) l.fn.parameters l.fn.arguments)
      ≡ l.fits && is_without (argument_faults (setting l.callee) l.parameters l.arguments);
  least_fault : least l.initial.least_fault (argument_faults (setting l.callee) l.fn.parameters l.fn.arguments)
      ≡ least l.least_fault (argument_faults (setting l.callee) l.parameters l.arguments);
}

abbrev pub decreases-loop-parameter : goal.decreases-loop-parameter
decreases-loop-parameter l = length l.parameters
