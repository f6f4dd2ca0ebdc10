use Rattle.std.proofs.Common.{◌≡◌, [], take, drop}
use Rattle.std.specs.Prelude.{reverse}
use Rattle.domain_types.specs.FunctionTypes.{domain_variables_faults}
use Rattle.declarations.specs.Views.{declared}
use Rattle.domain_types.specs.inner.LeastFault.{least}
use Rattle.domain_types.proofs.heads.head.Given as goal

abbrev pub invariant-loop-index : goal.invariant-loop-index
invariant-loop-index l =
    least l.initial.least_fault (domain_variables_faults (declared l.declarations) l.protections l.function.parameters.items [] l.function.variables.items)
    ≡ least l.least_fault (domain_variables_faults (declared l.declarations) l.protections l.function.parameters.items
    (reverse (take l.index l.function.variables.items)) (drop l.index l.function.variables.items))
