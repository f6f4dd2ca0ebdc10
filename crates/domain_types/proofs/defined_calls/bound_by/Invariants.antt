use Rattle.std.proofs.Common.{◌≡◌, length}
use Rattle.domain_types.specs.ExpressionTypes.{bound_from, bound_by}
use Rattle.domain_types.proofs.defined_calls.bound_by.Given as goal

abbrev pub invariant-loop-parameter : goal.invariant-loop-parameter
invariant-loop-parameter l = bound_by l.name l.fn.parameters l.fn.arguments ≡ bound_from l.domain l.name l.parameters l.arguments

abbrev pub decreases-loop-parameter : goal.decreases-loop-parameter
decreases-loop-parameter l = length l.parameters
