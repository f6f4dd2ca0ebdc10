use Rattle.std.proofs.Common.{◌≡◌, take}
use Rattle.std.specs.Prelude.{reverse}
use Rattle.domain_types.specs.FunctionTypes.{is_variable}
use Rattle.domain_types.proofs.heads.is_variable.Given as goal

abbrev pub invariant-loop-variable : goal.invariant-loop-variable
invariant-loop-variable l = l.found ≡ is_variable l.name (reverse (take l.variable-index l.before))
