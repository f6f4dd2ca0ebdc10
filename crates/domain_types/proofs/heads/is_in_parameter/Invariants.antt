use Rattle.std.proofs.Common.{◌≡◌, drop}
use Rattle.std.specs.Prelude.{◌||◌}
use Rattle.domain_types.specs.FunctionTypes.{is_in_parameter}
use Rattle.domain_types.proofs.heads.is_in_parameter.Given as goal

abbrev pub invariant-loop-parameter : goal.invariant-loop-parameter
invariant-loop-parameter l = is_in_parameter l.name l.parameters ≡ l.found || is_in_parameter l.name (drop l.parameter-index l.parameters)
