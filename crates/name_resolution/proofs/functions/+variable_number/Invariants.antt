use Rattle.std.proofs.Common.{length}
use Rattle.name_resolution.proofs.functions.+variable_number.Given as goal

abbrev pub decreases-variable_number : goal.decreases-variable_number
decreases-variable_number l = length l.variables.now
