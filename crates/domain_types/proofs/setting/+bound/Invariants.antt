use Rattle.std.proofs.Common.{length}
use Rattle.domain_types.proofs.setting.+bound.Given as goal

abbrev pub decreases-bound : goal.decreases-bound
decreases-bound l = length l.variables.now
