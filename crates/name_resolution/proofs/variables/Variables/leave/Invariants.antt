use Rattle.std.proofs.Common.{◌≡◌, length}
use Rattle.name_resolution.proofs.variables.Variables.leave.Given as goal

abbrev pub invariant-loop-self : goal.invariant-loop-self
invariant-loop-self l = l.self.outer ≡ l.initial.self.outer

abbrev pub decreases-loop-self : goal.decreases-loop-self
decreases-loop-self l = length l.self.block
