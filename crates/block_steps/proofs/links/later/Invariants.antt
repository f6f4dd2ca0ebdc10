use Rattle.std.proofs.Common.{◌≡◌, ◌++◌, drop}
use Rattle.block_steps.proofs.links.later.Given as goal

abbrev pub invariant-loop-at : goal.invariant-loop-at
invariant-loop-at l = l.left ++ drop l.at l.messages ≡ drop l.from l.messages
