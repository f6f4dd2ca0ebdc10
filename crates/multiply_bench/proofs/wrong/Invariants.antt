use Rattle.std.proofs.Common.{◌≤◌}
use Rattle.multiply_bench.proofs.wrong.Given as goal

abbrev pub invariant-loop-at : goal.invariant-loop-at
invariant-loop-at l = l.wrong ≤ l.at
