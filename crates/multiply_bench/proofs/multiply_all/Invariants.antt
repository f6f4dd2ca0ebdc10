use Rattle.std.proofs.Common.{◌-◌, ◌≤◌}
use Rattle.multiply_bench.proofs.multiply_all.Given as goal

abbrev pub invariant-loop-from : goal.invariant-loop-from
invariant-loop-from l = l.from ≤ l.n

-- proposed from the loop's first test
abbrev pub decreases-loop-from : goal.decreases-loop-from
decreases-loop-from l = l.n - l.from
