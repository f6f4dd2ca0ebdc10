use Rattle.gate_exchanges.proofs.Sizes.{SameUpTo}
use Rattle.gate_exchanges.proofs.suiting.same_sizes.Given as goal

abbrev pub invariant-loop-k : goal.invariant-loop-k
invariant-loop-k l = SameUpTo l.xs l.ys l.k
