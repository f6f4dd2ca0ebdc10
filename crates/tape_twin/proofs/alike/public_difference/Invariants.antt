use Rattle.tape_twin.proofs.Differences.{SameUpTo}
use Rattle.tape_twin.proofs.alike.public_difference.Given as goal

abbrev pub invariant-loop-k : goal.invariant-loop-k
invariant-loop-k l = SameUpTo l.first l.second l.k
