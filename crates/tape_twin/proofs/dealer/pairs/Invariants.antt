use Rattle.std.proofs.Common.{◌≡◌, ◌++◌, drop}
use Rattle.tape_twin.specs.Pairs.{pairs}
use Rattle.tape_twin.proofs.dealer.pairs.Given as goal

abbrev pub invariant-loop-k : goal.invariant-loop-k
invariant-loop-k l = l.words.items ++ pairs (drop l.k l.third) (drop l.k l.second) ≡ pairs l.third l.second
