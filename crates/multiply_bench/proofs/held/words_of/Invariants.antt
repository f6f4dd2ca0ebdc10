use Rattle.std.proofs.Common.{◌≡◌, ◌≤◌, length}
use Rattle.multiply_bench.proofs.held.words_of.Given as goal

abbrev pub invariant-loop-at : goal.invariant-loop-at
invariant-loop-at l = (l.at ≤ l.count) × (length l.words.items ≡ l.at)
