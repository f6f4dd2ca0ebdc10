use Rattle.std.proofs.Common.{◌≡◌, length}
use Rattle.client_simulator.proofs.zeros.zero_words.Given as goal

abbrev pub invariant-loop-at : goal.invariant-loop-at
invariant-loop-at l = length l.zeros.items ≡ l._at
