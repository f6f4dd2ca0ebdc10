use Rattle.std.proofs.Common.{◌≡◌, ◌++◌, drop}
use Rattle.gates.specs.Clear.{ring_of}
use Rattle.language_model.specs.Values.{ring_for}
use Rattle.code_runs.specs.ClientTold.{words_added_up}
use Rattle.code_runs.proofs.adding.words_added_up.Given as goal

abbrev pub invariant-loop-k : goal.invariant-loop-k
invariant-loop-k l =
    l.words.items ++ words_added_up (ring_of (ring_for l.element)) (drop l.k l.first) (drop l.k l.second) (drop l.k l.third)
    ≡ words_added_up (ring_of (ring_for l.element)) l.first l.second l.third
