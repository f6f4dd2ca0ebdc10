use Rattle.std.proofs.Common.{◌≡◌}
use Rattle.std.specs.List.{flat_map, range_with_len}
use Rattle.gates.proofs.clear_words.tiled.Given as goal

abbrev pub invariant-loop-time : goal.invariant-loop-time
invariant-loop-time l = l.words.items ≡ flat_map (λ k. l.xs) (range_with_len 0 l._time)
