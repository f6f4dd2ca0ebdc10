use Rattle.std.proofs.Common.{◌≡◌, ◌/◌, ◌^◌, map, take}
use Rattle.gates.proofs.clear_words.shifted_down.Given as goal

abbrev pub invariant-loop-x : goal.invariant-loop-x
invariant-loop-x l = l.words.items ≡ map (λ x. x / 2 ^ l.count) (take l.x-index l.xs)
