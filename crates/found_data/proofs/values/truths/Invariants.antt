use Rattle.std.proofs.Common.{◌≡◌, ◌==◌, map, take}
use Rattle.found_data.proofs.values.truths.Given as goal

abbrev pub invariant-loop-word : goal.invariant-loop-word
invariant-loop-word l = l.truths.items ≡ map (λ w. w == 1) (take l.word-index l.words)
