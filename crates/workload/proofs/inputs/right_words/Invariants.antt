use Rattle.std.proofs.Common.{◌≡◌, map}
use Rattle.std.specs.List.{range_with_len}
use Rattle.workload.specs.Load.{right_element}
use Rattle.workload.proofs.inputs.right_words.Given as goal

abbrev pub invariant-loop-j : goal.invariant-loop-j
invariant-loop-j l = l.words.items ≡ map (right_element l.number) (range_with_len 0 l.j)
