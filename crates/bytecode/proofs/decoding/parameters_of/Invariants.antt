use Rattle.std.proofs.Common.{◌≡◌, map, take}
use Rattle.bytecode.proofs.decoding.parameters_of.Given as goal

abbrev pub invariant-loop-head : goal.invariant-loop-head
invariant-loop-head l = l.counts.items ≡ map (λ h. h.parameters) (take l.head-index l.heads)
