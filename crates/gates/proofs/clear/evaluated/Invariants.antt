use Rattle.std.proofs.Common.{◌≡◌, drop}
use Rattle.gates.specs.Evaluated.{evaluated}
use Rattle.gates.proofs.clear.evaluated.Given as goal

-- what is left to evaluate leads to the same values
abbrev pub invariant-loop-gate : goal.invariant-loop-gate
invariant-loop-gate l = evaluated l.mask l.inputs l.values (drop l.gate-index l.gates) ≡ evaluated l.mask l.inputs l.initial.values l.gates
