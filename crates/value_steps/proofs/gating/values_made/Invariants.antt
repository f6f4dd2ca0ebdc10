use Rattle.std.proofs.Common.{◌≡◌, take}
use Rattle.gates.specs.Counts.{made_by_all}
use Rattle.value_steps.proofs.gating.values_made.Given as goal

abbrev pub invariant-loop-gate : goal.invariant-loop-gate
invariant-loop-gate l = l.made ≡ made_by_all (take l.gate-index l.gates)
