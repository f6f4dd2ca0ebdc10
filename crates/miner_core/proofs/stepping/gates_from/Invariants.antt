use Rattle.std.proofs.Common.{◌≡◌, ◌++◌, drop}
use Rattle.miner_core.proofs.stepping.gates_from.Given as goal

abbrev pub invariant-loop-place : goal.invariant-loop-place
invariant-loop-place l = l.own.items ++ drop l.place l.gates ≡ drop l.from l.gates
