use Rattle.std.proofs.Common.{◌≡◌, ◌<◌, ◌^◌, max, drop}
use Rattle.code_machine.proofs.Worth.{longest_in}
use Rattle.code_machine.proofs.fuel.longest.Given as goal

abbrev pub invariant-loop-function : goal.invariant-loop-function
invariant-loop-function l =
    (max l.most (longest_in l.code.names (drop l.function-index l.function-items)) ≡ longest_in l.code.names l.function-items) × (l.most < 2 ^ 63)
