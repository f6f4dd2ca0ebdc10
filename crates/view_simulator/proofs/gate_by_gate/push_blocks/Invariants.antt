use Rattle.std.proofs.Common.{◌≡◌, ◌++◌}
use Rattle.std.specs.List.{repeat}
use Rattle.view_simulator.proofs.gate_by_gate.push_blocks.Given as goal

abbrev pub invariant-loop-done : goal.invariant-loop-done
invariant-loop-done l = l.script.items ≡ l.fn.script.items ++ repeat l._done l.block
