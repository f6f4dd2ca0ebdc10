use Rattle.std.proofs.Common.{◌≡◌, ◌+◌, ◌^◌, ◌<◌, drop}
use Rattle.gates.specs.Counts.{made_by_all}
use Rattle.gate_node.proofs.wanted.count_with.Given as goal

abbrev pub invariant-loop-gate : goal.invariant-loop-gate
invariant-loop-gate l = record {
  counted : l.all + made_by_all (drop l.gate-index l.gates) ≡ l.count + made_by_all l.gates;
  fits : l.all < 2 ^ 64;
}
