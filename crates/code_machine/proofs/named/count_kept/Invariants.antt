use Rattle.std.proofs.Common.{◌≡◌, ◌+◌, ◌*◌, ◌^◌, ◌≤◌, drop}
use Rattle.code_machine.specs.Named.{count_kept}
use Rattle.code_machine.proofs.named.count_kept.Given as goal

abbrev pub invariant-loop-caller : goal.invariant-loop-caller
invariant-loop-caller l = record {
  count : l.count + count_kept (drop l.caller-index l.callers) ≡ count_kept l.callers;
  small : l.count ≤ 2 ^ 64 * l.caller-index;
}
