use Rattle.std.proofs.Common.{◌≡◌, drop}
use Rattle.code_machine.specs.Named.{is_in_any}
use Rattle.code_machine.proofs.named.is_in_any.Given as goal

abbrev pub invariant-loop-caller : goal.invariant-loop-caller
invariant-loop-caller l = is_in_any l.callers l.number ≡ is_in_any (drop l.caller-index l.callers) l.number
