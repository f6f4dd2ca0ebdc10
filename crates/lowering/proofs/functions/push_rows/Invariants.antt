use Rattle.std.proofs.Common.{◌≡◌, ◌++◌}
use Rattle.code_model.specs.Kinds.{rows_kinds}
use Rattle.lowering.proofs.functions.push_rows.Given as goal

abbrev pub invariant-loop-row : goal.invariant-loop-row
invariant-loop-row l = l.registers.items ≡ l.initial.registers.items ++ rows_kinds l.row
