use Rattle.std.proofs.Common.{◌≡◌, take}
use Rattle.row_files.specs.Failures.{calls_failing}
use Rattle.row_files.proofs.row.Row.fails.Given as goal

abbrev pub invariant-loop-failing : goal.invariant-loop-failing
invariant-loop-failing l = l.calls.items ≡ calls_failing l.object (take l.failing-index l.self.failing.items)
