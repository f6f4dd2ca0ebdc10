use Rattle.std.proofs.Common.{◌≡◌, take, string_bytes}
use Rattle.outside.specs.SpawnCall.{calls_of}
use Rattle.row_files.specs.Calls.{calls_told}
use Rattle.row_files.proofs.compared.call_lines.Given as goal

abbrev pub invariant-loop-call : goal.invariant-loop-call
invariant-loop-call l = string_bytes l.lines ≡ calls_told (calls_of (take l.call-index l.calls))
