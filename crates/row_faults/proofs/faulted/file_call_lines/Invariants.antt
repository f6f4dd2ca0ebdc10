use Rattle.std.proofs.Common.{◌≡◌, take, string_bytes}
use Rattle.outside.specs.FileCall.{file_calls_of}
use Rattle.row_faults.specs.Faulted.{file_calls_told}
use Rattle.row_faults.proofs.faulted.file_call_lines.Given as goal

abbrev pub invariant-loop-call : goal.invariant-loop-call
invariant-loop-call l = string_bytes l.lines ≡ file_calls_told (file_calls_of (take l.call-index l.calls))
