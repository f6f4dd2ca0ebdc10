-- What the calls of a store of files in memory mean.
use Rattle.std.specs.Prelude.{ℕ, List, map, string_bytes}
use Rattle.outside.specs.declared.file_call.FileAction.{FileAction}
use Rattle.outside.specs.declared.file_call.FileCall.{FileCall}

-- calls in order, without where their paths lie in memory
abbrev pub file_calls_of : List FileCall → List (FileAction × List ℕ)
file_calls_of calls = map (λ call. (call.action, string_bytes call.path)) calls
