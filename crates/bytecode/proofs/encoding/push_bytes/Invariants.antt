use Rattle.std.proofs.Common.{◌≡◌, ◌++◌, map, take}
use Rattle.bytecode.specs.Written.{byte, bytes_of}
use Rattle.bytecode.proofs.encoding.push_bytes.Given as goal

abbrev pub invariant-loop-one : goal.invariant-loop-one
invariant-loop-one l = l.text.items ≡ l.initial.text.items ++ bytes_of (map (byte) (take l.one-index l.bytes))
