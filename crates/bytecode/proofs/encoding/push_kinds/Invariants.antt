use Rattle.std.proofs.Common.{◌≡◌, ◌++◌, map, take}
use Rattle.bytecode.specs.Written.{byte, bytes_of}
use Rattle.bytecode.specs.Kinds.{kind_byte}
use Rattle.bytecode.proofs.encoding.push_kinds.Given as goal

abbrev pub invariant-loop-kind : goal.invariant-loop-kind
invariant-loop-kind l = l.text.items ≡ l.initial.text.items ++ bytes_of (map (λ kind. byte (kind_byte kind)) (take l.kind-index l.kinds))
