use Rattle.std.proofs.Common.{◌≡◌, ◌++◌, take}
use Rattle.std.specs.List.{flat_map}
use Rattle.bytecode.specs.Written.{bytes_of, name_numbers}
use Rattle.bytecode.proofs.encoding.push_names.Given as goal

abbrev pub invariant-loop-name : goal.invariant-loop-name
invariant-loop-name l = l.text.items ≡ l.initial.text.items ++ bytes_of (flat_map (name_numbers) (take l.name-index l.names))
