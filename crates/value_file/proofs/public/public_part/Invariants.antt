use Rattle.std.proofs.Common.{◌≡◌, map, take}
use Rattle.value_file.specs.Public.{public_entry}
use Rattle.value_file.proofs.public.public_part.Given as goal

abbrev pub invariant-loop-entry : goal.invariant-loop-entry
invariant-loop-entry l = l.entries.items ≡ map public_entry (take l.entry-index l.inputs)
