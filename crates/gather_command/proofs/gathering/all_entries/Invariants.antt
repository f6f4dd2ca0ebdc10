use Rattle.std.proofs.Common.{◌≡◌, ◌++◌, take}
use Rattle.gather_command.specs.Gathering.{entries_in}
use Rattle.gather_command.proofs.gathering.all_entries.Given as goal

abbrev pub invariant-loop-file : goal.invariant-loop-file
invariant-loop-file l = l.all.items ≡ l.fn.first.entries ++ entries_in (take l.file-index l.more)
