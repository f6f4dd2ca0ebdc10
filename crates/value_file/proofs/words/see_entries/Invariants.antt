use Rattle.std.proofs.Common.{All, take}
use Rattle.value_file.specs.Public.{ShowsWords}
use Rattle.value_file.proofs.words.see_entries.Given as goal

abbrev pub invariant-loop-entry : goal.invariant-loop-entry
invariant-loop-entry l = All (λ e. ShowsWords e.value) (take l.entry-index l.entries)
