use Rattle.std.proofs.Common.{All, take}
use Rattle.input_share.specs.AddUp.{HasWords}
use Rattle.input_share.proofs.words.see_entries.Given as goal

abbrev pub invariant-loop-entry : goal.invariant-loop-entry
invariant-loop-entry l = All HasWords (take l.entry-index l.entries)
