use Rattle.std.proofs.Common.{◌≡◌, take}
use Rattle.program_views.specs.Views.{input_shares}
use Rattle.program_views.proofs.parts.input_shares.Given as goal

abbrev pub invariant-loop-entry : goal.invariant-loop-entry
invariant-loop-entry l = l.shares.items ≡ input_shares (take l.entry-index l.entries)
