use Rattle.std.proofs.Common.{◌≡◌, ◌+◌, take}
use Rattle.program_views.specs.Views.{hidden_need}
use Rattle.view_simulator.proofs.dealing.suffices.Given as goal

abbrev pub invariant-loop-entry : goal.invariant-loop-entry
invariant-loop-entry l = l.fn.words ≡ hidden_need (take l.entry-index l.part) + l.left
