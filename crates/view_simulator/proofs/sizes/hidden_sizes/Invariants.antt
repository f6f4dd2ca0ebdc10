use Rattle.std.proofs.Common.{◌≡◌, take}
use Rattle.view_model.specs.Dealing.{hidden_sizes}
use Rattle.view_simulator.proofs.sizes.hidden_sizes.Given as goal

abbrev pub invariant-loop-entry : goal.invariant-loop-entry
invariant-loop-entry l = l.sizes.items ≡ hidden_sizes (take l.entry-index l.part)
