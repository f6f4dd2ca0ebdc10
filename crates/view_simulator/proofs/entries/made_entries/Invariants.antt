use Rattle.std.proofs.Common.{◌≡◌, ◌++◌, drop}
use Rattle.view_model.specs.Dealing.{made_entries}
use Rattle.view_simulator.proofs.entries.made_entries.Given as goal

abbrev pub invariant-loop-entry : goal.invariant-loop-entry
invariant-loop-entry l =
    l.made.items ++ made_entries l.fn.miner (drop l.entry-index l.entry-items) l.rest ≡ made_entries l.fn.miner l.fn.part l.fn.words
