use Rattle.std.proofs.Common.{All, take}
use Rattle.view_simulator.specs.Making.{IsOfWords}
use Rattle.view_simulator.proofs.words.see_part.Given as goal

abbrev pub invariant-loop-entry : goal.invariant-loop-entry
invariant-loop-entry l = All IsOfWords (take l.entry-index l.entries)
