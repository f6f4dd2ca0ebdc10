use Rattle.std.proofs.Common.{◌≡◌, take}
use Rattle.std.specs.Prelude.{map}
use Rattle.value_steps.specs.Views.{given_seen}
use Rattle.clear_eval.specs.Offers.{part_given}
use Rattle.clear_eval.proofs.public_offering.parts_given.Given as goal

abbrev pub invariant-loop-entry : goal.invariant-loop-entry
invariant-loop-entry l = map given_seen l.given.items ≡ map part_given (take l.entry-index l.entry-items)
