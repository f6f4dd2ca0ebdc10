use Rattle.std.proofs.Common.{◌≡◌, length}
use Rattle.name_resolution.specs.Functions.{with_parameters}
use Rattle.name_resolution.specs.inner.Views.{place_seen}
use Rattle.name_resolution.proofs.functions.parameters.Given as goal

abbrev pub invariant-loop-parameter : goal.invariant-loop-parameter
invariant-loop-parameter l = with_parameters l.fn.list (place_seen l.initial.place) ≡ with_parameters l.list (place_seen l.place)

abbrev pub decreases-loop-parameter : goal.decreases-loop-parameter
decreases-loop-parameter l = length l.list
