use Rattle.std.proofs.Common.{◌≡◌}
use Rattle.declarations.specs.Views.{declared}
use Rattle.name_resolution.specs.Order.{known_after}
use Rattle.name_resolution.specs.inner.Views.{found_seen}
use Rattle.name_resolution.proofs.order.reached.Given as goal

abbrev pub invariant-loop-number : goal.invariant-loop-number
invariant-loop-number l = found_seen l.found ≡ known_after (declared l.declarations) l.number
