use Rattle.std.proofs.Common.{◌≡◌, ◌≤◌, ◌+◌, length}
use Rattle.proto_core.specs.Lists.{at}
use Rattle.proto_core.proofs.Edits.{edited}
use Rattle.proto_core.specs.Rings.{add_ring}
use Rattle.share_convert.proofs.kernels.take_field.Given as goal

abbrev pub invariant-loop-at : goal.invariant-loop-at
invariant-loop-at l = (l.at ≤ length l.fn.x) × (l.x ≡ edited l.at (λ k. add_ring.sub (at l.fn.x k) (at l.words (l.from + k))) l.fn.x)
