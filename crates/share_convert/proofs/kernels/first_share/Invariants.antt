use Rattle.std.proofs.Common.{◌≡◌, ◌≤◌, length}
use Rattle.proto_core.proofs.Edits.{edited}
use Rattle.share_convert.proofs.Fields.{one_at}
use Rattle.share_convert.proofs.kernels.first_share.Given as goal

abbrev pub invariant-loop-at : goal.invariant-loop-at
invariant-loop-at l = (l.at ≤ length l.fn.mask) × (l.mask ≡ edited l.at (one_at l.fn.mask l.got) l.fn.mask)
