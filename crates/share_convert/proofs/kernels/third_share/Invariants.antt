use Rattle.std.proofs.Common.{◌≡◌, ◌≤◌, length}
use Rattle.proto_core.proofs.Edits.{edited}
use Rattle.share_convert.proofs.Fields.{three_at}
use Rattle.share_convert.proofs.kernels.third_share.Given as goal

abbrev pub invariant-loop-at : goal.invariant-loop-at
invariant-loop-at l =
    (l.at ≤ length l.fn.mask)
    × (l.mask ≡ edited l.at (three_at (record { bits = l.bits; word = l.word; mask = l.fn.mask }) l.got (length l.fn.mask)) l.fn.mask)
