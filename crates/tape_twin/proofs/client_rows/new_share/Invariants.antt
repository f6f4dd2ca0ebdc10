use Rattle.std.proofs.Common.{◌≡◌, ◌≤◌, length}
use Rattle.proto_core.specs.Resharing.{reshared}
use Rattle.tape_twin.proofs.client_rows.new_share.Given as goal

abbrev pub invariant-loop-at : goal.invariant-loop-at
invariant-loop-at g l = (l.at ≤ length l.u) × (l.share.items ≡ reshared g.R.ShareRing.ring l.at l.u l.own l.previous)
