use Rattle.std.proofs.Common.{◌≡◌, ◌≤◌}
use Rattle.protocol_model.specs.Network.{all_links}
use Rattle.counted_net.specs.Nets.{is_marked}
use Rattle.protocol_model.proofs.Choosing.{count_to}
use Rattle.counted_net.proofs.choosing.marked_count.Given as goal

abbrev pub invariant-loop-link : goal.invariant-loop-link
invariant-loop-link l = record { counted : l.count ≡ count_to (is_marked l.marks) l.link-index all_links; few : l.count ≤ l.link-index }
