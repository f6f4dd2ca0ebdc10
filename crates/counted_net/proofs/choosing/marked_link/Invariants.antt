use Rattle.std.proofs.Common.{◌≡◌, drop}
use Rattle.std.specs.Prelude.{filter, slice_get}
use Rattle.protocol_model.specs.Network.{all_links}
use Rattle.counted_net.specs.Nets.{is_marked}
use Rattle.counted_net.proofs.choosing.marked_link.Given as goal

abbrev pub invariant-loop-link : goal.invariant-loop-link
invariant-loop-link l =
    slice_get (filter (is_marked l.marks) all_links) l.number ≡ slice_get (filter (is_marked l.marks) (drop l.link-index all_links)) l.left
