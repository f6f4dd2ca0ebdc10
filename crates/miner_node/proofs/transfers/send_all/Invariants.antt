use Rattle.std.proofs.Common.{length, ◌-◌, ◌≡◌, ◌≤◌, take, true}
use Rattle.outside.specs.Links.{no_bytes, bytes_of, Sent, Did}
use Rattle.miner_node.specs.Faults.{IsLater}
use Rattle.miner_node.specs.Order.{NeverDue}
use Rattle.miner_node.proofs.transfers.send_all.Given as goal

abbrev pub invariant-loop-done : goal.invariant-loop-done
invariant-loop-done g l =
    let state = g.L.Links.state in
    record {
      within : l.done ≤ length l.bytes;
      sent : Sent (state l.fn.links) (state l.links) l.peer (take l.done l.bytes);
      did : (state l.fn.links).told ≡ true → Did NeverDue (state l.fn.links) (state l.links) (bytes_of l.peer (take l.done l.bytes)) no_bytes;
      later : IsLater (state l.fn.links) (state l.links);
    }

abbrev pub decreases-loop-done : goal.decreases-loop-done
decreases-loop-done g l = length l.bytes - l.done
