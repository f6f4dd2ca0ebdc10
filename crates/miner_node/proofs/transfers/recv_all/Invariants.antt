use Rattle.std.proofs.Common.{length, ◌-◌, ◌≡◌, ◌≤◌, take, true}
use Rattle.outside.specs.Links.{no_bytes, bytes_of, Came, Did}
use Rattle.miner_node.specs.Faults.{IsLater}
use Rattle.miner_node.specs.Order.{IsPart}
use Rattle.miner_node.proofs.transfers.recv_all.Given as goal

abbrev pub invariant-loop-done : goal.invariant-loop-done
invariant-loop-done g l =
    let state = g.L.Links.state in
    record {
      within : l.done ≤ length l.into;
      same_length : length l.into ≡ length l.fn.into;
      came : Came (state l.fn.links) (state l.links) l.peer (take l.done l.into);
      did : (state l.fn.links).told ≡ true
          → Did (IsPart l.peer (length l.fn.into)) (state l.fn.links) (state l.links) no_bytes (bytes_of l.peer (take l.done l.into));
      later : IsLater (state l.fn.links) (state l.links);
    }

abbrev pub decreases-loop-done : goal.decreases-loop-done
decreases-loop-done g l = length l.into - l.done
