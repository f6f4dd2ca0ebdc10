use Rattle.std.proofs.Common.{◌≡◌, ◌+◌, ◌-◌, ◌*◌, ◌^◌, if◌then◌else◌, false, drop, length}
use Rattle.proto_core.specs.declared.party.Number.{Number}
use Rattle.furthest_order.specs.Orders.{orders_of, place_of, IsBlockedIn}
use Rattle.furthest_order.proofs.Entries.{Far}
use Rattle.furthest_order.proofs.LowestFirst.{AreFirst}
use Rattle.furthest_order.proofs.along.furthest.Given as goal

-- so far the entries pass, the lowest miner's first; and where none went on, none can
abbrev pub invariant-loop-goes : goal.invariant-loop-goes
invariant-loop-goes l =
    record {
      far : Far l.scripts (orders_of l.orders) l.places l.net;
      first : AreFirst l.scripts (orders_of l.orders) l.places l.net;
      blocked : l.goes ≡ false → (i : Number) → IsBlockedIn l.net (drop (place_of l.places i) (orders_of l.orders i));
    }

abbrev pub decreases-loop-goes : goal.decreases-loop-goes
decreases-loop-goes l = 2 * (2 ^ 63 - length l.net.delivered) + (if l.goes then 1 else 0)
