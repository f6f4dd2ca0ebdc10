-- What a delivery answers, and what a schedule does; and what then is of the net.
use Rattle.std.specs.Prelude.{◌≡◌, ◌-◌, true, false, List, [], ◌∷◌, length, take, Result, Ok, Err}
use Rattle.proto_core.specs.declared.link.Link.{Link}
use Rattle.protocol_model.specs.Network.{Answer, Accepted, EmptyLink, Stalled, walked}
use Rattle.link_schedule.specs.declared.errors.DeliverErr.{DeliverErr}
use Rattle.link_schedule.specs.declared.errors.DeliverErr.TheVariants as delivering
use Rattle.link_schedule.specs.declared.errors.RunErr.{RunErr}
use Rattle.link_schedule.specs.declared.errors.RunErr.TheVariants as running
use Rattle.link_schedule.specs.Net.{NetState, nodes_in, net_mail, net_posted, is_under_way, after}

-- the link has a message under way, and it is delivered; or all that were sent are, and nothing happens
abbrev pub DeliverAnswers : (before then : NetState) → Link → Result (Unit {0}) DeliverErr → Type 0
DeliverAnswers before then l (Ok done) = (is_under_way before l ≡ true) × (then ≡ after before (l ∷ []))
DeliverAnswers before then l (Err (delivering.EmptyLink entry link sent)) =
    (is_under_way before l ≡ false) × (entry ≡ length before.delivered) × (link ≡ l) × (sent ≡ length (net_posted before l)) × (then ≡ before)
DeliverAnswers before then l (Err (delivering.Lost why)) = Unit {0}

-- what the net makes of a schedule, after what was delivered before
abbrev pub net_walked : NetState → List Link → Answer
net_walked net schedule = walked (nodes_in net) (length net.delivered) (net_mail net) schedule

-- after all entries; or after those before the first whose link has none
abbrev pub RunAnswers : (before then : NetState) → List Link → Result (Unit {0}) RunErr → Type 0
RunAnswers before then schedule (Ok done) = (net_walked before schedule ≡ Accepted) × (then ≡ after before schedule)
RunAnswers before then schedule (Err (running.Stalled miner link)) = (net_walked before schedule ≡ Stalled miner link) × (then ≡ after before schedule)
RunAnswers before then schedule (Err (running.EmptyLink entry link sent)) =
    (net_walked before schedule ≡ EmptyLink entry link sent) × (then ≡ after before (take (entry - length before.delivered) schedule))
RunAnswers before then schedule (Err (running.Lost why)) = Unit {0}

-- after the last entry
abbrev pub EndAnswers : NetState → Result (Unit {0}) RunErr → Type 0
EndAnswers net (Ok done) = net_walked net [] ≡ Accepted
EndAnswers net (Err (running.Stalled miner link)) = net_walked net [] ≡ Stalled miner link
EndAnswers net (Err (running.EmptyLink entry link sent)) = ⊥
EndAnswers net (Err (running.Lost why)) = ⊥
