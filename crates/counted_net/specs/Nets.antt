-- Three miners in a net, by their scripts and the links on which messages were delivered, in order.
use Rattle.std.specs.Prelude.{◌≡◌, ℕ, Bool, true, false, List, [], ◌∷◌, ◌++◌, length, Result, Ok, Err, Vec, slice_index_or, filter}
use Rattle.std.specs.declared.alloc.Global.{Global}
use Rattle.proto_core.specs.declared.party.Number.{Number}
use Rattle.proto_core.specs.declared.link.Link.{Link}
use Rattle.proto_core.specs.Parties.{sender_of, of_three}
use Rattle.proto_core.specs.Script as script
use Rattle.protocol_model.specs.Network.{Accepted, Answer, Counts, Stalled, all_links, at_the_end, into_counts, is_full}
use Rattle.protocol_model.specs.Network.{none_delivered, one_more, place_of, posted_count, stands_at}
use Rattle.counted_net.specs.declared.moves.Move.{Move}
use Rattle.counted_net.specs.declared.moves.Scripts.{Scripts}
use Rattle.counted_net.specs.declared.tally.Tally.{Tally}
use Rattle.counted_net.specs.declared.cursor.Cursor.{Cursor}
use Rattle.counted_net.specs.declared.miners.Miners.{Miners}
use Rattle.counted_net.specs.declared.delivery.DeliveryErr.{DeliveryErr}
use Rattle.counted_net.specs.declared.delivery.DeliveryErr.TheVariants as err
use Rattle.counted_net.specs.Scripts.{moves_of, plain}
use Rattle.counted_net.specs.Cursors.{IsSettled, sent_in, tally_on}

pub record NetState : Type 0 where
  -- each miner's script
  pub one : List Move
  pub two : List Move
  pub three : List Move
  -- the link of each delivery, in order
  pub delivered : List Link

abbrev pub state_of : Scripts → List Link → NetState
state_of s links = record { one = s.one.items; two = s.two.items; three = s.three.items; delivered = links }

abbrev pub scripts_in : NetState → Number → List script.Move
scripts_in net i = plain (of_three net.one net.two net.three i)

-- how many of each link were delivered
abbrev pub with_all : Counts → List Link → Counts
with_all got [] = got
with_all got (l ∷ ls) = with_all (one_more l got) ls

abbrev pub got_of : List Link → Counts
got_of links = with_all none_delivered links

-- with one delivery more
abbrev pub after : NetState → Link → NetState
after net l = record net { delivered = net.delivered ++ l ∷ [] }

-- whether a message of this link was sent and not delivered
abbrev pub is_under_way : NetState → Link → Bool
is_under_way net l = is_full (scripts_in net) (got_of net.delivered) l

-- whether a link is marked, by the marks of all links in order
abbrev pub is_marked : List Bool → Link → Bool
is_marked marks l = slice_index_or marks (place_of l) false

-- the links with a message under way, in the order of all links
abbrev pub full_links : NetState → List Link
full_links net = filter (is_under_way net) all_links

-- ---- the miners of a net

abbrev pub cursor_in : Miners → Number → Cursor
cursor_in m i = of_three m.one m.two m.three i

abbrev pub sent_on : Miners → Link → ℕ
sent_on m l = sent_in (cursor_in m (sender_of l)) l

-- each has done all that it can, when so many of each link were delivered
abbrev pub AreSettled : Scripts → Counts → Miners → Type 0
AreSettled s got m = (i : Number) → IsSettled (moves_of s i) (into_counts i got) (cursor_in m i)

pub record IsNet (s : Scripts) (links : List Link) (m : Miners) (given : Tally) : Type 0 where
  pub settled : AreSettled s (got_of links) m
  pub counted : (l : Link) → tally_on given l ≡ got_of links l

-- ---- answers

-- the link has a message under way, and it is delivered; or it has none, and nothing happens
abbrev pub DeliverAnswers : (before then : NetState) → Link → Result (Unit {0}) DeliveryErr → Type 0
DeliverAnswers before then l (Ok done) = (is_under_way before l ≡ true) × (then ≡ after before l)
DeliverAnswers before then l (Err (err.EmptyLink entry link sent)) =
    (is_under_way before l ≡ false) × (entry ≡ length before.delivered) × (link ≡ l) × (sent ≡ posted_count (scripts_in before) (got_of before.delivered) l)
DeliverAnswers before then l (Err (err.Stalled miner link)) = ⊥
DeliverAnswers before then l (Err err.Memory) = Unit {0}

-- after the last delivery
abbrev pub net_end : NetState → Answer
net_end net = at_the_end (λ i. stands_at (scripts_in net i) (into_counts i (got_of net.delivered)))

abbrev pub EndAnswers : NetState → Result (Unit {0}) DeliveryErr → Type 0
EndAnswers net (Ok done) = net_end net ≡ Accepted
EndAnswers net (Err (err.EmptyLink entry link sent)) = ⊥
EndAnswers net (Err (err.Stalled miner link)) = net_end net ≡ Stalled miner link
EndAnswers net (Err err.Memory) = ⊥

abbrev pub HasEnded : NetState → Result (Vec Link Global) DeliveryErr → Type 0
HasEnded net (Ok order) = (net_end net ≡ Accepted) × (order.items ≡ net.delivered)
HasEnded net (Err (err.EmptyLink entry link sent)) = ⊥
HasEnded net (Err (err.Stalled miner link)) = net_end net ≡ Stalled miner link
HasEnded net (Err err.Memory) = ⊥
