-- Three miners joined by links, by what they were made with and the links on which messages were delivered, in order.
use Rattle.std.specs.Prelude.{ℕ, nat_lt, Bool, List, [], ◌++◌, length}
use Rattle.proto_core.specs.declared.party.Number.{Number}
use Rattle.proto_core.specs.declared.party.Number.TheVariants.{One, Two, Three}
use Rattle.proto_core.specs.declared.link.Link.{Link}
use Rattle.proto_core.specs.Strand.{Mail, Strand, Ran}
use Rattle.proto_core.specs.Net.{nothing, run_of, posted, all_delivered}
use Rattle.gates.specs.Clear.{Values}
use Rattle.language_model.specs.Effects.{World}
use Rattle.verified_code.specs.Steps.{Function}
use Rattle.miner_core.specs.Meaning.{fuel}
use Rattle.miner_core.specs.Places.{first_place}
use Rattle.miner_core.specs.OwnCode.{Ended, own_code}

-- what a miner was made with that is its own
pub record Own : Type 0 where
  pub dealt : Values
  pub tape : List ℕ

pub record NetState : Type 0 where
  -- what all three were made with
  pub world : World
  pub code : List Function
  pub budget : ℕ
  -- what each was made with
  pub one : Own
  pub two : Own
  pub three : Own
  -- the link of each delivery, in order
  pub delivered : List Link
  -- memory ran out: no more is said
  pub lost : Bool

abbrev pub by_number : {A : Type 0} → A → A → A → Number → A
by_number a b c One = a
by_number a b c Two = b
by_number a b c Three = c

abbrev pub own_in : NetState → Number → Own
own_in net i = by_number net.one net.two net.three i

abbrev pub nodes_in : NetState → Number → Strand Ended
nodes_in net i =
    own_code net.world net.code i (own_in net i).dealt (fuel net.code net.budget) (first_place net.code net.budget) [] (own_in net i).tape

-- the messages that were delivered, each the oldest of its link that wasn't
unfoldable pub net_mail : NetState → Mail
net_mail net = all_delivered (nodes_in net) nothing net.delivered

-- all that a miner has done, and where it stands
abbrev pub net_node : NetState → Number → Ran Ended
net_node net i = run_of (nodes_in net) (net_mail net) i

-- the messages that were sent on each link
abbrev pub net_posted : NetState → Mail
net_posted net = posted (nodes_in net) (net_mail net)

-- whether a message of this link was sent and not delivered
abbrev pub is_under_way : NetState → Link → Bool
is_under_way net l = nat_lt (length (net_mail net l)) (length (net_posted net l))

-- with these deliveries more
abbrev pub after : NetState → List Link → NetState
after net links = record net { delivered = net.delivered ++ links }
