-- Three stories, each that of a miner at work on its part of a net.
use Rattle.std.specs.Prelude.{◌≡◌, ◌≢◌, ◌⊎◌, ℕ, Bool, true, false, List, [], length}
use Rattle.proto_core.specs.declared.party.Number.{Number}
use Rattle.proto_core.specs.declared.link.Link.{Link}
use Rattle.proto_core.specs.Parties.{sender_of, receiver_of, is_same}
use Rattle.proto_core.specs.Strand.{Mail, on_link}
use Rattle.proto_core.specs.Net.{into, added, nothing}
use Rattle.proto_core.specs.Standing.{AtItsEnd, standing_of}
use Rattle.protocol_model.specs.Network.{Counts}
use Rattle.miner_core.specs.Story.{Story, received, mail_in, node, stands_at}
use Rattle.link_schedule.specs.Net.{Own, NetState, by_number, own_in, net_mail, net_node}

pub record Stories : Type 0 where
  pub one : Story
  pub two : Story
  pub three : Story

abbrev pub story_in : Stories → Number → Story
story_in m i = by_number m.one m.two m.three i

abbrev pub own_of : Story → Own
own_of s = record { dealt = s.dealt; tape = s.tape }

-- what three of them are together, after these deliveries
abbrev pub state_of : Stories → List Link → Bool → NetState
state_of m links lost =
    record {
      world = m.one.world;
      code = m.one.code;
      budget = m.one.budget;
      one = own_of m.one;
      two = own_of m.two;
      three = own_of m.three;
      delivered = links;
      lost = lost;
    }

-- ---- before the first delivery

pub record AreAlike (a b : Story) : Type 0 where
  pub world : b.world ≡ a.world
  pub code : b.code ≡ a.code
  pub budget : b.budget ≡ a.budget

pub record IsFresh (s : Story) : Type 0 where
  pub from_previous : s.from_previous ≡ []
  pub from_next : s.from_next ≡ []
  pub going : s.lost ≡ false

-- ---- a message comes

-- the miner to whom it goes has it; or it had ended, and is as before
abbrev pub Takes : Number → (before then : Story) → Link → List ℕ → Type 0
Takes i before then l m =
    ((stands_at i before ≢ AtItsEnd) × (then ≡ received i before l m)) ⊎ ((stands_at i before ≡ AtItsEnd) × (then ≡ before))

abbrev pub TakesIf : Bool → Number → (before then : Story) → Link → List ℕ → Type 0
TakesIf true i before then l m = Takes i before then l m
TakesIf false i before then l m = then ≡ before

-- the others are as before
abbrev pub Comes : Stories → Stories → Link → List ℕ → Type 0
Comes before then l m = (i : Number) → TakesIf (is_same (receiver_of l) i) i (story_in before i) (story_in then i) l m

-- ---- a miner and the net

abbrev pub sent_in : Stories → Mail
sent_in m l = on_link l (node (sender_of l) (story_in m (sender_of l))).acts

-- what it has done and where it stands is what the messages of the net lead to
pub record IsAt (net : NetState) (i : Number) (s : Story) : Type 0 where
  pub going : s.lost ≡ false
  pub budget : s.budget ≡ net.budget
  pub acts : (node i s).acts ≡ (net_node net i).acts
  pub left : (node i s).left ≡ (net_node net i).left
  pub stands : stands_at i s ≡ standing_of (net_node net i)

-- it was made with what the net was, and all that came to it in the net is in its story, but for what came when it had ended
pub record IsPart (net : NetState) (i : Number) (s : Story) : Type 0 where
  pub world : s.world ≡ net.world
  pub code : s.code ≡ net.code
  pub budget : s.budget ≡ net.budget
  pub own : own_of s ≡ own_in net i
  pub going : s.lost ≡ false
  pub late : Mail
  pub came : into i (net_mail net) ≡ added (mail_in i s) late
  pub none_late : stands_at i s ≢ AtItsEnd → late ≡ nothing

-- ---- counts

-- three of which this is the net, and the counts of what was delivered
pub record IsNet (net : NetState) (m : Stories) (given : Counts) : Type 0 where
  pub parts : (i : Number) → IsPart net i (story_in m i)
  pub counted : (l : Link) → given l ≡ length (net_mail net l)
