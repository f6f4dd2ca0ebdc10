-- Three miners in a net, by the states that they may be in.
use Rattle.std.specs.Prelude.{◌≡◌, ◌<◌, ℕ, true, List, length, slice_get, Option, Some, None, Result, OnOk}
use Rattle.outside.specs.Tapes.{TapesState}
use Rattle.proto_core.specs.declared.party.Number.{Number}
use Rattle.proto_core.specs.declared.party.Number.TheVariants.{One, Two, Three}
use Rattle.proto_core.specs.declared.link.Link.{Link}
use Rattle.proto_core.specs.declared.link.Link.TheVariants.{Link12, Link13, Link21, Link23, Link31, Link32}
use Rattle.proto_core.specs.Parties.{sender_of, receiver_of}
use Rattle.protocol_model.specs.Network.{Counts}
use Rattle.miner_core.specs.declared.answer.Lost.{Lost}
use Rattle.miner_core.specs.declared.kept.Kept.{Kept}
use Rattle.miner_core.specs.Drawing.{left_for}
use Rattle.miner_core.specs.Miners.{MinerSeen, MinerState, IsOf, fetched_to_next, fetched_to_previous}
use Rattle.miner_core.specs.Story.{Story, sent_to_next, sent_to_previous}
use Rattle.miner_core.specs.Streams.{StreamState, ForEachTape}
use Rattle.counted_net.specs.Cursors.{tally_on}
use Rattle.link_schedule.specs.declared.miners.Miners.{Miners}
use Rattle.link_schedule.specs.declared.net.Net3.{Net3}
use Rattle.link_schedule.specs.Coming.{Gives, AreOfUse, ComesTo, AreNet, left_to}
use Rattle.link_schedule.specs.Net.{NetState, by_number, is_under_way}
use Rattle.link_schedule.specs.Parts.{AreAlike}
use Rattle.link_schedule.specs.Streams.{StreamNet, ThreeStreams, miner_in, net_of, Along, ForEachTapes, HasLeft, IsFreshStream, IsMinerOf}

-- ---- a miner

-- no message of it was fetched
abbrev pub unfetched : StreamState → MinerState
unfetched s = record { stream = s; to_next = 0; to_previous = 0 }

-- the same as to what was fetched
abbrev pub with_stream : MinerState → StreamState → MinerState
with_stream w s = record w { stream = s }

-- to which of the two others
pub data Way : Type 0 where
  Next : Way
  Previous : Way

-- the messages that it has sent to it, how many of these were fetched, and with one more that was
abbrev pub sent_on : Way → Number → Story → List (List ℕ)
sent_on Next i s = sent_to_next i s
sent_on Previous i s = sent_to_previous i s

abbrev pub fetched_on : Way → MinerState → ℕ
fetched_on Next w = w.to_next
fetched_on Previous w = w.to_previous

abbrev pub fetch_on : Way → MinerState → MinerState
fetch_on Next w = fetched_to_next w
fetch_on Previous w = fetched_to_previous w

-- a message comes to it: it has it, or is lost
module _ {P : Type 0} (i : Number) (l : Link) (m : List ℕ) (w : MinerState) (after : MinerSeen P) (old new : TapesState) where
  pub record HasGiven (result : Result (Unit {0}) Lost) : Type 0 where
    pub stream : StreamState
    pub is : IsOf i after (with_stream w stream)
    pub gives : Gives i l m w.stream stream old new result

-- ---- from one miner to another

module _ {S R : Type 0} (way : Way) (i j : Number) (l : Link) where
  -- both are of use, the sender has a message for the receiver, and the source has the words that the receiver has not drawn
  pub record Can (from : MinerSeen S) (to : MinerSeen R) (w v : MinerState) (old : TapesState) : Type 0 where
    pub sender : IsOf i from w
    pub receiver : IsOf j to v
    pub sending : w.stream.lost ≡ None
    pub going : v.stream.lost ≡ None
    pub link : receiver_of l ≡ j
    pub left : left_for j old ≡ v.stream.ahead
    pub has : ForEachTape w.stream (λ s. fetched_on way w < length (sent_on way i s))

  -- by some states of theirs
  pub record CanBy (from : MinerSeen S) (to : MinerSeen R) (old : TapesState) : Type 0 where
    pub w : MinerState
    pub v : MinerState
    pub can : Can from to w v old

  -- the oldest of these comes to the receiver, and is fetched; or the receiver is lost
  pub record Passes (w v : MinerState) (from : MinerSeen S) (to : MinerSeen R) (old new : TapesState) (result : Result (Unit {0}) Lost) : Type 0 where
    pub stream : StreamState
    pub message : List ℕ
    pub oldest : ForEachTape w.stream (λ s. slice_get (sent_on way i s) (fetched_on way w) ≡ Some message)
    pub gives : Gives j l message v.stream stream old new result
    pub ok : OnOk result (IsOf i from (fetch_on way w) × IsOf j to (with_stream v stream))

-- ---- three of them

pub record MinerStates : Type 0 where
  pub one : MinerState
  pub two : MinerState
  pub three : MinerState

abbrev pub state_in : MinerStates → Number → MinerState
state_in w i = by_number w.one w.two w.three i

-- as miners that keep all
abbrev pub streams : MinerStates → ThreeStreams
streams w = record { one = w.one.stream; two = w.two.stream; three = w.three.stream }

abbrev pub way_of : Link → Way
way_of Link12 = Next
way_of Link13 = Previous
way_of Link21 = Previous
way_of Link23 = Next
way_of Link31 = Next
way_of Link32 = Previous

-- how many messages of each link were fetched
abbrev pub fetched : MinerStates → Counts
fetched w l = fetched_on (way_of l) (state_in w (sender_of l))

abbrev pub changed : Number → (MinerState → MinerState) → MinerStates → MinerStates
changed One f w = record w { one = f w.one }
changed Two f w = record w { two = f w.two }
changed Three f w = record w { three = f w.three }

-- with one message more of a link, by which its receiver has come to this
abbrev pub passed : Link → StreamState → MinerStates → MinerStates
passed l s w = changed (receiver_of l) (λ v. with_stream v s) (changed (sender_of l) (fetch_on (way_of l)) w)

pub record AreOf (m : Miners) (w : MinerStates) : Type 0 where
  pub one : IsOf One m.one w.one
  pub two : IsOf Two m.two w.two
  pub three : IsOf Three m.three w.three

module _ (l : Link) where
  -- all are of use, one has a message for this link, and the source has the words that they have not drawn
  pub record CanPass (m : Miners) (w : MinerStates) (old : TapesState) : Type 0 where
    pub are : AreOf m w
    pub usable : AreOfUse (streams w)
    pub left : (i : Number) → left_for i old ≡ left_to (streams w) i
    pub has : ForEachTape (miner_in (streams w) (sender_of l)) (λ s. fetched w l < length (sent_on (way_of l) (sender_of l) s))

  -- the oldest of these comes to the receiver, and is fetched; or the receiver is lost
  pub record HasPassed (w : MinerStates) (m : Miners) (old new : TapesState) (result : Result (Unit {0}) Lost) : Type 0 where
    pub stream : StreamState
    pub message : List ℕ
    pub oldest : ForEachTape (miner_in (streams w) (sender_of l)) (λ s. slice_get (sent_on (way_of l) (sender_of l) s) (fetched w l) ≡ Some message)
    pub comes : ComesTo l message (streams w) (streams (passed l stream w)) old new result
    pub are : OnOk result (AreOf m (passed l stream w))

-- ---- their net

-- it is the net of this state, which is of use
pub record IsNetAtWork (n : Net3) (s : StreamNet) : Type 0 where
  pub states : MinerStates
  pub are : AreOf n.miners states
  pub joined : AreNet (streams states) n.recorded.items (fetched states)
  pub same : net_of (streams states) n.recorded.items None ≡ s
  pub counted : (l : Link) → tally_on n.given l ≡ fetched states l

-- it is the net of this state
pub record IsNetOf (n : Net3) (s : StreamNet) : Type 0 where
  pub lost : n.lost ≡ s.lost
  pub recorded : n.recorded.items ≡ s.delivered
  pub works : s.lost ≡ None → IsNetAtWork n s

-- it is the net of some state, and the source has the words that its miners have not drawn
abbrev pub IsSomeNet : Net3 → TapesState → Type 0
IsSomeNet n tapes = (s : StreamNet) × IsNetOf n s × HasLeft s tapes

-- while it is of use, this holds for each such state
abbrev pub ForEachState : Net3 → TapesState → (StreamNet → Type 0) → Type 0
ForEachState n tapes Q = (s : StreamNet) → IsNetOf n s → s.lost ≡ None → HasLeft s tapes → Q s

-- its three miners keep this of what is done with
pub record KeepSo (past : Kept) (n : Net3) : Type 0 where
  pub one : n.miners.one.past ≡ past
  pub two : n.miners.two.past ≡ past
  pub three : n.miners.three.past ≡ past

-- with each tapes that its miners may have, the link has a message under way
abbrev pub IsOnItsWay : Link → StreamNet → Type 0
IsOnItsWay l s = ForEachTapes s (λ net. is_under_way net l ≡ true)

-- its miners have gone on from a state to another
pub record GoesAlong (before : StreamNet) (n : Net3) (old new : TapesState) (lost : Option Lost) (Q : (before after : NetState) → Type 0) : Type 0 where
  pub then : StreamNet
  pub along : Along before then old new lost Q
  pub is : IsNetOf n then

-- a miner of the net
pub record IsMinerAt {P : Type 0} (s : StreamNet) (i : Number) (m : MinerSeen P) : Type 0 where
  pub state : MinerState
  pub of : IsOf i m state
  pub is : IsMinerOf s i state.stream

-- three that were made with one code, budget and public part of the inputs, and to which nothing was delivered
pub record AreNew {P Q R : Type 0} (m : MinerSeen P) (n : MinerSeen Q) (k : MinerSeen R) (one two three : StreamState) : Type 0 where
  pub first : IsOf One m (unfetched one)
  pub second : IsOf Two n (unfetched two)
  pub third : IsOf Three k (unfetched three)
  pub alike_second : AreAlike one.story two.story
  pub alike_third : AreAlike one.story three.story
  pub fresh_first : IsFreshStream one
  pub fresh_second : IsFreshStream two
  pub fresh_third : IsFreshStream three
