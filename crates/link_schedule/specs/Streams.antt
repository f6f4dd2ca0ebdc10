-- A net whose three miners draw their tapes from one source. What it does holds with all three tapes that begin with the words drawn, and have as
-- many after them as are left.
use Rattle.std.specs.Prelude.{◌≡◌, ◌≢◌, ℕ, ◌+◌, true, List, [], ◌++◌, length, Option, Some, None, Result, Ok, Err}
use Rattle.outside.specs.Tapes.{TapesState, SameTape, StandsStill}
use Rattle.proto_core.specs.declared.party.Number.{Number}
use Rattle.proto_core.specs.declared.party.Number.TheVariants.{One, Two, Three}
use Rattle.proto_core.specs.declared.link.Link.{Link}
use Rattle.proto_core.specs.Parties.{count_of}
use Rattle.protocol_model.specs.Runs.{Tapes}
use Rattle.gate_node.specs.Nodes.{IsTapeOf}
use Rattle.gates.specs.Clear.{Values}
use Rattle.language_model.specs.Effects.{World}
use Rattle.verified_code.specs.Steps.{Function}
use Rattle.miner_core.specs.declared.answer.Lost.{Lost}
use Rattle.miner_core.specs.declared.kept.Kept.{Kept}
use Rattle.miner_core.specs.Drawing.{left_for, IsLostBy}
use Rattle.miner_core.specs.Streams.{StreamState, has_lost, with_tape}
use Rattle.link_schedule.specs.declared.errors.DeliverErr.{DeliverErr}
use Rattle.link_schedule.specs.declared.errors.DeliverErr.TheVariants as delivering
use Rattle.link_schedule.specs.declared.errors.RunErr.{RunErr}
use Rattle.link_schedule.specs.declared.errors.RunErr.TheVariants as running
use Rattle.link_schedule.specs.Net.{NetState, by_number}
use Rattle.link_schedule.specs.Parts.{Stories, IsAt}

-- ---- the net

-- what a miner was dealt, the words of its tape that it has drawn, how many are left after these, and whether it lets go what is done with
pub record StreamOwn : Type 0 where
  pub dealt : Values
  pub drawn : List ℕ
  pub ahead : ℕ
  pub past : Kept

pub record StreamNet : Type 0 where
  -- what all three were made with
  pub world : World
  pub code : List Function
  pub budget : ℕ
  -- what each has of its own
  pub one : StreamOwn
  pub two : StreamOwn
  pub three : StreamOwn
  -- the link of each delivery, in order
  pub delivered : List Link
  -- why it is of no further use, if it is
  pub lost : Option Lost

abbrev pub drawn_in : StreamNet → Tapes
drawn_in s i = (by_number s.one s.two s.three i).drawn

abbrev pub ahead_in : StreamNet → Number → ℕ
ahead_in s i = (by_number s.one s.two s.three i).ahead

abbrev pub past_in : StreamNet → Number → Kept
past_in s i = (by_number s.one s.two s.three i).past

-- the net of three miners that have these tapes
abbrev pub with_tapes : StreamNet → Tapes → NetState
with_tapes s tapes =
    record {
      world = s.world;
      code = s.code;
      budget = s.budget;
      one = record { dealt = s.one.dealt; tape = tapes One };
      two = record { dealt = s.two.dealt; tape = tapes Two };
      three = record { dealt = s.three.dealt; tape = tapes Three };
      delivered = s.delivered;
      lost = has_lost s.lost;
    }

-- these begin with the words drawn, and have so many after them
abbrev pub AreTapesOf : (drawn : Tapes) → (left : Number → ℕ) → (tapes : Tapes) → Type 0
AreTapesOf drawn left tapes = (i : Number) → IsTapeOf (drawn i) (left i) (tapes i)

-- those of a net
abbrev pub MayHave : StreamNet → Tapes → Type 0
MayHave s tapes = AreTapesOf (drawn_in s) (ahead_in s) tapes

-- while it is of use: for its net with each such tapes
abbrev pub ForEachTapes : StreamNet → (NetState → Type 0) → Type 0
ForEachTapes s Q = s.lost ≡ None → (tapes : Tapes) → MayHave s tapes → Q (with_tapes s tapes)

-- while it is of use, the source has the words that its miners have not drawn
abbrev pub HasLeft : StreamNet → TapesState → Type 0
HasLeft s tapes = s.lost ≡ None → (i : Number) → left_for i tapes ≡ ahead_in s i

-- ---- its miners

pub record ThreeStreams : Type 0 where
  pub one : StreamState
  pub two : StreamState
  pub three : StreamState

abbrev pub miner_in : ThreeStreams → Number → StreamState
miner_in m i = by_number m.one m.two m.three i

-- their stories with these tapes
abbrev pub stories_with : ThreeStreams → Tapes → Stories
stories_with m tapes =
    record { one = with_tape m.one (tapes One); two = with_tape m.two (tapes Two); three = with_tape m.three (tapes Three) }

abbrev pub own_stream : StreamState → StreamOwn
own_stream m = record { dealt = m.story.dealt; drawn = m.story.tape; ahead = m.ahead; past = m.past }

-- what they are together, after these deliveries
abbrev pub net_of : ThreeStreams → List Link → Option Lost → StreamNet
net_of m links lost =
    record {
      world = m.one.story.world;
      code = m.one.story.code;
      budget = m.one.story.budget;
      one = own_stream m.one;
      two = own_stream m.two;
      three = own_stream m.three;
      delivered = links;
      lost = lost;
    }

-- three to which nothing was delivered
abbrev pub new_net : (one two three : StreamState) → StreamNet
new_net one two three = net_of (record { one = one; two = two; three = three }) [] None

-- no message came, and it is of use
pub record IsFreshStream (m : StreamState) : Type 0 where
  pub from_previous : m.story.from_previous ≡ []
  pub from_next : m.story.from_next ≡ []
  pub going : m.lost ≡ None

-- a miner of the net: it has drawn its words, and with each such tapes what it has done and where it stands is what the messages lead to
pub record IsMinerOf (s : StreamNet) (i : Number) (m : StreamState) : Type 0 where
  pub going : m.lost ≡ None
  pub drawn : m.story.tape ≡ drawn_in s i
  pub ahead : m.ahead ≡ ahead_in s i
  pub at : (tapes : Tapes) → MayHave s tapes → IsAt (with_tapes s tapes) i (with_tape m (tapes i))

-- ---- what a call draws

-- of each miner's tape these words were drawn, its next ones, and of no other tape any
pub record NetDrew (old new : TapesState) (taken : Tapes) : Type 0 where
  pub told : new.told ≡ old.told
  pub stands : StandsStill old new
  pub fewer : (i : Number) → left_for i old ≡ length (taken i) + left_for i new
  pub words : old.told ≡ true → (i : Number) → old.words (count_of i) ≡ taken i ++ new.words (count_of i)
  pub others : (p : ℕ) → ((i : Number) → p ≢ count_of i) → SameTape old new p

-- why the net was lost, if it was
abbrev pub lost_by : Result (Unit {0}) Lost → Option Lost
lost_by (Ok done) = None
lost_by (Err why) = Some why

abbrev pub delivery_lost : Result (Unit {0}) DeliverErr → Option Lost
delivery_lost (Ok done) = None
delivery_lost (Err (delivering.EmptyLink entry link sent)) = None
delivery_lost (Err (delivering.Lost why)) = Some why

abbrev pub run_lost : Result (Unit {0}) RunErr → Option Lost
run_lost (Ok done) = None
run_lost (Err (running.EmptyLink entry link sent)) = None
run_lost (Err (running.Stalled miner link)) = None
run_lost (Err (running.Lost why)) = Some why

module _ (before after : StreamNet) (old new : TapesState) where
  -- these words more were drawn, the net is of use, and the source has the words that are left
  pub record HasGone (taken : Tapes) : Type 0 where
    pub going : after.lost ≡ None
    pub drawn : (i : Number) → drawn_in after i ≡ drawn_in before i ++ taken i
    pub left : (i : Number) → left_for i new ≡ ahead_in after i
    pub past : (i : Number) → past_in after i ≡ past_in before i

  -- it is of no further use from now on, for this cause
  pub record IsLostNow (why : Lost) : Type 0 where
    pub state : after.lost ≡ Some why
    pub cause : IsLostBy old new why

  abbrev pub GoesOr : Option Lost → (taken : Tapes) → Type 0
  GoesOr None taken = HasGone taken
  GoesOr (Some why) taken = IsLostNow why

  -- words were drawn, and the net has gone on or is lost; and this holds of the nets before and after with all three tapes that begin with all
  -- words drawn, and have as many after them as are left
  pub record Along (lost : Option Lost) (Q : (before after : NetState) → Type 0) : Type 0 where
    pub taken : Tapes
    pub drew : NetDrew old new taken
    pub state : GoesOr lost taken
    pub holds :
        (tapes : Tapes) → AreTapesOf (λ i. drawn_in before i ++ taken i) (λ i. left_for i new) tapes →
        Q (with_tapes before tapes) (with_tapes after tapes)
    pub still : old.steady ≡ true → new.steady ≡ true
