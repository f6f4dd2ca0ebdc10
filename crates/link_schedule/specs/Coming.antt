-- For the crate's own functions: what a message does that comes to one of three miners which draw their tapes.
use Rattle.std.specs.Prelude.{◌≡◌, true, false, ℕ, List, ◌++◌, None, Result, Ok, Err, OnOk, IfErr}
use Rattle.outside.specs.Tapes.{TapesState, Drew}
use Rattle.proto_core.specs.declared.party.Number.{Number}
use Rattle.proto_core.specs.declared.link.Link.{Link}
use Rattle.proto_core.specs.Parties.{count_of}
use Rattle.protocol_model.specs.Network.{Counts}
use Rattle.protocol_model.specs.Runs.{Tapes}
use Rattle.gate_node.specs.Nodes.{IsTapeOf}
use Rattle.miner_core.specs.declared.answer.Lost.{Lost}
use Rattle.miner_core.specs.declared.answer.Step.{Step}
use Rattle.miner_core.specs.declared.answer.MinerErr.{MinerErr}
use Rattle.miner_core.specs.declared.answer.MinerErr.TheVariants as error
use Rattle.miner_core.specs.Drawing.{left_for, IsLostBy}
use Rattle.miner_core.specs.Streams.{StreamState, with_tape}
use Rattle.link_schedule.specs.Parts.{Stories, Takes, Comes, IsNet, state_of}
use Rattle.link_schedule.specs.Streams.{ThreeStreams, miner_in, stories_with, AreTapesOf, NetDrew}

-- ---- to one miner

-- whether a miner has taken a message, by its answer: where it isn't accepted, and where the miner has ended, it has come all the same
abbrev pub taken_by : Result Step MinerErr → Result (Unit {0}) Lost
taken_by (Ok step) = Ok tt
taken_by (Err (error.NotAwaited l)) = Ok tt
taken_by (Err (error.BadMessage l cause)) = Ok tt
taken_by (Err (error.Lost why)) = Err why

module _ (i : Number) (l : Link) (m : List ℕ) (before after : StreamState) (old new : TapesState) where
  pub record Taken (taken : List ℕ) : Type 0 where
    pub going : after.lost ≡ None
    pub tape : after.story.tape ≡ before.story.tape ++ taken
    pub left : left_for i new ≡ after.ahead
    pub past : after.past ≡ before.past
    pub takes : (tape : List ℕ) → IsTapeOf after.story.tape after.ahead tape → Takes i (with_tape before tape) (with_tape after tape) l m

  -- it has the message, or is lost
  pub record Gives (result : Result (Unit {0}) Lost) : Type 0 where
    pub taken : List ℕ
    pub drew : Drew old new (count_of i) taken
    pub ok : OnOk result (Taken taken)
    pub err : IfErr result (IsLostBy old new)
    pub still : old.steady ≡ true → new.steady ≡ true

-- ---- to three

abbrev pub drawn_by : ThreeStreams → Tapes
drawn_by m i = (miner_in m i).story.tape

abbrev pub left_to : ThreeStreams → Number → ℕ
left_to m i = (miner_in m i).ahead

abbrev pub AreOfUse : ThreeStreams → Type 0
AreOfUse m = (i : Number) → (miner_in m i).lost ≡ None

-- with all tapes that they may have
abbrev pub ForEachOf : ThreeStreams → (Stories → Type 0) → Type 0
ForEachOf m Q = AreOfUse m → (tapes : Tapes) → AreTapesOf (drawn_by m) (left_to m) tapes → Q (stories_with m tapes)

module _ (l : Link) (m : List ℕ) (before after : ThreeStreams) (old new : TapesState) where
  pub record Come (taken : Tapes) : Type 0 where
    pub going : AreOfUse after
    pub drawn : (i : Number) → drawn_by after i ≡ drawn_by before i ++ taken i
    pub left : (i : Number) → left_for i new ≡ left_to after i
    pub past : (i : Number) → (miner_in after i).past ≡ (miner_in before i).past
    pub comes :
        (tapes : Tapes) → AreTapesOf (drawn_by after) (left_to after) tapes → Comes (stories_with before tapes) (stories_with after tapes) l m

  -- the receiver has it, or is lost
  pub record ComesTo (result : Result (Unit {0}) Lost) : Type 0 where
    pub taken : Tapes
    pub drew : NetDrew old new taken
    pub ok : OnOk result (Come taken)
    pub err : IfErr result (IsLostBy old new)
    pub still : old.steady ≡ true → new.steady ≡ true

-- three miners at work and the counts of what was delivered: with all tapes that they may have they are parts of their net
pub record AreNet (m : ThreeStreams) (links : List Link) (given : Counts) : Type 0 where
  pub going : AreOfUse m
  pub net :
      (tapes : Tapes) → AreTapesOf (drawn_by m) (left_to m) tapes → IsNet (state_of (stories_with m tapes) links false) (stories_with m tapes) given
