-- How far a node has come that reads frame by frame.
use Rattle.std.specs.Prelude.{◌≡◌, ◌≢◌, ◌⊎◌, ℕ, List, ◌++◌, length, take, false, true, Option, Some, None, Result, OnOk, IfOk, IfErr}
use Rattle.outside.specs.Links.{LinksState, no_bytes, bytes_of, and_then, Did, Ordered}
use Rattle.proto_core.specs.declared.party.Number.{Number}
use Rattle.proto_core.specs.declared.link.Link.{Link}
use Rattle.proto_core.specs.declared.refused.BadMessage as refusal
use Rattle.proto_core.specs.Parties.{count_of, sender_of, receiver_of}
use Rattle.proto_core.specs.Strand.{Mail, Strand, Ends, Begins}
use Rattle.proto_core.specs.Standing.{Refuses}
use Rattle.served_bytes.specs.Front.{Malformed, Truncated}
use Rattle.served_bytes.specs.Reading.{HasRead}
use Rattle.sc_text.specs.declared.end.Ending.{Ending}
use Rattle.miner_core.specs.OwnCode.{Ended}
use Rattle.miner_core.specs.declared.answer.End.TheVariants as end
use Rattle.miner_core.specs.Story.{Story, received, mail_in, strand_in, node, sent_to_next, sent_to_previous, stands_at, HasEnded}
use Rattle.wire.specs.Frames.{framed}
use Rattle.miner_node.specs.declared.node_err.NodeErr.{NodeErr}
use Rattle.miner_node.specs.declared.node_err.NodeErr.TheVariants.{LinkFault, PeerMismatch, BadFrame, BadMessage, Memory}
use Rattle.miner_node.specs.declared.sending.SentCounts.{SentCounts}
use Rattle.miner_node.specs.Faults.{IsFault, IsLater, WasNotSent}
use Rattle.miner_node.specs.Order.{GivesOnly, IsMessageDue, IsUnfinished}
use Rattle.miner_node.specs.Peers.{coming_to, Sends, SendsFronts}
use Rattle.miner_node.specs.Serving.{Serving, Finished, serving_messages, frames, frames_to_next, frames_to_previous}
use Rattle.miner_node.specs.Answers.{IsStop, ReadsOne}

-- ---- frames to a peer

-- of the messages for a peer the frames of so many were sent, and now those of all are; or a front of them
pub record SendsFrom (old new : LinksState) (peer : ℕ) (messages : List (List ℕ)) (sent : ℕ) (result : Result ℕ NodeErr) : Type 0 where
  pub count : IfOk result (λ count. count ≡ length messages)
  pub all :
      OnOk result (old.told ≡ true → (base : List ℕ) → old.sent peer ≡ base ++ frames (take sent messages) → new.sent peer ≡ base ++ frames messages)
  pub front :
      old.told ≡ true → (base : List ℕ) → old.sent peer ≡ base ++ frames (take sent messages) →
      (front : List ℕ) × Begins front (frames messages) × (new.sent peer ≡ base ++ front)
  pub did : GivesOnly old new
  pub err : IfErr result (WasNotSent old new)
  pub others : old.told ≡ true → (p : ℕ) → p ≢ peer → new.sent p ≡ old.sent p
  pub coming : new.coming ≡ old.coming
  pub later : IsLater old new

-- the frames of so many of a miner's messages were sent to its two peers
abbrev pub HasSentSome : Number → (before now : ℕ → List ℕ) → Story → SentCounts → Type 0
HasSentSome i before now s counts =
    Sends i before now (frames (take counts.to_next (sent_to_next i s))) (frames (take counts.to_previous (sent_to_previous i s)))

-- so were those of all; or a front of them
pub record SendsNew {T : Type 0} (i : Number) (s : Story) (before after : SentCounts) (old new : LinksState) (result : Result T NodeErr) : Type 0 where
  pub next : OnOk result (after.to_next ≡ length (sent_to_next i s))
  pub previous : OnOk result (after.to_previous ≡ length (sent_to_previous i s))
  pub all :
      OnOk result (old.told ≡ true → (base : ℕ → List ℕ) → HasSentSome i base old.sent s before →
      Sends i base new.sent (frames (sent_to_next i s)) (frames (sent_to_previous i s)))
  pub front :
      old.told ≡ true → (base : ℕ → List ℕ) → HasSentSome i base old.sent s before →
      SendsFronts i base new.sent (frames (sent_to_next i s)) (frames (sent_to_previous i s))
  pub did : GivesOnly old new
  pub err : IfErr result (WasNotSent old new)
  pub coming : new.coming ≡ old.coming
  pub later : IsLater old new

-- ---- a message that comes

-- a miner refuses no message
abbrev pub IsAtEase : Number → Story → Type 0
IsAtEase i s = (refused : Link) (cause : refusal.BadMessage) → stands_at i s ≢ Refuses refused cause

module _ (i : Number) (link : Link) (before after : Story) (old new : LinksState) where
  -- the next frame of the link was read, and its message delivered
  pub record Delivers : Type 0 where
    pub own : receiver_of link ≡ i
    pub message : List ℕ
    pub story : after ≡ received i before link message
    pub frame : old.told ≡ true → ReadsOne old new (count_of (sender_of link)) message

  pub record IsUnreadable : Type 0 where
    pub own : receiver_of link ≡ i
    pub fault : IsFault old new (old.told ≡ true → framed (old.coming (count_of (sender_of link))) ≡ Truncated)

  pub record IsMalformed (place : ℕ) : Type 0 where
    pub own : receiver_of link ≡ i
    pub malformed : old.told ≡ true → framed (old.coming (count_of (sender_of link))) ≡ Malformed place

  pub record IsRefused (refused : Link) (cause : refusal.BadMessage) : Type 0 where
    pub delivered : Delivers
    pub refuses : stands_at i after ≡ Refuses refused cause

  abbrev pub IsUndelivered : NodeErr → Type 0
  IsUndelivered LinkFault = IsUnreadable
  IsUndelivered (PeerMismatch field mine theirs) = ⊥
  IsUndelivered (BadFrame place) = IsMalformed place
  IsUndelivered (BadMessage refused cause) = IsRefused refused cause
  IsUndelivered Memory = Unit {0}

  -- bytes of the next frame were taken
  pub record TakesOfFrame : Type 0 where
    pub own : receiver_of link ≡ i
    pub did :
        old.told ≡ true → (taken : List ℕ)
        × Did (IsUnfinished framed (count_of (sender_of link))) old new no_bytes (bytes_of (count_of (sender_of link)) taken)

  pub record TakesMessage {T : Type 0} (result : Result T NodeErr) : Type 0 where
    pub ok : OnOk result (Delivers × IsAtEase i after)
    pub did : (new ≡ old) ⊎ TakesOfFrame
    pub err : IfErr result IsUndelivered
    pub sent : new.sent ≡ old.sent
    pub later : IsLater old new

-- ---- a turn

-- all but what came is as it was
abbrev pub SameTask : (before after : Story) → Type 0
SameTask before after = after ≡ record before { from_previous = after.from_previous; from_next = after.from_next }

-- with these bytes taken it has received these messages, and whatever comes after them leads on from there
abbrev pub ReadsOn : Number → Strand Ended → (mail : Mail) → (taken : ℕ → List ℕ) → Type 0
ReadsOn i s mail taken = (rest : ℕ → List ℕ) → HasRead framed s (coming_to i (and_then taken rest)) mail (coming_to i rest)

-- its calls since the start were in order, and with the bytes taken it has received its messages
pub record InOrderSoFar (i : Number) (start now : LinksState) (first s : Story) : Type 0 where
  pub given : ℕ → List ℕ
  pub taken : ℕ → List ℕ
  pub did : Did (IsMessageDue i (strand_in i first)) start now given taken
  pub reads : ReadsOn i (strand_in i first) (mail_in i s) taken

-- from `start` on a node has come so far that began with this story: it has read what its miner received, and has sent so much of what it sends
pub record IsServing (i : Number) (start now : LinksState) (first s : Story) (counts : SentCounts) : Type 0 where
  pub going : s.lost ≡ false
  pub task : SameTask first s
  pub read : start.told ≡ true → HasRead framed (strand_in i first) (coming_to i start.coming) (mail_in i s) (coming_to i now.coming)
  pub sent : start.told ≡ true → HasSentSome i start.sent now.sent s counts
  pub order : start.told ≡ true → InOrderSoFar i start now first s
  pub later : IsLater start now

-- the miner's run has ended so, and this is what the node comes to
pub record HasFinished (i : Number) (s : Story) (r : Serving) : Type 0 where
  pub outcome : (e : Ended) × ((node i s).left ≡ Ends e) × (r.outcome ≡ Finished e)
  pub acts : r.acts ≡ (node i s).acts

module _ (i : Number) (start now : LinksState) (first : Story) where
  -- what the node comes to, by the bytes that were to come at the start
  abbrev pub from_start : Serving
  from_start = serving_messages i (strand_in i first) start.coming

  -- it has ended: it has done all that those bytes lead to, and sent exactly the frames of that
  pub record Finishes (s : Story) (ending : Ending) : Type 0 where
    pub going : s.lost ≡ false
    pub task : SameTask first s
    pub ended : HasEnded (node i s).left (end.Over ending)
    pub served : start.told ≡ true → HasFinished i s from_start
    pub sent : start.told ≡ true → Sends i start.sent now.sent (frames_to_next i from_start.acts) (frames_to_previous i from_start.acts)
    pub later : IsLater start now

  -- it stops for this cause
  abbrev pub StopsServing : NodeErr → Type 0
  StopsServing e = IsStop i start now from_start.outcome (frames_to_next i from_start.acts) (frames_to_previous i from_start.acts) e

  abbrev pub TurnGoes : Story → SentCounts → Option Ending → Type 0
  TurnGoes s counts None = IsServing i start now first s counts
  TurnGoes s counts (Some ending) = Finishes s ending

  pub record TurnAnswers (s : Story) (counts : SentCounts) (result : Result (Option Ending) NodeErr) : Type 0 where
    pub ok : IfOk result (TurnGoes s counts)
    pub err : IfErr result StopsServing
    pub did : Ordered (IsMessageDue i (strand_in i first)) start now
    pub later : IsLater start now

  -- turns until the run has ended
  pub record EndsTurns (s : Story) (result : Result Ending NodeErr) : Type 0 where
    pub ok : IfOk result (Finishes s)
    pub err : IfErr result StopsServing
    pub did : Ordered (IsMessageDue i (strand_in i first)) start now
    pub later : IsLater start now
