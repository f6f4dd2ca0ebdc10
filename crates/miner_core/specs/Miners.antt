-- A miner, by the states that it may be in: where it has let go what is done with, its state is that of one that keeps all.
use Rattle.std.specs.Prelude.{◌≡◌, ℕ, ◌+◌, ◌<◌, ◌≤◌, List, [], length, Option, None, Result}
use Rattle.outside.specs.Tapes.{TapesState}
use Rattle.proto_core.specs.declared.party.Number.{Number}
use Rattle.proto_core.specs.declared.link.Link.{Link}
use Rattle.gates.specs.Clear.{Values}
use Rattle.gate_node.specs.declared.standing.Standing.{Standing}
use Rattle.miner_core.specs.declared.answer.Lost.{Lost}
use Rattle.miner_core.specs.declared.answer.MinerErr.{MinerErr}
use Rattle.miner_core.specs.declared.answer.Step.{Step}
use Rattle.miner_core.specs.declared.engine.Engine.{Engine}
use Rattle.miner_core.specs.declared.kept.Kept.{Kept}
use Rattle.miner_core.specs.declared.kept.Kept.TheVariants.{All, Needed}
use Rattle.miner_core.specs.declared.task.Task.{Task}
use Rattle.miner_core.specs.Drawing.{IsAtRest}
use Rattle.miner_core.specs.Past.{Past, no_past, HoldsLittle}
use Rattle.miner_core.specs.Story.{Story, story_of, sent_to_next, sent_to_previous}
use Rattle.miner_core.specs.Streams.{StreamState, ForEachTape, story_in_use, IsMade, Answers}

-- ---- what it holds

-- what a miner has
pub record MinerSeen (P : Type 0) : Type 0 where
  pub engine : Engine P
  pub rest : Standing
  pub budget : ℕ
  pub ahead : ℕ
  pub lost : Option Lost
  pub past : Kept
  -- how many messages to each of the two others were fetched of those that it holds
  pub passed_to_next : ℕ
  pub passed_to_previous : ℕ

-- its state by what it holds: that is all of it where nothing was let go
abbrev pub held : {P : Type 0} → MinerSeen P → StreamState
held m = record { story = story_of m.engine m.budget; ahead = m.ahead; lost = m.lost; past = m.past }

-- ---- its state

-- what a miner is by all that it was made with, received and drew, and how many of the messages that it has sent to each were fetched
pub record MinerState : Type 0 where
  pub stream : StreamState
  pub to_next : ℕ
  pub to_previous : ℕ

-- with one message more that was fetched
abbrev pub fetched_to_next : MinerState → MinerState
fetched_to_next w = record w { to_next = w.to_next + 1 }

abbrev pub fetched_to_previous : MinerState → MinerState
fetched_to_previous w = record w { to_previous = w.to_previous + 1 }

-- so many messages of a link were fetched: those that were let go, and so many of those that are held; where what is done with is let go, none is
-- held once all of these were
pub record AreFetched (past : Kept) (gone held : List (List ℕ)) (here count : ℕ) : Type 0 where
  pub counted : length gone + here ≡ count
  pub within : here ≤ length held
  pub little : past ≡ Needed → here ≡ length held → held ≡ []

module _ (i : Number) where
  -- there is a message to the next miner that was not fetched; or none
  abbrev pub HasToNext : MinerState → Type 0
  HasToNext w = ForEachTape w.stream (λ s. w.to_next < length (sent_to_next i s))

  abbrev pub HasNoneToNext : MinerState → Type 0
  HasNoneToNext w = ForEachTape w.stream (λ s. length (sent_to_next i s) ≤ w.to_next)

  -- and to the previous one
  abbrev pub HasToPrevious : MinerState → Type 0
  HasToPrevious w = ForEachTape w.stream (λ s. w.to_previous < length (sent_to_previous i s))

  abbrev pub HasNoneToPrevious : MinerState → Type 0
  HasNoneToPrevious w = ForEachTape w.stream (λ s. length (sent_to_previous i s) ≤ w.to_previous)

module _ {P : Type 0} (i : Number) where
  -- with what it has let go, it has done what its story leads to, and rests there. One that keeps all has let go nothing, and holds its whole story;
  -- one that doesn't holds no more than it must
  pub record IsAtWork (m : MinerSeen P) (w : MinerState) : Type 0 where
    pub past : Past
    pub rests : IsAtRest i past m.engine m.rest w.stream.ahead (story_in_use w.stream)
    pub to_next : AreFetched m.past past.to_next m.engine.node.links.to_next m.passed_to_next w.to_next
    pub to_previous : AreFetched m.past past.to_previous m.engine.node.links.to_previous m.passed_to_previous w.to_previous
    pub nothing_gone : m.past ≡ All → past ≡ no_past
    pub whole : m.past ≡ All → held m ≡ w.stream
    pub little : m.past ≡ Needed → HoldsLittle m.engine

  -- it is the miner of this state
  pub record IsOf (m : MinerSeen P) (w : MinerState) : Type 0 where
    pub lost : m.lost ≡ w.stream.lost
    pub past : m.past ≡ w.stream.past
    pub budget : m.budget ≡ w.stream.story.budget
    pub works : w.stream.lost ≡ None → IsAtWork m w

  -- this holds of each story that it may have; so of the one that it holds, where it keeps all
  pub record ForEachStory (m : MinerSeen P) (Q : Story → Type 0) : Type 0 where
    pub states : (w : MinerState) → IsOf m w → ForEachTape w.stream Q
    pub kept : m.past ≡ All → ForEachTape (held m) Q

  -- it was made with this, and these first words of its tape, and has drawn what leads to its first wait; no message was fetched
  pub record IsMadeSo
      (task : Task) (dealt : Values) (first : List ℕ) (budget : ℕ) (past : Kept) (old new : TapesState) (m : MinerSeen P) : Type 0 where
    pub stream : StreamState
    pub made : IsMade i task dealt first budget old new stream
    pub past_is : m.past ≡ past
    pub is : IsOf m (record { stream = stream; to_next = 0; to_previous = 0 })

  -- a message came: what is answered, and the state then; and no message was fetched
  pub record HasCome
      (l : Link) (m : List ℕ) (before : MinerState) (after : MinerSeen P) (old new : TapesState) (answer : Result Step MinerErr) : Type 0 where
    pub stream : StreamState
    pub is : IsOf after (record before { stream = stream })
    pub answers : before.stream.lost ≡ None → Answers i l m before.stream stream old new answer
