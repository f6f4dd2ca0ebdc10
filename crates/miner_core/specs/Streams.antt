-- A miner that draws its tape from a source, by what it was made with, received and drew.
use Rattle.std.specs.Prelude.{◌≡◌, ℕ, Bool, true, false, List, [], ◌++◌, Option, Some, None, Result, Ok, Err}
use Rattle.outside.specs.Tapes.{TapesState, Drew, no_files}
use Rattle.proto_core.specs.declared.party.Number.{Number}
use Rattle.proto_core.specs.declared.link.Link.{Link}
use Rattle.proto_core.specs.Parties.{count_of}
use Rattle.proto_core.specs.Standing.{AtItsEnd}
use Rattle.gates.specs.Clear.{Values}
use Rattle.gate_node.specs.Nodes.{IsTapeOf}
use Rattle.miner_core.specs.declared.answer.Step.{Step}
use Rattle.miner_core.specs.declared.answer.MinerErr.{MinerErr}
use Rattle.miner_core.specs.declared.answer.Lost.{Lost}
use Rattle.miner_core.specs.declared.answer.MinerErr.TheVariants as error
use Rattle.miner_core.specs.declared.kept.Kept.{Kept}
use Rattle.miner_core.specs.declared.task.Task.{Task}
use Rattle.miner_core.specs.Story.{Story, received, start_of, stands_at, IsAnswer}
use Rattle.miner_core.specs.Drawing.{left_for, HasDrawn, IsLostBy}

-- the tape of the story is the words that were drawn; so many are left after them; and why it is of no further use, if it is
pub record StreamState : Type 0 where
  pub story : Story
  pub ahead : ℕ
  pub lost : Option Lost
  -- whether it lets go what is done with
  pub past : Kept

abbrev pub has_lost : Option Lost → Bool
has_lost None = false
has_lost (Some l) = true

-- its story, with this whole tape
abbrev pub with_tape : StreamState → (tape : List ℕ) → Story
with_tape m tape = record m.story { tape = tape; lost = has_lost m.lost }

-- where no words come after those that it has
abbrev pub story_so_far : StreamState → Story
story_so_far m = with_tape m m.story.tape

-- its story while it is of use
abbrev pub story_in_use : StreamState → Story
story_in_use m = record m.story { lost = false }

-- while it is of use: for its story where no words come after those that it has drawn
abbrev pub ForWordsDrawn : StreamState → (Story → Type 0) → Type 0
ForWordsDrawn m Q = m.lost ≡ None → Q (story_so_far m)

-- while it is of use: for its story with each tape that begins with the words drawn, and has so many after them
abbrev pub ForEachTape : StreamState → (Story → Type 0) → Type 0
ForEachTape m Q = m.lost ≡ None → (tape : List ℕ) → IsTapeOf m.story.tape m.ahead tape → Q (with_tape m tape)

-- an answer of a miner that has taken a message
abbrev pub IsOfMessage : Result Step MinerErr → Type 0
IsOfMessage (Ok step) = Unit {0}
IsOfMessage (Err (error.BadMessage l cause)) = Unit {0}
IsOfMessage (Err (error.NotAwaited l)) = ⊥
IsOfMessage (Err (error.Lost l)) = ⊥

-- a source that has no words
abbrev pub no_words : TapesState
no_words = record { told = true; words = λ _. []; count = λ _. 0; steady = true; under = no_files; held = 0 }

-- it was made with this, and these first words of its tape, and has drawn what leads to its first wait
pub record IsMade (i : Number) (task : Task) (dealt : Values) (first : List ℕ) (budget : ℕ) (old new : TapesState) (m : StreamState) : Type 0 where
  pub going : m.lost ≡ None
  pub taken : List ℕ
  pub drew : Drew old new (count_of i) taken
  pub story : m.story ≡ start_of task dealt (first ++ taken) budget
  pub ahead : left_for i new ≡ m.ahead

-- ---- what a delivery does

module _ (i : Number) (l : Link) (m : List ℕ) (before after : StreamState) (old new : TapesState) where
  -- the message came: the answer says where the miner stands with it
  pub record HasMoved (answer : Result Step MinerErr) : Type 0 where
    pub going : after.lost ≡ None
    pub taken : List ℕ
    pub drew : Drew old new (count_of i) taken
    pub tape : after.story.tape ≡ before.story.tape ++ taken
    pub ahead : left_for i new ≡ after.ahead
    pub past : after.past ≡ before.past
    pub received : (tape : List ℕ) → with_tape after tape ≡ received i (with_tape before tape) l m
    pub answers : (tape : List ℕ) → IsTapeOf after.story.tape after.ahead tape → IsAnswer i (with_tape after tape) answer

  -- it had ended, and all is as before
  pub record HasNotMoved (at : Link) : Type 0 where
    pub here : at ≡ l
    pub same : after ≡ before
    pub source : new ≡ old
    pub ended : (tape : List ℕ) → IsTapeOf before.story.tape before.ahead tape → stands_at i (with_tape before tape) ≡ AtItsEnd

  -- it is of no further use from now on, for this cause
  pub record IsLostNow (why : Lost) : Type 0 where
    pub state : after.lost ≡ Some why
    pub drawn : HasDrawn i old new
    pub cause : IsLostBy old new why

  abbrev pub Answers : Result Step MinerErr → Type 0
  Answers (Ok step) = HasMoved (Ok step)
  Answers (Err (error.NotAwaited at)) = HasNotMoved at
  Answers (Err (error.BadMessage at cause)) = HasMoved (Err (error.BadMessage at cause))
  Answers (Err (error.Lost why)) = IsLostNow why
