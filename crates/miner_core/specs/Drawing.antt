-- What a miner's engine draws of its tape. What it does then holds for every tape that begins with the words that it has drawn.
use Rattle.std.specs.Prelude.{◌≡◌, ℕ, ◌<◌, ◌≤◌, List, ◌++◌, length, true, Result, IfErr}
use Rattle.outside.specs.Causes.{Rose}
use Rattle.outside.specs.Tapes.{TapesState, Drew, faults_of, left_of}
use Rattle.proto_core.specs.declared.party.Number.{Number}
use Rattle.proto_core.specs.declared.link.Link.{Link}
use Rattle.proto_core.specs.Parties.{count_of}
use Rattle.proto_core.specs.Standing.{AtItsEnd, standing_with}
use Rattle.block_steps.specs.Outcomes.{mail_left, Holds}
use Rattle.gate_node.specs.declared.standing.Standing.{Standing}
use Rattle.gate_node.specs.declared.standing.Standing.TheVariants as stand
use Rattle.miner_core.specs.declared.answer.Lost.{Lost}
use Rattle.miner_core.specs.declared.answer.Lost.TheVariants as lost
use Rattle.miner_core.specs.declared.engine.Engine.{Engine}
use Rattle.miner_core.specs.Engines.{engine_left, engine_outcome, engine_told, shown, with_words, IsSoundAlways, Rests}
use Rattle.miner_core.specs.Past.{Past, with_past}
use Rattle.miner_core.specs.Story.{Story, Leads, received, story_of}

-- ---- the source

-- how many words of this miner's tape are left
abbrev pub left_for : Number → TapesState → ℕ
left_for i s = left_of s (count_of i)

-- so many are left that a gate which wants more can't begin
abbrev pub IsTooShort : Standing → (left : ℕ) → Type 0
IsTooShort (stand.Wants count) left = left < count
IsTooShort stand.Through left = Unit {0}
IsTooShort (stand.Waits link cause) left = Unit {0}
IsTooShort stand.Unfit left = Unit {0}

-- words of this miner's tape were drawn, and no others
pub record HasDrawn (i : Number) (old new : TapesState) : Type 0 where
  pub taken : List ℕ
  pub drew : Drew old new (count_of i) taken

-- the count of faults rose, and the source was not steady
pub record IsTapeFault (old new : TapesState) : Type 0 where
  pub rose : Rose (faults_of old) (faults_of new)
  pub unsteady : old.steady ≡ true → ⊥

-- why a miner is of no further use from then on
abbrev pub IsLostBy : (old new : TapesState) → Lost → Type 0
IsLostBy old new lost.Memory = Unit {0}
IsLostBy old new lost.TapeFault = IsTapeFault old new

-- a call that may draw
pub record Draws {A : Type 0} (i : Number) (old new : TapesState) (result : Result A Lost) : Type 0 where
  pub drawn : HasDrawn i old new
  pub lost : IfErr result (IsLostBy old new)
  pub still : old.steady ≡ true → new.steady ≡ true

-- ---- the engine

-- its run has ended, where these words more come
abbrev pub IsAtItsEnd : {P : Type 0} → Number → Engine P → (more : List ℕ) → Type 0
IsAtItsEnd i e more = standing_with (engine_left i (with_words e more)) (mail_left i e.node.links) ≡ AtItsEnd

module _ {P : Type 0} (i : Number) where
  -- so many words were drawn, and supplied
  pub record Supplied (count : ℕ) (before after : Engine P) (old new : TapesState) : Type 0 where
    pub words : List ℕ
    pub counted : length words ≡ count
    pub drew : Drew old new (count_of i) words
    pub supplied : after ≡ with_words before words

  -- it has drawn words, and done and told what it would have with them, whatever words come after
  pub record DrewOn (before after : Engine P) (old new : TapesState) : Type 0 where
    pub taken : List ℕ
    pub drew : Drew old new (count_of i) taken
    pub tape : after.node.tape.0 ≡ before.node.tape.0 ++ taken
    pub same :
        (more : List ℕ) →
        shown (engine_outcome i (with_words after more)) ≡ shown (engine_outcome i (with_words before (taken ++ more)))
    pub told : (more : List ℕ) → engine_told i (with_words after more) ≡ engine_told i (with_words before (taken ++ more))
    pub sound : IsSoundAlways i after
    pub links : Holds before.node.links after.node.links
    pub task : after.task ≡ before.task
    pub dealt : after.node.dealt ≡ before.node.dealt
    pub still : old.steady ≡ true → new.steady ≡ true

  -- and so it stands, whatever words come, if no more do than are left
  pub record RunsOn (rest : Standing) (before after : Engine P) (old new : TapesState) : Type 0 where
    pub drew : DrewOn before after old new
    pub rests : (more : List ℕ) → length more ≤ left_for i new → Rests i rest (with_words after more)

  -- a message came; what it has done then is what its story leads to, whatever it has let go of what it had sent, and whatever words come
  pub record Delivers (rest : Standing) (l : Link) (m : List ℕ) (before after : Engine P) (old new : TapesState) : Type 0 where
    pub taken : List ℕ
    pub drew : Drew old new (count_of i) taken
    pub tape : after.node.tape.0 ≡ before.node.tape.0 ++ taken
    pub story : (budget : ℕ) → story_of after budget ≡ record (received i (story_of before budget) l m) { tape = after.node.tape.0 }
    pub sound : IsSoundAlways i after
    pub leads :
        (past : Past) (more : List ℕ) (s : Story) → Leads i (with_words (with_past past before) (taken ++ more)) s →
        Leads i (with_words (with_past past after) more) (received i s l m)
    pub rests : (more : List ℕ) → length more ≤ left_for i new → Rests i rest (with_words after more)

  -- with what it has let go of what it had sent, it has done what this story leads to, whatever words come after those of the story; and so it
  -- rests, where no more do than are ahead
  pub record IsAtRest (past : Past) (e : Engine P) (rest : Standing) (ahead : ℕ) (s : Story) : Type 0 where
    pub sound : IsSoundAlways i e
    pub leads : (more : List ℕ) → Leads i (with_words (with_past past e) more) (record s { tape = s.tape ++ more })
    pub rests : (more : List ℕ) → length more ≤ ahead → Rests i rest (with_words e more)
