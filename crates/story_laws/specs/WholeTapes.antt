-- A delivery to a miner that has its whole tape by itself, by its story.
use Rattle.std.specs.Prelude.{◌≡◌, ℕ, List, Some, None, Result, Err}
use Rattle.proto_core.specs.declared.party.Number.{Number}
use Rattle.proto_core.specs.declared.link.Link.{Link}
use Rattle.miner_core.specs.declared.answer.Lost.{Lost}
use Rattle.miner_core.specs.declared.answer.MinerErr.{MinerErr}
use Rattle.miner_core.specs.declared.answer.MinerErr.TheVariants as error
use Rattle.miner_core.specs.declared.answer.Step.{Step}
use Rattle.miner_core.specs.Story.{DeliverAnswers}
use Rattle.miner_core.specs.Streams.{StreamState, story_so_far, no_words, Answers}

module _ (i : Number) (l : Link) (m : List ℕ) (before after : StreamState) (answer : Result Step MinerErr) where
  -- what a delivery promises where no source has any word of its tape; once it was lost it answers so, and stays as it was
  pub record HasAnswered : Type 0 where
    pub whole : before.lost ≡ None → before.ahead ≡ 0
    pub answers : before.lost ≡ None → Answers i l m before after no_words no_words answer
    pub lost : (why : Lost) → before.lost ≡ Some why → (answer ≡ Err (error.Lost why)) × (after ≡ before)

  -- so it answers by its story, which is one of this tape alone
  abbrev pub AnswersByItsStory : Type 0
  AnswersByItsStory = HasAnswered → DeliverAnswers i (story_so_far before) (story_so_far after) l m answer
