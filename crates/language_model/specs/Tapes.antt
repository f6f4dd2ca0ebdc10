-- Whether tapes have the words that a run needs.
use Rattle.std.specs.Prelude.{◌≤◌, Bool, true, false}
use Rattle.sc_text.specs.declared.end.Ending.TheVariants.{Tape}
use Rattle.language_model.specs.Effects.{Words, World, RunStop, Ended}
use Rattle.language_model.specs.Reports.{Report}

abbrev pub AtMost : Words → Words → Type 0
AtMost a b = (a.first ≤ b.first) × (a.second ≤ b.second) × (a.third ≤ b.third)

-- the dealer's tape and the miners' have at least the words that a run needed
pub record HasWords (w : World) (r : Report) : Type 0 where
  pub dealt : r.dealt ≤ w.dealer
  pub drawn : AtMost r.drawn w.lengths

-- whether a run stopped for want of words
abbrev pub lacks_words : RunStop → Bool
lacks_words (Ended (Tape owner need have)) = true
lacks_words stop = false
