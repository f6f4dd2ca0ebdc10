-- What is promised of code of the first version that today's rules run.
use Rattle.std.specs.Prelude.{◌≡◌, ℕ, List, false}
use Rattle.language_model.specs.Effects.{World}
use Rattle.language_model.specs.Reports.{Report}
use Rattle.language_model.specs.Tapes.{lacks_words}
use Rattle.verified_code.specs.Steps.{Function}
use Rattle.code_model.specs.Meaning.{mean_in}
use Rattle.first_version.specs.Meaning.{mean_v1_in}

-- why they stopped, what they told and opened, and what they cost
pub record MeanAlike (r q : Report) : Type 0 where
  pub stop : r.stop ≡ q.stop
  pub events : r.events ≡ q.events
  pub opened : r.opened ≡ q.opened
  pub cost : r.cost ≡ q.cost

-- the old code by the first version and the new code by today's, with any lengths and inputs, in the clear or blind, whatever the budget and
-- the answers: alike where neither stops for want of random words
abbrev pub KeepsMeaning : (old new : List Function) → Type 0
KeepsMeaning old new =
    (w : World) (budget : ℕ) (answers : List ℕ) → lacks_words (mean_v1_in w old budget answers).stop ≡ false
    → lacks_words (mean_in w new budget answers).stop ≡ false
    → MeanAlike (mean_v1_in w old budget answers) (mean_in w new budget answers)
