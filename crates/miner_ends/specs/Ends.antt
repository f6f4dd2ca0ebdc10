-- How a miner ends: where evaluation can end, with words for it to be told.
use Rattle.std.specs.Prelude.{◌≡◌, ℕ, ◌-◌, ◌≤◌, List, Some}
use Rattle.sc_text.specs.declared.end.Ending.{Ending}
use Rattle.language_model.specs.Effects.{World}
use Rattle.language_model.specs.Effects as effects
use Rattle.language_model.specs.Reports.{Report, dealing}
use Rattle.verified_code.specs.Steps.{Function}
use Rattle.code_model.specs.Meaning.{mean_in}
use Rattle.code_places.specs.Places.{Place}
use Rattle.driven_nodes.specs.Steps.{Running, Stopped, Short}
use Rattle.own_code.specs.OwnCode.{Ended, Reached, Unfit}

-- a run is reported to end so, at this place
pub record EndsThere (ending : Ending) (budget : ℕ) (r : Report) (p : Place) : Type 0 where
  pub stop : r.stop ≡ effects.Ended ending
  pub cost : r.cost ≡ budget - p.stage.left
  pub drawn : r.drawn ≡ p.stage.drawn
  pub opened : r.opened ≡ p.stage.opened

-- told some words, the code's evaluation ends there, where the inputs are dealt
pub record IsAnEnd (w : World) (c : List Function) (budget : ℕ) (p : Place) : Type 0 where
  pub ending : Ending
  pub ended : p.ended ≡ Some ending
  pub answers : List ℕ
  pub reported : dealing w ≤ w.dealer → EndsThere ending budget (mean_in w c budget answers) p

-- a miner has come to such a place: no gate was unfit, no words were missing, and no steps were left
abbrev pub EndsAsItCan : World → List Function → (budget : ℕ) → Ended → Type 0
EndsAsItCan w c budget (Reached (Stopped p) values) = IsAnEnd w c budget p
EndsAsItCan w c budget (Reached (Running p) values) = ⊥
EndsAsItCan w c budget (Reached (Short p) values) = ⊥
EndsAsItCan w c budget Unfit = ⊥
