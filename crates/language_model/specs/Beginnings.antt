-- What a run has done when it is cut off, beside one that goes on.
use Rattle.std.specs.Prelude.{◌≡◌, List, ◌++◌}
use Rattle.language_model.specs.Reports.{Report}

-- the second list goes on from the first
abbrev pub Begins : {A : Type 0} → List A → List A → Type 0
Begins {A = A} xs ys = (more : List A) × (ys ≡ xs ++ more)

-- the second run tells, opens and makes what the first one does, and goes on
pub record IsBeginning (r r' : Report) : Type 0 where
  pub events : Begins r.events r'.events
  pub opened : Begins r.opened r'.opened
  pub gates : Begins r.gates r'.gates
