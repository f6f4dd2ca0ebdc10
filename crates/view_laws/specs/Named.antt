-- What a run tells under a name: each is a name.
use Rattle.std.specs.Prelude.{ℕ, List, [], ◌∷◌}
use Rattle.sc_text.specs.declared.event.Event.{Event}
use Rattle.sc_text.specs.declared.event.Event.TheVariants.{Open, Publish, Hand}
use Rattle.sc_text.specs.Name.{IsName}
use Rattle.language_model.specs.Reports.{Offered, eval}
use Rattle.program_trees.specs.TypedPrograms.{TypedProgramTree}
use Rattle.program_run.specs.Accepted.{IsAccepted}

abbrev pub AreNamed : List Event → Type 0
AreNamed [] = Unit {0}
AreNamed (Open elements ∷ events) = AreNamed events
AreNamed (Publish name elements ∷ events) = IsName name × AreNamed events
AreNamed (Hand name kind elements ∷ events) = IsName name × AreNamed events

-- the evaluation of an accepted program, whatever it is offered
abbrev pub EventsAreNamed : TypedProgramTree → Offered → (budget : ℕ) → Type 0
EventsAreNamed p o budget = IsAccepted p → AreNamed (eval p o budget).events
