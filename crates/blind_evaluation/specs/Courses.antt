-- What two runs have in common that take the same course: all but the elements that are handed over.
use Rattle.std.specs.Prelude.{◌≡◌, List, length}
use Rattle.std.specs.List.{AllZip}
use Rattle.sc_text.specs.declared.event.Event.{Event}
use Rattle.sc_text.specs.declared.event.Event.TheVariants.{Open, Publish, Hand}
use Rattle.language_model.specs.Effects.{RunStop, Ended, Short}
use Rattle.language_model.specs.Reports.{Report}

-- an opening is the same, and so is a publication; what is handed over has the same name, and as many elements, of the same kind
abbrev pub LikeEvent : Event → Event → Type 0
LikeEvent (Open elements) (Open others) = elements ≡ others
LikeEvent (Publish text elements) (Publish text' others) = (text ≡ text') × (elements ≡ others)
LikeEvent (Hand text kind elements) (Hand text' kind' others) = (text ≡ text') × (kind ≡ kind') × (length elements ≡ length others)
LikeEvent e f = ⊥

abbrev pub LikeEvents : List Event → List Event → Type 0
LikeEvents es fs = AllZip LikeEvent es fs

pub record TakeSameCourse (r s : Report) : Type 0 where
  pub stop : r.stop ≡ s.stop
  pub cost : r.cost ≡ s.cost
  pub dealt : r.dealt ≡ s.dealt
  pub drawn : r.drawn ≡ s.drawn
  pub events : LikeEvents r.events s.events
  pub opened : r.opened ≡ s.opened
  pub gates : r.gates ≡ s.gates

-- a run that stopped for another reason than that answers were missing
abbrev pub IsEnded : RunStop → Type 0
IsEnded (Ended e) = Unit {0}
IsEnded Short = ⊥
