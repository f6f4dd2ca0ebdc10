-- What the client sees of the run of a program, and what the simulator makes of it.
use Rattle.std.specs.Prelude.{ℕ, nat_le, if◌then◌else◌, List, [], ◌∷◌, ◌++◌, length, map, take, drop, Option, Some, None}
use Rattle.sc_text.specs.declared.elements.Element.{Element}
use Rattle.sc_text.specs.declared.elements.ElementKind.{ElementKind}
use Rattle.sc_text.specs.declared.event.Event.{Event}
use Rattle.sc_text.specs.declared.event.Event.TheVariants.{Open, Publish, Hand}
use Rattle.gates.specs.declared.gate.Gate.{Gate}
use Rattle.value_file.specs.declared.inputs.Entry.{Entry}
use Rattle.value_file.specs.declared.public.PublicEntry.{PublicEntry}
use Rattle.tape_file.specs.Tapes.{FourTapes}
use Rattle.program_trees.specs.TypedPrograms.{TypedProgramTree}
use Rattle.language_model.specs.Effects.{RunStop, Ended, Short}
use Rattle.language_model.specs.Learned.{element_word, elements_words}
use Rattle.language_model.specs.Values.{element_as}
use Rattle.language_model.specs.Reports.{Report}
use Rattle.view_model.specs.Dealing.{dealt_to, private_sizes, hidden_sizes}
use Rattle.view_model.specs.TapeMaps.{miners_of}
use Rattle.program_views.specs.Views.{lengths_of, run_on, told_run}
use Rattle.handed_shares.specs.Handed.{all_of}
use Rattle.client_model.specs.Given.{Given, made_from}
use Rattle.client_model.specs.Laws.{given}
pub use Rattle.client_text.specs.declared.seen.Sighting.{Sighting}
pub use Rattle.client_text.specs.declared.seen.Sighting.TheVariants.{Opened, Said, Got}
pub use Rattle.client_text.specs.Seen.{ClientView}

-- ---- A VIEW

-- the events of a run, each that hands over with the next of these shares
abbrev pub sightings : List Event → List Given → List Sighting
sightings [] given = []
sightings (Open elements ∷ events) given = Opened elements ∷ sightings events given
sightings (Publish text elements ∷ events) given = Said text elements ∷ sightings events given
sightings (Hand text kind elements ∷ events) [] = sightings events []
sightings (Hand text kind elements ∷ events) (g ∷ given) = Got text g elements ∷ sightings events given

-- of a run that ended; one that wants an answer gives no view
abbrev pub view_at : List Event → List Given → RunStop → (cost : ℕ) → Option ClientView
view_at events given (Ended ending) cost = Some (record { sightings = sightings events given; end = record { how = ending; cost = cost } })
view_at events given Short cost = None

-- ---- WHAT THE CLIENT SEES

-- the shares that it is given of what these gates hand over; no order of deliveries is asked
abbrev pub given_in : List Entry → List Gate → FourTapes → List Given
given_in entries gates t = given all_of (dealt_to entries t.dealer) (private_sizes entries) gates (miners_of t)

abbrev pub view_with : List Entry → FourTapes → Report → Option ClientView
view_with entries t r = view_at r.events (given_in entries r.gates t) r.stop r.cost

abbrev pub client_view_of : TypedProgramTree → List Entry → FourTapes → (budget : ℕ) → Option ClientView
client_view_of p entries t budget = view_with entries t (run_on p entries (lengths_of t) budget)

-- ---- WHAT IT IS TOLD

-- the elements of what is handed over, value by value
abbrev pub handed_elements : List Event → List (List Element)
handed_elements [] = []
handed_elements (Open elements ∷ events) = handed_elements events
handed_elements (Publish text elements ∷ events) = handed_elements events
handed_elements (Hand text kind elements ∷ events) = elements ∷ handed_elements events

-- their words, one for each element
abbrev pub words_of : List Event → List (List ℕ)
words_of events = map (map element_word) (handed_elements events)

-- all of them, one after another
abbrev pub all_words : List (List ℕ) → List ℕ
all_words [] = []
all_words (words ∷ more) = words ++ all_words more

abbrev pub published_of : List Event → List ℕ
published_of events = all_words (words_of events)

-- the words that the gates have for what is handed over, value by value
abbrev pub gate_words_of : List Event → List (List ℕ)
gate_words_of events = map elements_words (handed_elements events)

-- ---- THE SIMULATOR: no private word but those that are handed over, and no share, among its arguments

abbrev pub and_then : Event → Option (List Event) → Option (List Event)
and_then e None = None
and_then e (Some events) = Some (e ∷ events)

-- so many of the next words, as elements of this kind
abbrev pub told_elements : ElementKind → (count : ℕ) → (words : List ℕ) → List Element
told_elements kind count words = map (element_as kind) (take count words)

-- these events, each that hands over with the next of the words that are told, as many as it has elements; nothing where they are too few
abbrev pub told_events : List Event → (published : List ℕ) → Option (List Event)
told_events [] published = Some []
told_events (Open elements ∷ events) published = and_then (Open elements) (told_events events published)
told_events (Publish text elements ∷ events) published = and_then (Publish text elements) (told_events events published)
told_events (Hand text kind elements ∷ events) published =
    if nat_le (length elements) (length published)
    then and_then (Hand text kind (told_elements kind (length elements) published)) (told_events events (drop (length elements) published))
    else None

-- of the run of one who is told what is opened, with these events in it
abbrev pub made_with : List PublicEntry → FourTapes → Report → Option (List Event) → Option ClientView
made_with part s r None = None
made_with part s r (Some events) =
    view_at events (made_from all_of 0 (hidden_sizes part) [] r.gates (gate_words_of events) (miners_of s)) r.stop r.cost

abbrev pub made_view : List PublicEntry → (published : List ℕ) → FourTapes → Report → Option ClientView
made_view part published s r = made_with part s r (told_events r.events published)

abbrev pub client_simulated :
    TypedProgramTree → List PublicEntry → (opened published : List ℕ) → FourTapes → (budget : ℕ) → Option ClientView
client_simulated p part opened published s budget = made_view part published s (told_run p part opened (lengths_of s) budget)
