-- What a miner sees of the run of a program, and what the simulator makes of it.
use Rattle.std.specs.Prelude.{ℕ, ◌+◌, Bool, nat_le, if◌then◌else◌, List, [], ◌∷◌, length, map, Option, Some, None}
use Rattle.sc_text.specs.declared.elements.Element.{Element}
use Rattle.sc_text.specs.declared.event.Event.{Event}
use Rattle.sc_text.specs.declared.event.Event.TheVariants.{Open, Publish, Hand}
use Rattle.proto_core.specs.declared.party.Number.{Number}
use Rattle.proto_core.specs.Script.{Move}
use Rattle.protocol_model.specs.Gates.{gates_script}
use Rattle.protocol_model.specs.Network.{Answer, Delivery, net}
use Rattle.protocol_model.specs.Arrivals.{Arrival}
use Rattle.value_file.specs.declared.inputs.Entry.{Entry}
use Rattle.value_file.specs.declared.public.PublicEntry.{PublicEntry}
use Rattle.input_share.specs.declared.entry.Part.{Part}
use Rattle.input_share.specs.declared.entry.Part.TheVariants as part
use Rattle.input_share.specs.declared.entry.ShareEntry.{ShareEntry}
use Rattle.tape_file.specs.Tapes.{FourTapes}
pub use Rattle.tape_file.specs.Tapes.{lengths_of}
use Rattle.program_trees.specs.TypedPrograms.{TypedProgramTree}
use Rattle.language_model.specs.Learned.{learned_of}
use Rattle.language_model.specs.Effects.{Answers, RunStop, Ended, Short}
use Rattle.language_model.specs.Reports.{Report, world_of, eval, evaluated}
use Rattle.clear_eval.specs.Offers.{offered, offered_part}
use Rattle.view_text.specs.View.{InputShare, Received, View}
use Rattle.view_model.specs.Dealing.{hidden_draws}
use Rattle.view_model.specs.TapeMaps.{is_dealt, gates_dealt}
use Rattle.view_model.specs.Seen.{Seen, seen_by, made_for}

-- ---- THE RUN

-- in the clear, by the tapes' lengths alone: a view has no tapes
abbrev pub run_on : TypedProgramTree → List Entry → (lengths : List ℕ) → (budget : ℕ) → Report
run_on p entries lengths budget = eval p (offered entries lengths) budget

-- of one who knows the public part, and is told what is opened
abbrev pub told_run : TypedProgramTree → List PublicEntry → (opened lengths : List ℕ) → (budget : ℕ) → Report
told_run p part opened lengths budget = evaluated (world_of Answers (offered_part part lengths)) p budget opened

-- ---- A VIEW

-- the shares of the private inputs, by name
abbrev pub share_then : (name : List ℕ) → Part → List InputShare → List InputShare
share_then name (part.Public value) more = more
share_then name (part.Private shared) more = record { name = name; words = shared.words } ∷ more

abbrev pub input_shares : List ShareEntry → List InputShare
input_shares [] = []
input_shares (entry ∷ entries) = share_then entry.name entry.part (input_shares entries)

abbrev pub received : Arrival → Received
received a = record { link = a.link; message = a.message }

-- what was opened, opening by opening
abbrev pub openings : List Event → List (List Element)
openings [] = []
openings (Open elements ∷ events) = elements ∷ openings events
openings (Publish text elements ∷ events) = openings events
openings (Hand text kind elements ∷ events) = openings events

abbrev pub nothing_seen : Seen
nothing_seen = record { inputs = []; drew = []; got = [] }

-- of a run that ended; one that wants an answer gives no view
abbrev pub view_at : Number → Seen → Report → RunStop → Option View
view_at i seen r (Ended ending) =
    Some (record {
      miner = i;
      inputs = input_shares seen.inputs;
      drew = seen.drew;
      got = map received seen.got;
      opened = openings r.events;
      end = record { how = ending; cost = r.cost };
    })
view_at i seen r Short = None

abbrev pub view_with : Number → Seen → Report → Option View
view_with i seen r = view_at i seen r r.stop

-- ---- WHAT A MINER SEES

-- of the gates of the report; where dealing ended the run, nothing
abbrev pub seen_of : Number → List Entry → FourTapes → Delivery → Report → Seen
seen_of i entries t delivery r = if is_dealt entries t then seen_by i entries r.gates t delivery else nothing_seen

abbrev pub view_of : Number → TypedProgramTree → List Entry → FourTapes → (budget : ℕ) → Delivery → Option View
view_of i p entries t budget delivery =
    view_with i (seen_of i entries t delivery (run_on p entries (lengths_of t) budget)) (run_on p entries (lengths_of t) budget)

-- ---- THE SIMULATOR: no private word among its arguments

-- the words that the dealer needs for the inputs
abbrev pub hidden_need : List PublicEntry → ℕ
hidden_need [] = 0
hidden_need (entry ∷ entries) = hidden_draws entry.value + hidden_need entries

abbrev pub can_deal : List PublicEntry → FourTapes → Bool
can_deal part s = nat_le (hidden_need part) (length s.dealer)

-- the words that its gates open are those that the run took of what it was told
abbrev pub made_of : Number → List PublicEntry → FourTapes → Delivery → Report → Seen
made_of i part s delivery r = if can_deal part s then made_for i part r.gates (learned_of r.events) s delivery else nothing_seen

abbrev pub simulated : Number → TypedProgramTree → List PublicEntry → (opened : List ℕ) → FourTapes → (budget : ℕ) → Delivery → Option View
simulated i p part opened s budget delivery =
    view_with i (made_of i part s delivery (told_run p part opened (lengths_of s) budget)) (told_run p part opened (lengths_of s) budget)

-- ---- THE NET

-- the miners' moves by the report's gates
abbrev pub scripts_of : List Entry → FourTapes → Report → Number → List Move
scripts_of entries t r k = gates_script k (gates_dealt entries t.dealer r.gates)

-- what a delivery comes to
abbrev pub net_of : TypedProgramTree → List Entry → FourTapes → (budget : ℕ) → Delivery → Answer
net_of p entries t budget delivery = net (scripts_of entries t (run_on p entries (lengths_of t) budget)) delivery
