-- What the simulator has a miner see, by the links on which messages are delivered; and what it is made of.
use Rattle.std.specs.Prelude.{ℕ, ◌<◌, ◌≤◌, ◌^◌, if◌then◌else◌, List, [], length, take, All}
use Rattle.proto_core.specs.declared.party.Number.{Number}
use Rattle.proto_core.specs.declared.link.Link.{Link}
use Rattle.protocol_model.specs.Gates.{needed}
use Rattle.protocol_model.specs.Views.{made_messages}
use Rattle.protocol_model.specs.Arrivals.{arrivals}
use Rattle.gates.specs.declared.gate.Gate.{Gate}
use Rattle.shared_gates.specs.Model.{AllSizesSuit}
use Rattle.value_file.specs.declared.public.PublicValue.{PublicValue}
use Rattle.value_file.specs.declared.public.PublicValue.TheVariants.{Known, Hidden}
use Rattle.value_file.specs.declared.public.PublicEntry.{PublicEntry}
use Rattle.input_share.specs.Values.{elements_of}
use Rattle.tape_file.specs.Tapes.{FourTapes}
use Rattle.view_model.specs.Dealing.{hidden_sizes, made_entries}
use Rattle.view_model.specs.TapeMaps.{miners_of}
use Rattle.view_model.specs.Seen.{Seen, gates_made}
use Rattle.program_views.specs.Views.{can_deal, nothing_seen}
use Rattle.view_simulator.specs.declared.made.Made.{Made}

-- ---- WORDS

-- what is known of an input is of words
abbrev pub HasKnownWords : PublicValue → Type 0
HasKnownWords (Known value) = All (λ n. n < 2 ^ 64) (elements_of value)
HasKnownWords (Hidden kind shape) = Unit {0}

abbrev pub IsOfWords : PublicEntry → Type 0
IsOfWords entry = HasKnownWords entry.value

-- ---- GATES

-- each gate suits the inputs and the values before it, in sizes, and the tapes reach for all of them, for whichever miner they are made
pub record CanBeMade (part : List PublicEntry) (gates : List Gate) (s : FourTapes) : Type 0 where
  pub suit : AllSizesSuit (hidden_sizes part) [] gates
  pub reach : (i k : Number) → needed (gates_made i part s.dealer gates) k ≤ length (miners_of s k)

-- ---- WHAT IS SEEN

-- where the dealer's tape suffices: with the messages on these links
abbrev pub made_in_order : Number → List PublicEntry → List Gate → (opened : List ℕ) → FourTapes → List Link → Seen
made_in_order i part gates opened s order =
    record {
      inputs = made_entries i part s.dealer;
      drew = take (needed (gates_made i part s.dealer gates) i) (miners_of s i);
      got = arrivals i (made_messages i (gates_made i part s.dealer gates) [] opened (miners_of s)) order;
    }

abbrev pub seen_in_order : Number → List PublicEntry → List Gate → (opened : List ℕ) → FourTapes → List Link → Seen
seen_in_order i part gates opened s order = if can_deal part s then made_in_order i part gates opened s order else nothing_seen

abbrev pub seen_of : Made → Seen
seen_of m = record { inputs = m.inputs.items; drew = m.drew.items; got = m.got.items }
