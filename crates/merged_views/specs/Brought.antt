-- The messages that came to three miners, as their views have them, and the messages of one run.
use Rattle.std.specs.Prelude.{◌≡◌, ℕ, List, map, None}
use Rattle.proto_core.specs.declared.party.Number.{Number}
use Rattle.proto_core.specs.declared.link.Link.{Link}
use Rattle.proto_core.specs.Net.{Finishes, into}
use Rattle.proto_core.specs.Parties.{from_previous, from_next}
use Rattle.proto_core.specs.Script.{Move}
use Rattle.proto_core.specs.Strand.{Mail, Strand}
use Rattle.protocol_model.specs.Along.{MovesAlong}
use Rattle.protocol_model.specs.Arrivals.{Arrival, arrivals}
use Rattle.protocol_model.specs.Network.{Accepted, counted, none_delivered}
use Rattle.view_text.specs.View.{Received}
use Rattle.audit_steps.specs.Messages.{wrong_at}
use Rattle.merged_orders.specs.Merging.{Orders}

-- ---- A RUN: three miners, what each sends and takes, in order, the messages of each link, and what the miners end with

pub record Run : Type 0 where
  pub nodes : Number → Strand (List (List ℕ))
  pub scripts : Number → List Move
  pub full : Mail
  pub outputs : Number → List (List ℕ)

pub record IsRunOf (run : Run) : Type 0 where
  pub finishes : Finishes run.nodes run.full run.outputs
  pub moves : (i : Number) → MovesAlong (run.nodes i) (run.scripts i) (into i run.full)

-- ---- VIEWS

-- what came to each miner, in order
abbrev pub Got : Type 0
Got = Number → List Received

abbrev pub links_of : List Received → List Link
links_of got = map (λ r. r.link) got

abbrev pub orders_of : Got → Orders
orders_of got i = links_of (got i)

-- each message is the next of its link, and none is missing
abbrev pub AreNext : Mail → Got → Type 0
AreNext full got = (i : Number) → wrong_at i (full (from_previous i)) (full (from_next i)) (got i) ≡ None

-- an arrival as a view has it
abbrev pub received : Arrival → Received
received a = record { link = a.link; message = a.message }

-- the schedule is accepted, and brings each miner these messages
pub record AreBrought (run : Run) (got : Got) (ls : List Link) : Type 0 where
  pub accepted : counted run.scripts 0 none_delivered ls ≡ Accepted
  pub brings : (i : Number) → map received (arrivals i run.full ls) ≡ got i
