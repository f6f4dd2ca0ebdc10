-- A miner that reads the bytes of its links: what it does with them, where it stops, and which messages it has read.
use Rattle.std.specs.Prelude.{◌≡◌, ℕ, if◌then◌else◌, List, [], ◌∷◌, Option, Some, None}
use Rattle.proto_core.specs.declared.link.Link.{Link}
use Rattle.proto_core.specs.declared.refused.BadMessage.{BadMessage}
use Rattle.proto_core.specs.Strand.{Shape, Act, Mail, Strand, Ends, Acts, Waits, same_link}
use Rattle.proto_core.specs.Net.{nothing}
use Rattle.proto_core.specs.Standing.{fault_of}
use Rattle.served_bytes.specs.Front.{Framed, Whole, Malformed, Truncated}

-- the bytes that are still to come on each link
abbrev pub Coming : Type 0
Coming = Link → List ℕ

-- why a miner stops: its run has ended; it refuses a message; what comes is no frame; or the bytes end before a frame does
pub data Stop (A : Type 0) : Type 0 where
  AtEnd : A → Stop A
  AtRefusal : (link : Link) (cause : BadMessage) → Stop A
  AtMalformed : (link : Link) (place : ℕ) → Stop A
  OutOfBytes : (link : Link) → Stop A

pub record Served (A : Type 0) : Type 0 where
  pub acts : List Act
  pub stop : Stop A
  -- the messages that it has read on each link, also the one that it refuses
  pub received : Mail

abbrev pub stopped : {A : Type 0} → Stop A → Served A
stopped stop = record { acts = []; stop = stop; received = nothing }

-- after these acts
abbrev pub acted_first : {A : Type 0} → List Act → Served A → Served A
acted_first [] s = s
acted_first (a ∷ acts) s = record (acted_first acts s) { acts = a ∷ (acted_first acts s).acts }

-- a message of this link before the others
abbrev pub with_first : Link → List ℕ → Mail → Mail
with_first l m mail k = if same_link l k then m ∷ mail k else mail k

abbrev pub received_first : {A : Type 0} → Link → List ℕ → Served A → Served A
received_first l m s = record s { received = with_first l m s.received }

-- these bytes are still to come on this link
abbrev pub with_rest : Link → List ℕ → Coming → Coming
with_rest l rest bytes k = if same_link l k then rest else bytes k

abbrev pub refused_or : {A : Type 0} → Link → Option BadMessage → Served A → Served A
refused_or l None goes = goes
refused_or l (Some cause) goes = stopped (AtRefusal l cause)

abbrev pub at_frame : {A : Type 0} → Link → Shape → Framed → (List ℕ → List ℕ → Served A) → Served A
at_frame l shape (Whole m rest) goes = received_first l m (refused_or l (fault_of shape m) (goes m rest))
at_frame l shape (Malformed place) goes = stopped (AtMalformed l place)
at_frame l shape Truncated goes = stopped (OutOfBytes l)

-- bytes are read from that link alone for which it waits
module _ (framed : List ℕ → Framed) {A : Type 0} where
  abbrev pub served : Strand A → Coming → Served A
  served (Ends a) bytes = stopped (AtEnd a)
  served (Acts a s) bytes = acted_first (a ∷ []) (served s bytes)
  served (Waits l shape k) bytes = at_frame l shape (framed (bytes l)) (λ m rest. served (k m) (with_rest l rest bytes))

-- the bytes begin with these messages, one after another
abbrev pub Spells : (List ℕ → Framed) → List ℕ → List (List ℕ) → Type 0
Spells framed bytes [] = Unit {0}
Spells framed bytes (m ∷ ms) = (rest : List ℕ) × (framed bytes ≡ Whole m rest) × Spells framed rest ms
