-- The messages that come to a miner, in the order in which they come.
use Rattle.std.specs.Prelude.{ℕ, if◌then◌else◌, List, [], ◌∷◌, length, drop}
use Rattle.proto_core.specs.declared.party.Number.{Number}
use Rattle.proto_core.specs.declared.link.Link.{Link}
use Rattle.proto_core.specs.Parties.{receiver_of, is_same}
use Rattle.proto_core.specs.Strand.{Mail, Strand, taken}
use Rattle.proto_core.specs.Net.{under_way, delivered}

-- a message, and the link on which it came
pub record Arrival : Type 0 where
  pub link : Link
  pub message : List ℕ

-- the oldest of these messages, if there is one, and then more
abbrev pub oldest_then : Link → List (List ℕ) → List Arrival → List Arrival
oldest_then l [] more = more
oldest_then l (m ∷ ms) more = record { link = l; message = m } ∷ more

-- by the messages that are still to come on each link: each entry brings the oldest of its link
abbrev pub arrivals : Number → Mail → List Link → List Arrival
arrivals i mail [] = []
arrivals i mail (l ∷ ls) =
    if is_same (receiver_of l) i then oldest_then l (mail l) (arrivals i (taken l mail) ls) else arrivals i (taken l mail) ls

-- of the full run's messages those that were not delivered yet
abbrev pub to_come : (full mail : Mail) → Mail
to_come full mail l = drop (length (mail l)) (full l)

-- in a net in which this mail was delivered: each entry brings what is under way on its link
abbrev pub arrived : {A : Type 0} → (Number → Strand A) → Number → Mail → List Link → List Arrival
arrived nodes i mail [] = []
arrived nodes i mail (l ∷ ls) =
    if is_same (receiver_of l) i
    then oldest_then l (under_way nodes mail l) (arrived nodes i (delivered nodes mail l) ls)
    else arrived nodes i (delivered nodes mail l) ls
