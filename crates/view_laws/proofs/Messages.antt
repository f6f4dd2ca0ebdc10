-- Messages of words, in whatever order they come.
use Rattle.std.proofs.Common.{ℕ, List, [], ◌∷◌, Bool, true, false, if◌then◌else◌, All, map}
use Rattle.std.proofs.lemmas.List.Elements.{All-head, All-tail}
use Rattle.proto_core.specs.declared.party.Number.{Number}
use Rattle.proto_core.specs.declared.link.Link.{Link}
use Rattle.proto_core.specs.Lists.{AreWords}
use Rattle.proto_core.specs.Parties.{receiver_of, is_same}
use Rattle.proto_core.specs.Strand.{Mail, same_link, rest_of, taken}
use Rattle.protocol_model.specs.Arrivals.{Arrival, oldest_then, arrivals}
use Rattle.wire.specs.Frames.{IsFrameable}
use Rattle.framed_runs.specs.Framing.{CanBeFramed}
use Rattle.view_text.specs.View.{AreReceived}
use Rattle.program_views.specs.Views.{received}
use Rattle.view_laws.proofs.Shares.{are_words}

abbrev AreAll : List (List ℕ) → Type 0
AreAll [] = Unit {0}
AreAll (m ∷ ms) = AreWords m × AreAll ms

all_of : (ms : List (List ℕ)) → All IsFrameable ms → AreAll ms
all_of [] h = tt
all_of (m ∷ ms) h = ((All-head IsFrameable m ms h).words, all_of ms (All-tail IsFrameable m ms h))

rest_all : (ms : List (List ℕ)) → AreAll ms → AreAll (rest_of ms)
rest_all [] h = tt
rest_all (m ∷ ms) h = h.1

taken_all : (l : Link) (mail : Mail) → ((k : Link) → AreAll (mail k)) → (k : Link) → AreAll (taken l mail k)
taken_all l mail h k = go (same_link l k)
  where
    go : (b : Bool) → AreAll (if b then rest_of (mail k) else mail k)
    go true = rest_all (mail k) (h k)
    go false = h k

oldest_all : (l : Link) (ms : List (List ℕ)) (more : List Arrival) → AreAll ms → AreReceived (map received more)
    → AreReceived (map received (oldest_then l ms more))
oldest_all l [] more h g = g
oldest_all l (m ∷ ms) more h g = (are_words m h.0, g)

come_all : (i : Number) (mail : Mail) (order : List Link) → ((k : Link) → AreAll (mail k)) → AreReceived (map received (arrivals i mail order))
come_all i mail [] h = tt
come_all i mail (l ∷ ls) h = go (is_same (receiver_of l) i) (come_all i (taken l mail) ls (taken_all l mail h))
  where
    go : (b : Bool) → AreReceived (map received (arrivals i (taken l mail) ls))
        → AreReceived (map received (if b then oldest_then l (mail l) (arrivals i (taken l mail) ls) else arrivals i (taken l mail) ls))
    go true rest = oldest_all l (mail l) (arrivals i (taken l mail) ls) (h l) rest
    go false rest = rest

pub are_received : (i : Number) (mail : Mail) (order : List Link) → CanBeFramed mail → AreReceived (map received (arrivals i mail order))
are_received i mail order framed = come_all i mail order (λ k. all_of (mail k) (framed k))
