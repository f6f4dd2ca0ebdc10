-- What is promised of a miner that reads the bytes of its links.
use Rattle.std.specs.Prelude.{◌≡◌, ℕ, List}
use Rattle.proto_core.specs.declared.link.Link.{Link}
use Rattle.proto_core.specs.Net.{nothing}
use Rattle.proto_core.specs.Strand.{Mail, Strand, Ends, run}
use Rattle.proto_core.specs.Standing.{Awaits, Refuses, standing_of}
use Rattle.served_bytes.specs.Front.{Framed}
use Rattle.served_bytes.specs.Served.{Coming, Stop, AtEnd, AtRefusal, AtMalformed, OutOfBytes, Served, served, acted_first, Spells}

-- the stop says where the miner stands with the messages that it has read
abbrev pub StopIs : {A : Type 0} → Strand A → Served A → Stop A → Type 0
StopIs s r (AtEnd a) = (run s r.received).left ≡ Ends a
StopIs s r (AtRefusal l cause) = standing_of (run s r.received) ≡ Refuses l cause
StopIs s r (AtMalformed l place) = standing_of (run s r.received) ≡ Awaits l
StopIs s r (OutOfBytes l) = standing_of (run s r.received) ≡ Awaits l

-- what is done with bytes is what is done with the messages that are read of them
pub record IsNodeOf {A : Type 0} (s : Strand A) (r : Served A) : Type 0 where
  pub acts : (run s r.received).acts ≡ r.acts
  pub stop : StopIs s r r.stop

-- and these messages are what the bytes of each link begin with
pub record ServesItsMessages (framed : List ℕ → Framed) {A : Type 0} (s : Strand A) (bytes : Coming) : Type 0 where
  pub node : IsNodeOf s (served framed s bytes)
  pub spelled : (l : Link) → Spells framed (bytes l) ((served framed s bytes).received l)

-- where a run ends with messages, it ends alike with bytes that begin with them
abbrev pub EndsOnHonestBytes : {A : Type 0} → (List ℕ → Framed) → Strand A → Mail → Coming → Type 0
EndsOnHonestBytes {A} framed s mail bytes =
    (a : A) → (run s mail).left ≡ Ends a → ((l : Link) → Spells framed (bytes l) (mail l))
    → ((served framed s bytes).acts ≡ (run s mail).acts) × ((served framed s bytes).stop ≡ AtEnd a)

-- as far as it comes before it waits, nothing is read
abbrev pub GoesToItsWait : {A : Type 0} → (List ℕ → Framed) → Strand A → Coming → Type 0
GoesToItsWait framed s bytes = served framed s bytes ≡ acted_first (run s nothing).acts (served framed (run s nothing).left bytes)
