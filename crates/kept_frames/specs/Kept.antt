-- A miner to which the messages of a journal come first: as frames before the bytes of its links.
use Rattle.std.specs.Prelude.{◌≡◌, List, [], ◌∷◌, ◌++◌, ℕ, if◌then◌else◌}
use Rattle.proto_core.specs.declared.link.Link.{Link}
use Rattle.proto_core.specs.Net.{added, nothing}
use Rattle.proto_core.specs.Strand.{Begins, Mail, Strand, on_link, run, same_link}
use Rattle.proto_core.specs.Standing.{Standing, AtItsEnd, Awaits, Refuses, standing_of}
use Rattle.served_bytes.specs.Served.{Coming}
use Rattle.served_bytes.specs.Reading.{HasRead, only}
use Rattle.wire.specs.Frames.{IsFrameable, frame_bytes, framed}

-- a message that came on a link, as a journal keeps it
pub record Kept : Type 0 where
  pub link : Link
  pub words : List ℕ

-- each is one that a frame can carry
abbrev pub AllGood : List Kept → Type 0
AllGood [] = Unit {0}
AllGood (k ∷ ks) = IsFrameable k.words × AllGood ks

-- these messages more, in order
abbrev pub with_kept : Mail → List Kept → Mail
with_kept mail [] = mail
with_kept mail (k ∷ ks) = with_kept (added mail (only k.link k.words)) ks

-- on each link the frames of its messages, and then these bytes
abbrev pub frames_first : List Kept → Coming → Coming
frames_first [] rest l = rest l
frames_first (k ∷ ks) rest l = if same_link k.link l then frame_bytes k.words ++ frames_first ks rest l else frames_first ks rest l

-- no message is refused
abbrev pub IsTaken : Standing → Type 0
IsTaken AtItsEnd = Unit {0}
IsTaken (Awaits l) = Unit {0}
IsTaken (Refuses l cause) = ⊥

-- each message comes on the link for which the miner waits, and is taken
abbrev pub Replays : {A : Type 0} → Strand A → Mail → List Kept → Type 0
Replays s mail [] = Unit {0}
Replays s mail (k ∷ ks) =
    (standing_of (run s mail) ≡ Awaits k.link) × IsTaken (standing_of (run s (added mail (only k.link k.words))))
    × Replays s (added mail (only k.link k.words)) ks

-- where a journal's messages are replayed, the miner has read their frames, and these bytes are still to come
abbrev pub ReadsKeptFrames : {A : Type 0} → Strand A → List Kept → Coming → Type 0
ReadsKeptFrames s ks rest = AllGood ks → Replays s nothing ks → HasRead framed s (frames_first ks rest) (with_kept nothing ks) rest

-- what it sends on each link by a journal begins what it sends by one that goes on from there
abbrev pub SendsTheSame : {A : Type 0} → Strand A → (ks more : List Kept) → Type 0
SendsTheSame s ks more =
    (l : Link) → Begins (on_link l (run s (with_kept nothing ks)).acts) (on_link l (run s (with_kept nothing (ks ++ more))).acts)
