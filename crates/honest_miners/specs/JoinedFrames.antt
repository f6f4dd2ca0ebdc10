-- Bytes that begin the frames of what was sent.
use Rattle.std.specs.Prelude.{◌≡◌, ◌≢◌, ◌⊎◌, ℕ, List, ◌++◌}
use Rattle.std.specs.List.{All, flat_map}
use Rattle.proto_core.specs.declared.party.Number.{Number}
use Rattle.proto_core.specs.declared.link.Link.{Link}
use Rattle.proto_core.specs.Parties.{receiver_of, sender_of}
use Rattle.proto_core.specs.Strand.{Begins, Mail, Strand, on_link}
use Rattle.proto_core.specs.Net.{Finishes, MailBegins, posted}
use Rattle.served_bytes.specs.Front.{Truncated, Whole}
use Rattle.served_bytes.specs.Served.{AtEnd, AtMalformed, Coming, Served, Spells, served}
use Rattle.wire.specs.declared.fields.Hello.{Hello}
use Rattle.wire.specs.Frames.{IsFrameable, frame_bytes, framed}
use Rattle.wire.specs.Hellos.{HasDigests, greeted, hello_bytes}

-- the frames of messages, one after another
abbrev pub in_frames : List (List ℕ) → List ℕ
in_frames messages = flat_map frame_bytes messages

abbrev pub CanAllBeFramed : Mail → Type 0
CanAllBeFramed mail = (l : Link) → All IsFrameable (mail l)

-- ---- one hello

-- bytes that begin with this hello, or end within it
pub record GreetsFirst (bytes more : List ℕ) (hello : Hello) : Type 0 where
  pub rest : List ℕ
  pub comes : greeted bytes ≡ Whole hello rest
  pub follows : Begins rest more

abbrev pub HellosComeWhole : (bytes more : List ℕ) → Hello → Type 0
HellosComeWhole bytes more hello =
    HasDigests hello → Begins bytes (hello_bytes hello ++ more) → (greeted bytes ≡ Truncated) ⊎ GreetsFirst bytes more hello

-- ---- one miner

-- what it has read on each link begins these messages, and all that came was frames
pub record ReadsWell (mail : Mail) {A : Type 0} (r : Served A) : Type 0 where
  pub received : MailBegins r.received mail
  pub frames : (l : Link) (place : ℕ) → r.stop ≢ AtMalformed l place

abbrev pub AreFronts : (bytes : Coming) → Mail → Type 0
AreFronts bytes mail = (l : Link) → Begins (bytes l) (in_frames (mail l))

abbrev pub ReadsFrames : {A : Type 0} → Strand A → Coming → Mail → Type 0
ReadsFrames s bytes mail = CanAllBeFramed mail → AreFronts bytes mail → ReadsWell mail (served framed s bytes)

-- ---- three

module _ {A : Type 0} (nodes : Number → Strand A) (full : Mail) (outputs : Number → A) where
  -- with the messages of a run that can be framed
  pub record IsFramedRun : Type 0 where
    pub finishes : Finishes nodes full outputs
    pub framed : CanAllBeFramed full

  -- what came begins the frames of what is sent with the messages that were read of it
  pub record ReadsWhatWasSent (bytes : Link → List ℕ) (mail : Mail) : Type 0 where
    pub came : AreFronts bytes (posted nodes mail)
    pub read : (l : Link) → Spells framed (bytes l) (mail l)

  abbrev pub FramesJoin : (bytes : Link → List ℕ) → Mail → Type 0
  FramesJoin bytes mail = IsFramedRun → ReadsWhatWasSent bytes mail → MailBegins mail (posted nodes mail)

  -- what each does with the bytes of its links
  abbrev pub serves : (came : Number → Coming) → Number → Served A
  serves came i = served framed (nodes i) (came i)

  -- to each has come on its links the frames of all that its peers do with what came to them
  abbrev pub AllCame : (came : Number → Coming) → Type 0
  AllCame came = (l : Link) → came (receiver_of l) l ≡ in_frames (on_link l (serves came (sender_of l)).acts)

  abbrev pub EndsWhereAllCame : (came : Number → Coming) → Type 0
  EndsWhereAllCame came = IsFramedRun → AllCame came → (i : Number) → (serves came i).stop ≡ AtEnd (outputs i)
