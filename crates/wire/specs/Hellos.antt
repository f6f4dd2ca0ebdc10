-- The hello of a miner to a peer: byte 0, version, sender, receiver, the digest of the code, the digest of what is public.
use Rattle.std.specs.Prelude.{◌≡◌, ℕ, ◌==◌, not, nat_lt, if◌then◌else◌, List, ◌∷◌, ◌++◌, length, take, drop, Option, Some, None, Result, Ok, Err, bytes_eq}
use Rattle.std.specs.Prelude.{codes}
use Rattle.proto_core.specs.Lists.{at}
use Rattle.served_bytes.specs.Front.{Front, Whole, Malformed, Truncated}
use Rattle.wire.specs.declared.bad_frame.BadFrame.{BadFrame}
use Rattle.wire.specs.declared.fields.Hello.{Hello}
use Rattle.wire.specs.declared.fields.Field.{Field}
use Rattle.wire.specs.declared.fields.Field.TheVariants.{Version, Sender, Receiver, Code, Public}
use Rattle.wire.specs.Frames.{wrong_at}

unfoldable pub hello_bytes : Hello → List ℕ
hello_bytes h = 0 ∷ h.version ∷ h.sender ∷ h.receiver ∷ h.code ++ h.public

-- a digest has 32 bytes
pub record HasDigests (h : Hello) : Type 0 where
  pub code : length h.code ≡ 32
  pub public : length h.public ≡ 32

-- the hello in 68 bytes, whose first one has to be 0
unfoldable pub hello_of : List ℕ → Result Hello BadFrame
hello_of bytes =
    if at bytes 0 == 0
    then Ok (record {
      version = at bytes 1;
      sender = at bytes 2;
      receiver = at bytes 3;
      code = take 32 (drop 4 bytes);
      public = take 32 (drop 36 bytes);
    })
    else Err (wrong_at 0)

abbrev pub with_rest : Result Hello BadFrame → List ℕ → Front Hello
with_rest (Err bad) rest = Malformed bad.place
with_rest (Ok hello) rest = Whole hello rest

-- what bytes begin with where a hello has to come: it is read whole before it is judged
unfoldable pub greeted : List ℕ → Front Hello
greeted bytes = if nat_lt (length bytes) 68 then Truncated else with_rest (hello_of (take 68 bytes)) (drop 68 bytes)

-- the first field in which two hellos differ
unfoldable pub first_difference : Hello → Hello → Option Field
first_difference a b =
    if not (a.version == b.version) then Some Version
    else if not (a.sender == b.sender) then Some Sender
    else if not (a.receiver == b.receiver) then Some Receiver
    else if not (bytes_eq a.code b.code) then Some Code
    else if not (bytes_eq a.public b.public) then Some Public
    else None

abbrev pub field_text : Field → List ℕ
field_text Version = codes "version"
field_text Sender = codes "sender"
field_text Receiver = codes "receiver"
field_text Code = codes "code"
field_text Public = codes "public"
