-- Where a miner stands, and why it refuses a message.
use Rattle.std.specs.Prelude.{ℕ, ◌+◌, ◌*◌, ◌==◌, if◌then◌else◌, List, [], ◌∷◌, length, take, drop, Option, Some, None}
use Rattle.std.specs.Option.{option_or, option_map_or}
use Rattle.proto_core.specs.declared.link.Link.{Link}
use Rattle.proto_core.specs.declared.refused.BadMessage.{BadMessage}
use Rattle.proto_core.specs.declared.refused.BadMessage.TheVariants.{BadLength, NotABit}
use Rattle.proto_core.specs.Strand.{Field, Words, Bits, Shape, is_bit, Mail, Strand, Ends, Acts, Waits, Ran}

-- ---- why a message isn't of a shape

-- the first of these words that is no bit; the first word has this place
abbrev pub first_no_bit : (place : ℕ) → List ℕ → Option BadMessage
first_no_bit place [] = None
first_no_bit place (x ∷ xs) = if is_bit x then first_no_bit (place + 1) xs else Some (NotABit place x)

-- the first word that has to be a bit and is none, in fields of n elements; the first field begins at this place
abbrev pub bad_bit : (n place : ℕ) → List Field → List ℕ → Option BadMessage
bad_bit n place [] m = None
bad_bit n place (Words ∷ fields) m = bad_bit n (place + n) fields (drop n m)
bad_bit n place (Bits ∷ fields) m = option_or (first_no_bit place (take n m)) (bad_bit n (place + n) fields (drop n m))

-- a wrong length, with both lengths, comes before a wrong bit, with its place and the word there
abbrev pub fault_of : Shape → List ℕ → Option BadMessage
fault_of s m =
    if length m == length s.fields * s.count
    then bad_bit s.count 0 s.fields m
    else Some (BadLength (length s.fields * s.count) (length m))

-- ---- where a miner stands

pub data Standing : Type 0 where
  AtItsEnd : Standing
  Awaits : (link : Link) → Standing
  Refuses : (link : Link) (cause : BadMessage) → Standing

-- by the messages of the link that it waits for
abbrev pub before_mail : Link → Shape → List (List ℕ) → Standing
before_mail l shape [] = Awaits l
before_mail l shape (m ∷ ms) = option_map_or (Refuses l) (fault_of shape m) (Awaits l)

abbrev pub standing_with : {A : Type 0} → Strand A → (unread : Mail) → Standing
standing_with (Ends a) unread = AtItsEnd
standing_with (Acts a s) unread = standing_with s unread
standing_with (Waits l shape k) unread = before_mail l shape (unread l)

-- a refused message stays unread, so it is refused again whatever comes after it
abbrev pub standing_of : {A : Type 0} → Ran A → Standing
standing_of r = standing_with r.left r.unread
