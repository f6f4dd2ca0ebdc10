-- The form of a tape file: the lengths of the four tapes, then their words. Lengths and words have 8 bytes each, the lowest first.
use Rattle.std.specs.Prelude.{◌≡◌, ◌≤◌, ℕ, zero, suc, ◌+◌, ◌*◌, ◌%◌, ◌^◌, ◌==◌, nat_lt, min, List, [], ◌∷◌, ◌++◌, length, drop, Option, Some, None}
use Rattle.std.specs.Prelude.{Result, Ok, Err, if◌then◌else◌}
use Rattle.std.specs.List.{flat_map}
use Rattle.byteorder.specs.Endian.{little_bytes, little_number}
use Rattle.tape_file.specs.Tapes.{FourTapes}

-- the 8 bytes of a word
unfoldable pub word_bytes : ℕ → List ℕ
word_bytes word = little_bytes 8 word

-- the bytes of words that stand one after the other
abbrev pub bytes_of : List ℕ → List ℕ
bytes_of words = flat_map word_bytes words

-- a file of all four tapes
unfoldable pub tape_bytes : FourTapes → List ℕ
tape_bytes tapes =
    bytes_of (length tapes.dealer ∷ length tapes.one ∷ length tapes.two ∷ length tapes.three ∷ [])
    ++ bytes_of tapes.dealer ++ bytes_of tapes.one ++ bytes_of tapes.two ++ bytes_of tapes.three

-- a file of one party's own tape
unfoldable pub own_bytes : List ℕ → List ℕ
own_bytes tape = bytes_of (length tape ∷ tape)

-- the word in the 8 bytes from this place on: it has 64 bits
unfoldable pub word_at : ℕ → List ℕ → ℕ
word_at place bytes = little_number 8 (drop place bytes) % 2 ^ 64

-- so many words, one after the other from this place on
unfoldable pub words_at : ℕ → ℕ → List ℕ → List ℕ
words_at place zero bytes = []
words_at place (suc count) bytes = word_at place bytes ∷ words_at (place + 8) count bytes

-- the tapes of these lengths, which stand after the lengths
unfoldable pub tapes_at : ℕ → ℕ → ℕ → ℕ → List ℕ → FourTapes
tapes_at dealer one two three bytes = record {
  dealer = words_at 32 dealer bytes;
  one = words_at (32 + 8 * dealer) one bytes;
  two = words_at (32 + 8 * (dealer + one)) two bytes;
  three = words_at (32 + 8 * (dealer + one + two)) three bytes;
}

-- a file whose size isn't the one that its lengths ask for is at fault where the lesser of the two sizes ends
abbrev pub size_fault : ℕ → ℕ → Option ℕ
size_fault wanted size = if size == wanted then None else Some (min wanted size)

-- the place of the first fault in the four lengths and in the file's size, if there is one
unfoldable pub lengths_fault : ℕ → ℕ → ℕ → ℕ → ℕ → Option ℕ
lengths_fault dealer one two three size =
    if nat_lt 16777216 dealer then Some 0
    else if nat_lt 16777216 one then Some 8
    else if nat_lt 16777216 two then Some 16
    else if nat_lt 16777216 three then Some 24
    else size_fault (32 + 8 * (dealer + one + two + three)) size

-- the place of the first fault in a file of four tapes, if there is one
unfoldable pub fault_of : List ℕ → Option ℕ
fault_of bytes =
    if nat_lt (length bytes) 32 then Some (length bytes)
    else lengths_fault (word_at 0 bytes) (word_at 8 bytes) (word_at 16 bytes) (word_at 24 bytes) (length bytes)

-- each length is within the limit, and the file has the size that the lengths ask for
pub record IsSized (dealer one two three size : ℕ) : Type 0 where
  pub short_dealer : dealer ≤ 16777216
  pub short_one : one ≤ 16777216
  pub short_two : two ≤ 16777216
  pub short_three : three ≤ 16777216
  pub exact : size ≡ 32 + 8 * (dealer + one + two + three)

-- a file that has its four lengths and is sized by them
pub record IsSound (bytes : List ℕ) : Type 0 where
  pub head : 32 ≤ length bytes
  pub sized : IsSized (word_at 0 bytes) (word_at 8 bytes) (word_at 16 bytes) (word_at 24 bytes) (length bytes)

-- an answer if there is no fault, else the fault's place
abbrev pub answer_unless : {X : Type 0} → Option ℕ → X → Result X ℕ
answer_unless None answer = Ok answer
answer_unless (Some place) answer = Err place

-- what a file of four tapes is read as
unfoldable pub read_of : List ℕ → Result FourTapes ℕ
read_of bytes =
    answer_unless (fault_of bytes) (tapes_at (word_at 0 bytes) (word_at 8 bytes) (word_at 16 bytes) (word_at 24 bytes) bytes)

-- the place of the first fault in the length of an own tape, which is to be `wanted`, and in the file's size, if there is one
unfoldable pub own_length_fault : ℕ → ℕ → ℕ → Option ℕ
own_length_fault wanted len size =
    if nat_lt 16777216 len then Some 0
    else if len == wanted then size_fault (8 + 8 * len) size
    else Some 0

-- the place of the first fault in an own tape file whose tape is to have `wanted` words, if there is one
unfoldable pub own_fault_of : ℕ → List ℕ → Option ℕ
own_fault_of wanted bytes =
    if nat_lt (length bytes) 8 then Some (length bytes) else own_length_fault wanted (word_at 0 bytes) (length bytes)

-- an own tape file whose length word is `wanted`, within the limit, and that is sized by it
pub record IsOwnSound (wanted : ℕ) (bytes : List ℕ) : Type 0 where
  pub head : 8 ≤ length bytes
  pub len : word_at 0 bytes ≡ wanted
  pub short : wanted ≤ 16777216
  pub size : length bytes ≡ 8 + 8 * wanted

-- what an own tape file is read as, where the tape is to have `wanted` words
unfoldable pub read_own_of : ℕ → List ℕ → Result (List ℕ) ℕ
read_own_of wanted bytes = answer_unless (own_fault_of wanted bytes) (words_at 8 (word_at 0 bytes) bytes)
