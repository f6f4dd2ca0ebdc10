-- The frame of a message: byte 1, the count of its words in 4 bytes, then the words in 8 bytes each. Numbers have their lowest byte first.
use Rattle.std.specs.Prelude.{ℕ, ◌*◌, ◌<◌, ◌≤◌, ◌==◌, ◌&&◌, nat_lt, if◌then◌else◌, List, ◌∷◌, ◌++◌, length, take, drop, Result, Ok, Err, slice_index}
use Rattle.byteorder.specs.Endian.{little_bytes, little_number}
use Rattle.proto_core.specs.Lists.{AreWords, at}
use Rattle.served_bytes.specs.Front.{Framed, Whole, Malformed, Truncated}
use Rattle.tape_file.specs.Format.{bytes_of, words_at}
use Rattle.wire.specs.declared.bad_frame.BadFrame.{BadFrame}

-- a frame has 1 to 2,048 words
pub record IsCount (count : ℕ) : Type 0 where
  pub some : 0 < count
  pub few : count ≤ 2048

-- a message that a frame carries
pub record IsFrameable (m : List ℕ) : Type 0 where
  pub count : IsCount (length m)
  pub words : AreWords m

abbrev pub AreBytes : List ℕ → Type 0
AreBytes bytes = (k : ℕ) → slice_index bytes k < 256

unfoldable pub frame_bytes : List ℕ → List ℕ
frame_bytes m = 1 ∷ little_bytes 4 (length m) ++ bytes_of m

abbrev pub wrong_at : ℕ → BadFrame
wrong_at place = record { place = place }

-- a count of words, which has to be from 1 to 2,048
abbrev pub counted : ℕ → Result ℕ BadFrame
counted count = if nat_lt 0 count && nat_lt count 2049 then Ok count else Err (wrong_at 1)

-- the count of words that the first five bytes of a frame tell
unfoldable pub header_of : List ℕ → Result ℕ BadFrame
header_of bytes = if at bytes 0 == 1 then counted (little_number 4 (drop 1 bytes)) else Err (wrong_at 0)

-- after a header: the words, and the bytes after them
abbrev pub with_words : Result ℕ BadFrame → List ℕ → Framed
with_words (Err bad) bytes = Malformed bad.place
with_words (Ok count) bytes = if nat_lt (length bytes) (8 * count) then Truncated else Whole (words_at 0 count bytes) (drop (8 * count) bytes)

-- what bytes begin with: the five bytes of the header are there before they are judged, and the words after that
unfoldable pub framed : List ℕ → Framed
framed bytes = if nat_lt (length bytes) 5 then Truncated else with_words (header_of (take 5 bytes)) (drop 5 bytes)
