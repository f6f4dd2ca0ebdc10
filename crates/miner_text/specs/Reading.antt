-- The reader of a miner's text: its lines, or the number of the first line that is not as it must be.
use Rattle.std.specs.Prelude.{ℕ, ◌+◌, ◌==◌, if◌then◌else◌, List, [], ◌∷◌, length, codes, bytes_eq, Option, Some, None, Result, Ok, Err, option_map}
use Rattle.bit_words.specs.Bits.{words_for}
use Rattle.program_trees.specs.declared.expression.DataType.{DataType}
use Rattle.program_trees.specs.declared.expression.DataType.TheVariants.{Uint64}
use Rattle.program_trees.specs.declared.expression.DataType.TheVariants as datatype
use Rattle.sc_text.specs.declared.end.End.{End}
use Rattle.sc_text.specs.declared.event.Event.{Event}
use Rattle.sc_text.specs.declared.event.Event.TheVariants.{Open, Publish}
use Rattle.view_text.specs.Reading.{◌>>=◌, one_of, all_in, name_in, word_in, element_in, end_in, words_in_line, lines_in}
use Rattle.miner_text.specs.Shares.{ResultShare}
use Rattle.miner_text.specs.Lines.{type_word}
use Rattle.miner_text.specs.declared.line.MinerLine.{MinerLine}
use Rattle.miner_text.specs.declared.line.MinerLine.TheVariants as lines

abbrev pub types : List DataType
types = Uint64 ∷ datatype.Int64 ∷ datatype.Bool ∷ []

abbrev pub type_in : List ℕ → Option DataType
type_in word = one_of type_word types word

-- the public value with this name and these elements
abbrev pub published_in : List (List ℕ) → Option Event
published_in [] = None
published_in (w ∷ ws) = do
  name ← name_in w
  elements ← all_in element_in ws
  Some (Publish name elements)

-- the share that has these numbers in its line: of truth values the first says how many there are, and as many words follow as hold them
abbrev pub share_of : List ℕ → DataType → List ℕ → Option ResultShare
share_of name Uint64 words = Some (record { name = name; element = Uint64; count = length words; words = words })
share_of name datatype.Int64 words = Some (record { name = name; element = datatype.Int64; count = length words; words = words })
share_of name datatype.Bool [] = None
share_of name datatype.Bool (count ∷ words) =
    if length words == words_for count then Some (record { name = name; element = datatype.Bool; count = count; words = words }) else None

-- the share with this name, this type and these numbers
abbrev pub share_in : List (List ℕ) → Option ResultShare
share_in [] = None
share_in (w ∷ []) = None
share_in (w ∷ v ∷ vs) = do
  element ← type_in v
  name ← name_in w
  numbers ← all_in word_in vs
  share_of name element numbers

-- the line of these words
abbrev pub line_in : List (List ℕ) → Option MinerLine
line_in [] = None
line_in (w ∷ ws) =
    if bytes_eq (codes "open") w then option_map (λ es. lines.Told (Open es)) (all_in element_in ws)
    else if bytes_eq (codes "publish") w then option_map lines.Told (published_in ws)
    else if bytes_eq (codes "share") w then option_map lines.Share (share_in ws)
    else if bytes_eq (codes "end") w then option_map lines.Ended (end_in ws)
    else None

-- a line in front of those that are read after it
abbrev pub in_front : MinerLine → Result (List MinerLine) ℕ → Result (List MinerLine) ℕ
in_front line (Ok more) = Ok (line ∷ more)
in_front line (Err k) = Err k

-- after the end nothing may stand
abbrev pub at_the_end : ℕ → End → List (List ℕ) → Result (List MinerLine) ℕ
at_the_end k end ([] ∷ []) = Ok (lines.Ended end ∷ [])
at_the_end k end _ = Err (k + 1)

-- line k, then what stands after it and what is read of that
abbrev pub at_line : ℕ → Option MinerLine → List (List ℕ) → Result (List MinerLine) ℕ → Result (List MinerLine) ℕ
at_line k None behind more = Err k
at_line k (Some (lines.Told event)) behind more = in_front (lines.Told event) more
at_line k (Some (lines.Share share)) behind more = in_front (lines.Share share) more
at_line k (Some (lines.Ended end)) behind more = at_the_end k end behind

-- the lines from number k on; the last part is what stands after the last newline
abbrev pub lines_from : ℕ → List (List ℕ) → Result (List MinerLine) ℕ
lines_from k [] = Err k
lines_from k (l ∷ []) = Err k
lines_from k (l ∷ m ∷ ms) = at_line k (line_in (words_in_line l)) (m ∷ ms) (lines_from (k + 1) (m ∷ ms))

unfoldable pub read_of : List ℕ → Result (List MinerLine) ℕ
read_of bytes = lines_from 1 (lines_in bytes)
