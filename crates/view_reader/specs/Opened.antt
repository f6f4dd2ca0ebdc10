-- The file of opened values: a line for each opening, the word `open` and then the elements, each line with its newline.
use Rattle.std.specs.Prelude.{ℕ, ◌+◌, if◌then◌else◌, List, [], ◌∷◌, map, codes, bytes_eq, Option, Some, None, Result, Ok, Err}
use Rattle.std.specs.List.{flat_map}
use Rattle.std.specs.Result.{result_map_both}
use Rattle.sc_text.specs.declared.elements.Element.{Element}
use Rattle.sc_text.specs.Elements.{element_word}
use Rattle.view_text.specs.Text.{Opened, lines_bytes}
use Rattle.view_text.specs.Reading.{all_in, element_in, words_in_line, lines_in}

-- the text of openings
abbrev pub opened_bytes : List (List Element) → List ℕ
opened_bytes openings = lines_bytes (map Opened openings)

-- the words of openings, in order
abbrev pub opened_words : List (List Element) → List ℕ
opened_words openings = flat_map (map element_word) openings

-- the opening whose line has these words
abbrev pub opening_in : List (List ℕ) → Option (List Element)
opening_in [] = None
opening_in (w ∷ ws) = if bytes_eq (codes "open") w then all_in element_in ws else None

-- a line in front of what is read of the lines after it, or its number where it is wrong
abbrev pub in_front : {A : Type 0} → ℕ → Option A → Result (List A) ℕ → Result (List A) ℕ
in_front k None more = Err k
in_front k (Some one) (Ok ones) = Ok (one ∷ ones)
in_front k (Some one) (Err line) = Err line

-- after the last newline nothing may stand
abbrev pub at_the_end : {A : Type 0} → ℕ → List ℕ → Result (List A) ℕ
at_the_end k [] = Ok []
at_the_end k (x ∷ xs) = Err k

-- what the lines from number k on are read as, each by its words
abbrev pub read_from : {A : Type 0} → (one : List (List ℕ) → Option A) → ℕ → List (List ℕ) → Result (List A) ℕ
read_from one k [] = Err k
read_from one k (l ∷ []) = at_the_end k l
read_from one k (l ∷ m ∷ ms) = in_front k (one (words_in_line l)) (read_from one (k + 1) (m ∷ ms))

-- the openings of the lines from number k on
abbrev pub openings_from : ℕ → List (List ℕ) → Result (List (List Element)) ℕ
openings_from k lines = read_from opening_in k lines

-- the openings of a text, or the number of its first wrong line
unfoldable pub openings_of : List ℕ → Result (List (List Element)) ℕ
openings_of bytes = openings_from 1 (lines_in bytes)

-- their words
abbrev pub opened_of : List ℕ → Result (List ℕ) ℕ
opened_of bytes = result_map_both opened_words (λ line. line) (openings_of bytes)
