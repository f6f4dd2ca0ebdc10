-- The file of what is handed over: a line for each publication, the word `publish`, the name and then the elements, each line with its newline.
use Rattle.std.specs.Prelude.{ℕ, if◌then◌else◌, List, [], ◌∷◌, map, codes, bytes_eq, Option, None, Result}
use Rattle.std.specs.Prelude.{option_map, option_and_then}
use Rattle.std.specs.List.{flat_map}
use Rattle.std.specs.Result.{result_map_both}
use Rattle.sc_text.specs.declared.elements.Element.{Element}
use Rattle.sc_text.specs.declared.event.Event.TheVariants.{Publish}
use Rattle.sc_text.specs.Elements.{element_word}
use Rattle.sc_text.specs.Event.{event_line}
use Rattle.view_text.specs.Reading.{all_in, element_in, name_in, lines_in}
use Rattle.view_reader.specs.Opened.{read_from}

pub record Publication : Type 0 where
  pub name : List ℕ
  pub elements : List Element

-- ---- THE TEXT

-- a line of the run's text, which for what is handed over is that of a publication
abbrev pub publication_line : Publication → List ℕ
publication_line p = event_line (Publish p.name p.elements)

abbrev pub published_bytes : List Publication → List ℕ
published_bytes publications = flat_map publication_line publications

-- ---- WHAT IS READ OF A FILE

abbrev pub named : List (List ℕ) → (name : List ℕ) → Option Publication
named ws name = option_map (λ elements. record { name = name; elements = elements }) (all_in element_in ws)

abbrev pub named_in : List (List ℕ) → Option Publication
named_in [] = None
named_in (w ∷ ws) = option_and_then (named ws) (name_in w)

-- the publication whose line has these words
abbrev pub publication_in : List (List ℕ) → Option Publication
publication_in [] = None
publication_in (w ∷ ws) = if bytes_eq (codes "publish") w then named_in ws else None

-- the publications of a text, or the number of its first wrong line
unfoldable pub publications_of : List ℕ → Result (List Publication) ℕ
publications_of bytes = read_from publication_in 1 (lines_in bytes)

-- their words, one after another
abbrev pub words_published : Publication → List ℕ
words_published p = map element_word p.elements

abbrev pub published_words : List Publication → List ℕ
published_words publications = flat_map words_published publications

abbrev pub published_in : List ℕ → Result (List ℕ) ℕ
published_in bytes = result_map_both published_words (λ line. line) (publications_of bytes)
