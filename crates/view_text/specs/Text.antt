-- The text of a view: its lines, each of words with a space between them, and a newline after each line.
use Rattle.std.specs.Prelude.{ℕ, List, [], ◌∷◌, ◌++◌, map, codes}
use Rattle.std.specs.List.{flat_map, join_with_byte}
use Rattle.std.specs.Fmt.{decimal}
use Rattle.sc_text.specs.declared.elements.Element.{Element}
use Rattle.sc_text.specs.declared.end.Ending.{Ending}
use Rattle.sc_text.specs.declared.end.Ending.TheVariants as endings
use Rattle.sc_text.specs.declared.end.End.{End}
use Rattle.sc_text.specs.Elements.{element_text}
use Rattle.sc_text.specs.End.{trap_word, owner_digit}
use Rattle.proto_core.specs.declared.party.Number.{Number}
use Rattle.proto_core.specs.Parties.{number_text, link_text}
use Rattle.view_text.specs.View.{InputShare, Received, View}

pub data Line : Type 0 where
  Heading : Number → Line
  Input : InputShare → Line
  Drew : List ℕ → Line
  Got : Received → Line
  Opened : List Element → Line
  Ended : End → Line

abbrev pub cost_words : ℕ → List (List ℕ)
cost_words cost = codes "cost" ∷ decimal cost ∷ []

abbrev pub ending_words : Ending → ℕ → List (List ℕ)
ending_words endings.Done cost = codes "done" ∷ cost_words cost
ending_words (endings.Trap kind line) cost = codes "trap" ∷ trap_word kind ∷ codes "line" ∷ decimal line ∷ cost_words cost
ending_words endings.Budget cost = codes "budget" ∷ cost_words cost
ending_words (endings.Tape owner need have) cost =
    codes "tape" ∷ owner_digit owner ∷ codes "need" ∷ decimal need ∷ codes "have" ∷ decimal have ∷ cost_words cost

abbrev pub line_words : Line → List (List ℕ)
line_words (Heading i) = codes "view" ∷ number_text i ∷ []
line_words (Input s) = codes "in" ∷ s.name ∷ map decimal s.words
line_words (Drew ws) = codes "drew" ∷ map decimal ws
line_words (Got r) = codes "got" ∷ link_text r.link ∷ map decimal r.message
line_words (Opened es) = codes "open" ∷ map element_text es
line_words (Ended e) = codes "end" ∷ ending_words e.how e.cost

-- words with a space between them
abbrev pub spaced : List (List ℕ) → List ℕ
spaced words = join_with_byte 32 words

-- a space and the number, for each
abbrev pub words_behind : List ℕ → List ℕ
words_behind words = flat_map (λ word. 32 ∷ decimal word) words

abbrev pub lines_bytes : List Line → List ℕ
lines_bytes [] = []
lines_bytes (l ∷ ls) = spaced (line_words l) ++ 10 ∷ lines_bytes ls

abbrev pub lines_of : View → List Line
lines_of v = Heading v.miner ∷ (map Input v.inputs ++ Drew v.drew ∷ (map Got v.got ++ (map Opened v.opened ++ Ended v.end ∷ [])))

unfoldable pub view_bytes : View → List ℕ
view_bytes v = lines_bytes (lines_of v)
