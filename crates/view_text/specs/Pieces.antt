-- What is still to be given out of a view's text: what a line that is begun still has, and the lines after it.
use Rattle.std.specs.Prelude.{ℕ, List, [], ◌∷◌, ◌++◌, Option, Some, None, map, option_map}
use Rattle.sc_text.specs.declared.end.End.{End}
use Rattle.view_text.specs.View.{View}
use Rattle.view_text.specs.Text.{Line, Heading, Input, Drew, Got, Opened, Ended, lines_bytes, words_behind}
use Rattle.view_text.specs.declared.pieces.Pieces.{Pieces}

abbrev pub first_line_of : View → List ℕ
first_line_of v = lines_bytes (Heading v.miner ∷ [])

-- these words, and a newline
abbrev pub line_left : Option (List ℕ) → List ℕ
line_left None = []
line_left (Some words) = words_behind words ++ 10 ∷ []

abbrev pub drew_left : Option (List ℕ) → List Line
drew_left None = []
drew_left (Some words) = Drew words ∷ []

abbrev pub end_left : Option End → List Line
end_left None = []
end_left (Some end) = Ended end ∷ []

abbrev pub lines_left : Pieces → List Line
lines_left p =
    map Input p.inputs.now ++ (drew_left (option_map (λ w. w.now) p.drew) ++ (map Got p.got.now ++ (map Opened p.opened.now ++ end_left p.end)))

abbrev pub bytes_left : Pieces → List ℕ
bytes_left p = line_left (option_map (λ w. w.now) p.line) ++ lines_bytes (lines_left p)
