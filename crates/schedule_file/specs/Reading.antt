-- The reader of a schedule's text: the links, or the number of the first line that is none.
use Rattle.std.specs.Prelude.{ℕ, ◌+◌, ◌==◌, List, [], ◌∷◌, Option, Some, None, Result, Ok, Err, bytes_eq}
use Rattle.std.specs.List.{find, slice_split}
use Rattle.proto_core.specs.declared.link.Link.{Link}
use Rattle.proto_core.specs.declared.link.Link.TheVariants.{Link12, Link13, Link21, Link23, Link31, Link32}
use Rattle.proto_core.specs.Parties.{link_text}

-- the link whose text this line is
abbrev pub link_in : List ℕ → Option Link
link_in line = find (λ l. bytes_eq (link_text l) line) (Link12 ∷ Link13 ∷ Link21 ∷ Link23 ∷ Link31 ∷ Link32 ∷ [])

-- the link of the line of this number, and those of the lines after it
abbrev pub then_later : ℕ → Option Link → Result (List Link) ℕ → Result (List Link) ℕ
then_later number None later = Err number
then_later number (Some l) (Ok ls) = Ok (l ∷ ls)
then_later number (Some l) (Err wrong) = Err wrong

-- after the last newline nothing may stand
abbrev pub at_the_end : ℕ → List ℕ → Result (List Link) ℕ
at_the_end number [] = Ok []
at_the_end number (byte ∷ bytes) = Err number

-- lines, of which the first has this number
abbrev pub links_from : ℕ → List (List ℕ) → Result (List Link) ℕ
links_from number [] = Ok []
links_from number (last ∷ []) = at_the_end number last
links_from number (line ∷ next ∷ lines) = then_later number (link_in line) (links_from (number + 1) (next ∷ lines))

abbrev pub lines_in : List ℕ → List (List ℕ)
lines_in bytes = slice_split (λ x. x == 10) bytes

unfoldable pub links_of : List ℕ → Result (List Link) ℕ
links_of bytes = links_from 1 (lines_in bytes)
