-- The lines of a file of opened values, one after another.
use Rattle.std.proofs.Common.{◌≡◌, ℕ, ◌<◌, ◌+◌, List, [], ◌∷◌, ◌++◌, map, length}
use Rattle.std.specs.Prelude.{Option, Some, None, Result, Ok, Err, get_or}
use Rattle.std.specs.Borrow.{Bor}
use Rattle.sc_text.specs.declared.elements.Element.{Element}
use Rattle.sc_text.specs.Elements.{element_word}
use Rattle.view_text.specs.Reading.{words_in_line, lines_in}
use Rattle.view_reader.specs.Opened.{opening_in, openings_of, opened_of, read_from}
use Rattle.view_reader.proofs.LinesRead as lines
pub use Rattle.view_reader.proofs.LinesRead.{left_from}

abbrev pub behind : List ℕ → Result (List (List Element)) ℕ → Result (List ℕ) ℕ
behind = lines.behind opening_in (map element_word)

pub begun : (bytes : List ℕ) (parts ls : List (Bor (List ℕ))) (rest : Bor (List ℕ)) → map (λ line. line.now) parts ≡ lines_in bytes →
    parts ≡ ls ++ rest ∷ [] → opened_of bytes ≡ behind [] (read_from opening_in (0 + 1) (left_from 0 ls rest.now))
unfolding openings_of
begun = lines.begun opening_in (map element_word)

pub no_parts : (bytes : List ℕ) (parts : List (Bor (List ℕ))) → map (λ line. line.now) parts ≡ lines_in bytes → length parts ≡ 0 → opened_of bytes ≡ Err 1
unfolding openings_of
no_parts = lines.no_parts opening_in (map element_word)

pub line_read : (bytes : List ℕ) (words more : List ℕ) (ls : List (Bor (List ℕ))) (i : ℕ) (d : Bor (List ℕ)) (rest : List ℕ) → i < length ls →
    opened_of bytes ≡ behind words (read_from opening_in (i + 1) (left_from i ls rest)) →
    Some more ≡ lines.with_one opening_in (map element_word) words (opening_in (words_in_line (get_or ls i d).now)) →
    opened_of bytes ≡ behind more (read_from opening_in (i + 1 + 1) (left_from (i + 1) ls rest))
unfolding openings_of
line_read = lines.line_read opening_in (map element_word)

pub line_wrong : (bytes : List ℕ) (words : List ℕ) (ls : List (Bor (List ℕ))) (i : ℕ) (d : Bor (List ℕ)) (rest : List ℕ) → i < length ls →
    opened_of bytes ≡ behind words (read_from opening_in (i + 1) (left_from i ls rest)) →
    None ≡ lines.with_one opening_in (map element_word) words (opening_in (words_in_line (get_or ls i d).now)) → opened_of bytes ≡ Err (i + 1)
unfolding openings_of
line_wrong = lines.line_wrong opening_in (map element_word)

pub read_whole : (bytes : List ℕ) (words : List ℕ) (ls : List (Bor (List ℕ))) (i : ℕ) (rest : List ℕ) → i ≡ length ls → length rest ≡ 0 →
    opened_of bytes ≡ behind words (read_from opening_in (i + 1) (left_from i ls rest)) → opened_of bytes ≡ Ok words
unfolding openings_of
read_whole = lines.read_whole opening_in (map element_word)

pub last_open : (bytes : List ℕ) (words : List ℕ) (ls : List (Bor (List ℕ))) (i : ℕ) (rest : List ℕ) → i ≡ length ls → 0 < length rest →
    opened_of bytes ≡ behind words (read_from opening_in (i + 1) (left_from i ls rest)) → opened_of bytes ≡ Err (length ls + 1)
unfolding openings_of
last_open = lines.last_open opening_in (map element_word)
