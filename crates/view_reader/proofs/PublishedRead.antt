-- The lines of a file of what is handed over, one after another.
use Rattle.std.proofs.Common.{◌≡◌, ℕ, ◌<◌, ◌+◌, List, [], ◌∷◌, ◌++◌, map, length}
use Rattle.std.specs.Prelude.{Option, Some, None, Result, Ok, Err, get_or}
use Rattle.std.specs.Borrow.{Bor}
use Rattle.view_text.specs.Reading.{words_in_line, lines_in}
use Rattle.view_reader.specs.Opened.{read_from}
use Rattle.view_reader.specs.Published.{Publication, words_published, publication_in, publications_of, published_in}
use Rattle.view_reader.proofs.LinesRead as lines
pub use Rattle.view_reader.proofs.LinesRead.{left_from}

abbrev pub behind : List ℕ → Result (List Publication) ℕ → Result (List ℕ) ℕ
behind = lines.behind publication_in words_published

pub begun : (bytes : List ℕ) (parts ls : List (Bor (List ℕ))) (rest : Bor (List ℕ)) → map (λ line. line.now) parts ≡ lines_in bytes →
    parts ≡ ls ++ rest ∷ [] → published_in bytes ≡ behind [] (read_from publication_in (0 + 1) (left_from 0 ls rest.now))
unfolding publications_of
begun = lines.begun publication_in words_published

pub no_parts : (bytes : List ℕ) (parts : List (Bor (List ℕ))) → map (λ line. line.now) parts ≡ lines_in bytes → length parts ≡ 0 → published_in bytes ≡ Err 1
unfolding publications_of
no_parts = lines.no_parts publication_in words_published

pub line_read : (bytes : List ℕ) (words more : List ℕ) (ls : List (Bor (List ℕ))) (i : ℕ) (d : Bor (List ℕ)) (rest : List ℕ) → i < length ls →
    published_in bytes ≡ behind words (read_from publication_in (i + 1) (left_from i ls rest)) →
    Some more ≡ lines.with_one publication_in words_published words (publication_in (words_in_line (get_or ls i d).now)) →
    published_in bytes ≡ behind more (read_from publication_in (i + 1 + 1) (left_from (i + 1) ls rest))
unfolding publications_of
line_read = lines.line_read publication_in words_published

pub line_wrong : (bytes : List ℕ) (words : List ℕ) (ls : List (Bor (List ℕ))) (i : ℕ) (d : Bor (List ℕ)) (rest : List ℕ) → i < length ls →
    published_in bytes ≡ behind words (read_from publication_in (i + 1) (left_from i ls rest)) →
    None ≡ lines.with_one publication_in words_published words (publication_in (words_in_line (get_or ls i d).now)) → published_in bytes ≡ Err (i + 1)
unfolding publications_of
line_wrong = lines.line_wrong publication_in words_published

pub read_whole : (bytes : List ℕ) (words : List ℕ) (ls : List (Bor (List ℕ))) (i : ℕ) (rest : List ℕ) → i ≡ length ls → length rest ≡ 0 →
    published_in bytes ≡ behind words (read_from publication_in (i + 1) (left_from i ls rest)) → published_in bytes ≡ Ok words
unfolding publications_of
read_whole = lines.read_whole publication_in words_published

pub last_open : (bytes : List ℕ) (words : List ℕ) (ls : List (Bor (List ℕ))) (i : ℕ) (rest : List ℕ) → i ≡ length ls → 0 < length rest →
    published_in bytes ≡ behind words (read_from publication_in (i + 1) (left_from i ls rest)) → published_in bytes ≡ Err (length ls + 1)
unfolding publications_of
last_open = lines.last_open publication_in words_published
