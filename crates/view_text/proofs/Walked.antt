-- A text, as far as the reader comes in it.
use Rattle.std.proofs.Common.{◌≡◌, ℕ, ◌+◌, List, [], ◌∷◌, ◌++◌, map, length, refl, sym, ◌∙◌, ap, arith}
use Rattle.std.proofs.lemmas.List.{append_assoc}
use Rattle.std.proofs.lemmas.List.Splits.{join_with_byte-slice_split, length-slice_split}
use Rattle.std.specs.List.{join_with_byte, count_by}
use Rattle.std.specs.Prelude.{◌==◌, Option, Some, None, Err, option_and_then}
use Rattle.view_text.specs.Text.{Line, line_words, spaced, lines_bytes}
use Rattle.view_text.specs.Reading.{Stage, AtHeading, next_stage, line_in}
use Rattle.view_text.specs.Reading.{words_in_line, lines_in, or_fault, read_from, read_view_of}
use Rattle.view_text.specs.FirstWrong.{ended_lines}
use Rattle.view_text.proofs.Bytes.{Free, split_at, spaced_free}
use Rattle.view_text.proofs.Found.{same_found, next_found}
use Rattle.view_text.proofs.Lines.{IsLine, line_back, line_plain, no_newlines}
use Rattle.view_text.proofs.LinesRead.{line_read}
use Rattle.view_text.proofs.Rounds.{AreLines, through, line_is_cut}

abbrev pub line_text : Line → List ℕ
line_text l = spaced (line_words l)

-- ---- the cuts are joined again

pub spaced_is : (ws : List (List ℕ)) → spaced ws ≡ join_with_byte 32 ws
spaced_is [] = refl
spaced_is (w ∷ []) = refl
spaced_is (w ∷ v ∷ vs) = ap (λ x. w ++ 32 ∷ x) (spaced_is (v ∷ vs))

words_joined : (part : List ℕ) → spaced (words_in_line part) ≡ part
words_joined part = spaced_is (words_in_line part) ∙ join_with_byte-slice_split 32 part

join_front : (part : List ℕ) (ls : List Line) (first : List ℕ) (more : List (List ℕ)) →
    join_with_byte 10 (part ∷ (map line_text ls ++ first ∷ more)) ≡ part ++ 10 ∷ join_with_byte 10 (map line_text ls ++ first ∷ more)
join_front part [] first more = refl
join_front part (l ∷ ls) first more = refl

pub lines_joined : (ls : List Line) (first : List ℕ) (more : List (List ℕ)) →
    join_with_byte 10 (map line_text ls ++ first ∷ more) ≡ lines_bytes ls ++ join_with_byte 10 (first ∷ more)
lines_joined [] first more = refl
lines_joined (l ∷ ls) first more =
    join_front (line_text l) ls first more
    ∙ ap (λ x. line_text l ++ 10 ∷ x) (lines_joined ls first more)
    ∙ sym (append_assoc (line_text l) (10 ∷ lines_bytes ls) (join_with_byte 10 (first ∷ more)))

pub ended_are : (ls : List Line) → ended_lines (map line_text ls) ≡ lines_bytes ls
ended_are [] = refl
ended_are (l ∷ ls) = ap (λ x. line_text l ++ 10 ∷ x) (ended_are ls)

pub text_free : (l : Line) → IsLine l → Free 10 (line_text l)
text_free l h = spaced_free (line_words l) (no_newlines (line_words l) (line_plain l h))

pub lines_cut : (ls : List Line) → AreLines ls → (bytes : List ℕ) → lines_in (lines_bytes ls ++ bytes) ≡ map line_text ls ++ lines_in bytes
lines_cut [] h bytes = refl
lines_cut (l ∷ ls) h bytes =
    ap lines_in (append_assoc (line_text l) (10 ∷ lines_bytes ls) bytes)
    ∙ split_at 10 (line_text l) (lines_bytes ls ++ bytes) (text_free l h.0) refl
    ∙ ap (λ ps. line_text l ∷ ps) (lines_cut ls h.1 bytes)

-- there is always a first part
pub record Parted (bytes : List ℕ) : Type 0 where
  pub first : List ℕ
  pub more : List (List ℕ)
  pub is : lines_in bytes ≡ first ∷ more

pub parted : (bytes : List ℕ) → Parted bytes
parted bytes = by_parts (lines_in bytes) refl (length-slice_split (λ x. x == 10) bytes)
  where
    by_parts : (ps : List (List ℕ)) → lines_in bytes ≡ ps → length (lines_in bytes) ≡ count_by (λ x. x == 10) bytes + 1 → Parted bytes
    by_parts [] e h = absurd (let g = sym (ap length e) ∙ h in omega arith)
    by_parts (p ∷ ps) e h = record { first = p; more = ps; is = e }

-- ---- how far the reader comes

abbrev pub Stopped : Stage → List ℕ → List (List ℕ) → Type 0
Stopped last first [] = Unit {0}
Stopped last first (m ∷ ms) = option_and_then (next_stage last) (line_in (words_in_line first)) ≡ None

pub record Taken (stage : Stage) (parts : List (List ℕ)) : Type 0 where
  pub lines : List Line
  pub last : Stage
  pub first : List ℕ
  pub more : List (List ℕ)
  pub parts_are : parts ≡ map line_text lines ++ first ∷ more
  pub good : AreLines lines
  pub taken : through stage lines ≡ Some last
  pub stopped : Stopped last first more

take_lines : (p : List ℕ) (ps : List (List ℕ)) (stage : Stage) → Taken stage (p ∷ ps)
take_lines p [] stage = record { lines = []; last = stage; first = p; more = []; parts_are = refl; good = tt; taken = refl; stopped = tt }
take_lines p (m ∷ ms) stage = by_next (option_and_then (next_stage stage) (line_in (words_in_line p))) refl (λ next. take_lines m ms next)
  where
    with_line : (next : Stage) (l : Line) → line_in (words_in_line p) ≡ Some l → next_stage stage l ≡ Some next → Taken next (m ∷ ms) →
        Taken stage (p ∷ m ∷ ms)
    with_line next l first second rest =
        let read = line_read (words_in_line p) l first in
        record {
          lines = l ∷ rest.lines;
          last = rest.last;
          first = rest.first;
          more = rest.more;
          parts_are =
              ap (λ x. x ∷ m ∷ ms) (sym (words_joined p) ∙ ap spaced read.0) ∙ ap (λ xs. line_text l ∷ xs) rest.parts_are;
          good = (read.1, rest.good);
          taken = ap (option_and_then (λ s. through s rest.lines)) second ∙ rest.taken;
          stopped = rest.stopped;
        }

    by_next : (o : Option Stage) → option_and_then (next_stage stage) (line_in (words_in_line p)) ≡ o →
        ((next : Stage) → Taken next (m ∷ ms)) → Taken stage (p ∷ m ∷ ms)
    by_next None e more = record { lines = []; last = stage; first = p; more = m ∷ ms; parts_are = refl; good = tt; taken = refl; stopped = e }
    by_next (Some next) e more =
        next_found (next_stage stage) (line_in (words_in_line p)) next e (λ l first second. with_line next l first second (more next))

front_more : (k : ℕ) (stage : Stage) (part : List ℕ) (ls : List Line) (first : List ℕ) (more : List (List ℕ)) →
    read_from k stage (part ∷ (map line_text ls ++ first ∷ more))
    ≡ or_fault k (option_and_then (next_stage stage) (line_in (words_in_line part))) (λ next. read_from (k + 1) next (map line_text ls ++ first ∷ more))
front_more k stage part [] first more = refl
front_more k stage part (l ∷ ls) first more = refl

plus_none : (k : ℕ) → k ≡ k + 0
plus_none k = omega arith

pub read_past : (ls : List Line) (k : ℕ) (stage last : Stage) (first : List ℕ) (more : List (List ℕ)) → AreLines ls → through stage ls ≡ Some last →
    read_from k stage (map line_text ls ++ first ∷ more) ≡ read_from (k + length ls) last (first ∷ more)
read_past [] k stage last first more h e =
    ap (λ s. read_from k s (first ∷ more)) (same_found stage last e) ∙ ap (λ n. read_from n last (first ∷ more)) (plus_none k)
read_past (l ∷ ls) k stage last first more h e =
    next_found (λ s. through s ls) (next_stage stage l) last e
    (λ next found rest.
    front_more k stage (line_text l) ls first more
    ∙ ap (λ ws. or_fault k (option_and_then (next_stage stage) (line_in ws)) (λ s. read_from (k + 1) s (map line_text ls ++ first ∷ more))) (line_is_cut l h.0)
    ∙ ap (λ x. or_fault k (option_and_then (next_stage stage) x) (λ s. read_from (k + 1) s (map line_text ls ++ first ∷ more))) (line_back l h.0)
    ∙ ap (λ x. or_fault k x (λ s. read_from (k + 1) s (map line_text ls ++ first ∷ more))) found
    ∙ read_past ls (k + 1) next last first more h.1 rest
    ∙ ap (λ n. read_from n last (first ∷ more)) (let n = length ls in omega arith))

pub stopped_there : (k : ℕ) (last : Stage) (first m : List ℕ) (ms : List (List ℕ)) →
    option_and_then (next_stage last) (line_in (words_in_line first)) ≡ None → read_from k last (first ∷ m ∷ ms) ≡ Err k
stopped_there k last first m ms h = ap (λ x. or_fault k x (λ next. read_from (k + 1) next (m ∷ ms))) h

-- ---- a text, as far as it is read

pub record Walked (bytes : List ℕ) : Type 0 where
  pub lines : List Line
  pub last : Stage
  pub first : List ℕ
  pub more : List (List ℕ)
  pub good : AreLines lines
  pub taken : through AtHeading lines ≡ Some last
  pub stopped : Stopped last first more
  pub parts : lines_in bytes ≡ map line_text lines ++ first ∷ more
  pub bytes_are : bytes ≡ lines_bytes lines ++ join_with_byte 10 (first ∷ more)
  pub answer : read_view_of bytes ≡ read_from (1 + length lines) last (first ∷ more)

pub walked : (bytes : List ℕ) → Walked bytes
unfolding read_view_of
walked bytes =
    let cut = parted bytes in
    let t = take_lines cut.first cut.more AtHeading in
    let parts = cut.is ∙ t.parts_are in
    record {
      lines = t.lines;
      last = t.last;
      first = t.first;
      more = t.more;
      good = t.good;
      taken = t.taken;
      stopped = t.stopped;
      parts = parts;
      bytes_are = sym (join_with_byte-slice_split 10 bytes) ∙ ap (join_with_byte 10) parts ∙ lines_joined t.lines t.first t.more;
      answer = ap (read_from 1 AtHeading) parts ∙ read_past t.lines 1 AtHeading t.last t.first t.more t.good t.taken;
    }
