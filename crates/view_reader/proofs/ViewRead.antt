-- The lines of a view, one after another.
use Rattle.std.proofs.Common.{◌≡◌, ℕ, ◌<◌, ◌+◌, List, [], ◌∷◌, ◌++◌, map, drop, length, refl, sym, ◌∙◌, ap, arith}
use Rattle.std.specs.Prelude.{Some, None, option_and_then, Ok, Err, get_or}
use Rattle.std.specs.Borrow.{Bor}
use Rattle.std.proofs.lemmas.List.{drop_all}
use Rattle.view_text.specs.View.{View}
use Rattle.view_text.specs.Reading.{Stage, AtHeading, AtInputs, AtMessages, AtOpenings, Whole, next_stage, line_in, words_in_line, lines_in}
use Rattle.view_text.specs.Reading.{at_the_end, or_fault, read_from, read_view_of}
use Rattle.view_text.proofs.Found.{nothing_found, same_found}
use Rattle.view_reader.specs.Places.{whole_of}
use Rattle.view_reader.proofs.LinesRead.{left_from, left_more, map_last}

first_line : (k : ℕ) (stage : Stage) (l : List ℕ) (ls : List (List ℕ)) (rest : List ℕ) →
    read_from k stage (l ∷ (ls ++ rest ∷ []))
    ≡ or_fault k (option_and_then (next_stage stage) (line_in (words_in_line l))) (λ next. read_from (k + 1) next (ls ++ rest ∷ []))
first_line k stage l [] rest = refl
first_line k stage l (m ∷ ms) rest = refl

pub view_begun : (bytes : List ℕ) (parts lines : List (Bor (List ℕ))) (rest : Bor (List ℕ)) → map (λ line. line.now) parts ≡ lines_in bytes →
    parts ≡ lines ++ rest ∷ [] → read_view_of bytes ≡ read_from (0 + 1) AtHeading (left_from 0 lines rest.now)
unfolding read_view_of
view_begun bytes parts lines rest e h = ap (read_from 1 AtHeading) (sym e ∙ ap (λ ps. map (λ line. line.now) ps) h ∙ map_last lines rest)

pub no_view_parts : (bytes : List ℕ) (parts : List (Bor (List ℕ))) → map (λ line. line.now) parts ≡ lines_in bytes → length parts ≡ 0 →
    read_view_of bytes ≡ Err 1
unfolding read_view_of
no_view_parts bytes [] e h = ap (read_from 1 AtHeading) (sym e)
no_view_parts bytes (p ∷ ps) e h = absurd (omega (arith, h))

module _ (bytes : List ℕ) (stage : Stage) (lines : List (Bor (List ℕ))) (i : ℕ) (rest : List ℕ) where
  by_line : (d : Bor (List ℕ)) → i < length lines → read_view_of bytes ≡ read_from (i + 1) stage (left_from i lines rest) →
      read_view_of bytes
      ≡ or_fault (i + 1) (option_and_then (next_stage stage) (line_in (words_in_line (get_or lines i d).now)))
      (λ next. read_from (i + 1 + 1) next (left_from (i + 1) lines rest))
  by_line d lt e =
      e
      ∙ ap (read_from (i + 1) stage) (left_more lines i d rest lt)
      ∙ first_line (i + 1) stage (get_or lines i d).now (map (λ line. line.now) (drop (i + 1) lines)) rest

  pub view_line : (next : Stage) (d : Bor (List ℕ)) → i < length lines → read_view_of bytes ≡ read_from (i + 1) stage (left_from i lines rest) →
      Some next ≡ option_and_then (next_stage stage) (line_in (words_in_line (get_or lines i d).now)) →
      read_view_of bytes ≡ read_from (i + 1 + 1) next (left_from (i + 1) lines rest)
  view_line next d lt e h =
      by_line d lt e ∙ ap (λ o. or_fault (i + 1) o (λ s. read_from (i + 1 + 1) s (left_from (i + 1) lines rest))) (sym h)

  pub view_line_wrong : (d : Bor (List ℕ)) → i < length lines → read_view_of bytes ≡ read_from (i + 1) stage (left_from i lines rest) →
      None ≡ option_and_then (next_stage stage) (line_in (words_in_line (get_or lines i d).now)) → read_view_of bytes ≡ Err (i + 1)
  view_line_wrong d lt e h = by_line d lt e ∙ ap (λ o. or_fault (i + 1) o (λ s. read_from (i + 1 + 1) s (left_from (i + 1) lines rest))) (sym h)

  all_read : i ≡ length lines → read_view_of bytes ≡ read_from (i + 1) stage (left_from i lines rest) →
      read_view_of bytes ≡ at_the_end (length lines + 1) stage rest
  all_read at e =
      e
      ∙ ap (λ j. read_from (j + 1) stage (left_from j lines rest)) at
      ∙ ap (λ ls. read_from (length lines + 1) stage (map (λ line. line.now) ls ++ rest ∷ [])) (drop_all (length lines) lines (omega arith))

rest_wrong : (k : ℕ) (stage : Stage) (rest : List ℕ) → 0 < length rest → at_the_end k stage rest ≡ Err k
rest_wrong k stage [] h = absurd (omega (arith, h))
rest_wrong k AtHeading (x ∷ xs) h = refl
rest_wrong k (AtInputs i ss) (x ∷ xs) h = refl
rest_wrong k (AtMessages i ss ws rs) (x ∷ xs) h = refl
rest_wrong k (AtOpenings i ss ws rs os) (x ∷ xs) h = refl
rest_wrong k (Whole v) (x ∷ xs) h = refl

stage_wrong : (k : ℕ) (stage : Stage) (rest : List ℕ) → None ≡ whole_of stage → at_the_end k stage rest ≡ Err k
stage_wrong k AtHeading rest h = refl
stage_wrong k (AtInputs i ss) rest h = refl
stage_wrong k (AtMessages i ss ws rs) rest h = refl
stage_wrong k (AtOpenings i ss ws rs os) rest h = refl
stage_wrong k (Whole v) rest h = nothing_found v h

stage_whole : (k : ℕ) (stage : Stage) (rest : List ℕ) (v : View) → Some v ≡ whole_of stage → length rest ≡ 0 → at_the_end k stage rest ≡ Ok v
stage_whole k AtHeading rest v h none = nothing_found v (sym h)
stage_whole k (AtInputs i ss) rest v h none = nothing_found v (sym h)
stage_whole k (AtMessages i ss ws rs) rest v h none = nothing_found v (sym h)
stage_whole k (AtOpenings i ss ws rs os) rest v h none = nothing_found v (sym h)
stage_whole k (Whole w) [] v h none = ap (λ x. Ok x) (same_found w v (sym h))
stage_whole k (Whole w) (x ∷ xs) v h none = absurd (omega (arith, none))

module _ (bytes : List ℕ) (stage : Stage) (lines : List (Bor (List ℕ))) (i : ℕ) (rest : List ℕ) where
  pub view_rest : i ≡ length lines → 0 < length rest → read_view_of bytes ≡ read_from (i + 1) stage (left_from i lines rest) →
      read_view_of bytes ≡ Err (length lines + 1)
  view_rest at h e = all_read bytes stage lines i rest at e ∙ rest_wrong (length lines + 1) stage rest h

  pub view_short : i ≡ length lines → None ≡ whole_of stage → read_view_of bytes ≡ read_from (i + 1) stage (left_from i lines rest) →
      read_view_of bytes ≡ Err (length lines + 1)
  view_short at h e = all_read bytes stage lines i rest at e ∙ stage_wrong (length lines + 1) stage rest h

  pub view_whole : (v : View) → i ≡ length lines → Some v ≡ whole_of stage → length rest ≡ 0 →
      read_view_of bytes ≡ read_from (i + 1) stage (left_from i lines rest) → read_view_of bytes ≡ Ok v
  view_whole v at h none e = all_read bytes stage lines i rest at e ∙ stage_whole (length lines + 1) stage rest v h none
