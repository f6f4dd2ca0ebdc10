-- A file of opened values is read as it was written.
use Rattle.std.proofs.Common.{◌≡◌, ℕ, ◌+◌, List, [], ◌∷◌, ◌++◌, map, refl, sym, ◌∙◌, ap, subst}
use Rattle.std.specs.Prelude.{Option, Some, None, option_map, Result, Ok, Err, codes, bytes_eq}
use Rattle.std.specs.List.{join_with_byte}
use Rattle.std.specs.Result.{result_map_both}
use Rattle.std.proofs.lemmas.List.Splits.{join_with_byte-slice_split}
use Rattle.std.proofs.lemmas.Slice.Eq.{bytes_eq-Decides}
use Rattle.sc_text.specs.declared.elements.Element.{Element}
use Rattle.sc_text.specs.Elements.{element_text}
use Rattle.view_text.specs.View.{AreElements, AreOpened}
use Rattle.view_text.specs.Text.{Line, Opened, spaced, lines_bytes}
use Rattle.view_text.specs.Reading.{all_in, element_in, line_in, words_in_line, lines_in}
use Rattle.view_text.proofs.Found.{nothing_found, if_found}
use Rattle.view_text.proofs.Lines.{line_back}
use Rattle.view_text.proofs.LinesRead.{line_read}
use Rattle.view_text.proofs.Rounds.{line_is_cut, good_opened}
use Rattle.view_text.proofs.Walked.{line_text, lines_cut, spaced_is, lines_joined}
use Rattle.proto_core.proofs.Beginnings.{append-none}
use Rattle.view_reader.specs.Opened.{opened_bytes, opened_words, opening_in, in_front, openings_from, openings_of, opened_of}

same_line : (es : List Element) (o : Option (List Element)) → option_map Opened o ≡ Some (Opened es) → o ≡ Some es
same_line es None e = cc
same_line es (Some xs) e = cc

-- a line of an opening is read as it
pub opening_back : (es : List Element) → AreElements es → opening_in (words_in_line (line_text (Opened es))) ≡ Some es
opening_back es h =
    ap opening_in (line_is_cut (Opened es) h) ∙ same_line es (all_in element_in (map element_text es)) (line_back (Opened es) h)

front : (k : ℕ) (l : Line) (ls : List Line) →
    openings_from k (line_text l ∷ (map line_text ls ++ [] ∷ []))
    ≡ in_front k (opening_in (words_in_line (line_text l))) (openings_from (k + 1) (map line_text ls ++ [] ∷ []))
front k l [] = refl
front k l (m ∷ ms) = refl

lines_back : (k : ℕ) (os : List (List Element)) → AreOpened os → openings_from k (map line_text (map Opened os) ++ [] ∷ []) ≡ Ok os
lines_back k [] h = refl
lines_back k (o ∷ os) h =
    front k (Opened o) (map Opened os)
    ∙ ap (λ x. in_front k x (openings_from (k + 1) (map line_text (map Opened os) ++ [] ∷ []))) (opening_back o h.0)
    ∙ ap (in_front k (Some o)) (lines_back (k + 1) os h.1)

pub read_again : (os : List (List Element)) → AreOpened os → openings_of (opened_bytes os) ≡ Ok os
unfolding openings_of
read_again os h =
    ap (λ b. openings_from 1 (lines_in b)) (sym (append-none (opened_bytes os)))
    ∙ ap (openings_from 1) (lines_cut (map Opened os) (good_opened os h) [])
    ∙ lines_back 1 os h

pub words_again : (os : List (List Element)) → AreOpened os → opened_of (opened_bytes os) ≡ Ok (opened_words os)
words_again os h = ap (result_map_both opened_words (λ line. line)) (read_again os h)

-- ---- what is read was written

wrong_is_good : {P : Type 0} (k : ℕ) (os : List (List Element)) → Err k ≡ Ok os → P
wrong_is_good k os e = cc

same_openings : (xs ys : List (List Element)) (r : Result (List (List Element)) ℕ) → r ≡ Ok xs → r ≡ Ok ys → xs ≡ ys
same_openings xs ys r e h = cc

opening_is_line : (ws : List (List ℕ)) (es : List Element) → opening_in ws ≡ Some es → line_in ws ≡ Some (Opened es)
opening_is_line [] es h = nothing_found es h
opening_is_line (w ∷ ws) es h =
    if_found (bytes_eq (codes "open") w) (all_in element_in ws) None es h
    (λ same is.
    subst (λ v. line_in (v ∷ ws) ≡ Some (Opened es)) ((bytes_eq-Decides (codes "open") w).0 same) (ap (option_map Opened) is))
    (λ none. nothing_found es none)

-- the line that is read as an opening is its text
pub record IsLineOf (line : List ℕ) (es : List Element) : Type 0 where
  pub text : line_text (Opened es) ≡ line
  pub good : AreElements es

pub line_of : (line : List ℕ) (es : List Element) → opening_in (words_in_line line) ≡ Some es → IsLineOf line es
line_of line es h =
    let read = line_read (words_in_line line) (Opened es) (opening_is_line (words_in_line line) es h) in
    record {
      text = ap spaced (sym read.0) ∙ spaced_is (words_in_line line) ∙ join_with_byte-slice_split 32 line;
      good = read.1;
    }

front_found : {P : Type 0} (k : ℕ) (o : Option (List Element)) (r : Result (List (List Element)) ℕ) (os : List (List Element)) → in_front k o r ≡ Ok os →
    ((es : List Element) (more : List (List Element)) → o ≡ Some es → r ≡ Ok more → es ∷ more ≡ os → P) → P
front_found k None r os h more = wrong_is_good k os h
front_found k (Some es) (Err line) os h more = wrong_is_good line os h
front_found k (Some es) (Ok rest) os h more = more es rest refl refl (same_openings (es ∷ rest) os (Ok (es ∷ rest)) refl h)

record AreLinesOf (lines : List (List ℕ)) (os : List (List Element)) : Type 0 where
  text : map line_text (map Opened os) ++ [] ∷ [] ≡ lines
  good : AreOpened os

lines_of : (k : ℕ) (lines : List (List ℕ)) (os : List (List Element)) → openings_from k lines ≡ Ok os → AreLinesOf lines os
lines_of k [] os h = wrong_is_good k os h
lines_of k ([] ∷ []) os h = subst (AreLinesOf ([] ∷ [])) (same_openings [] os (Ok []) refl h) (record { text = refl; good = tt })
lines_of k ((x ∷ xs) ∷ []) os h = wrong_is_good k os h
lines_of k (l ∷ m ∷ ms) os h =
    front_found k (opening_in (words_in_line l)) (openings_from (k + 1) (m ∷ ms)) os h
    (λ es more first behind is. put es more is (line_of l es first) (lines_of (k + 1) (m ∷ ms) more behind))
  where
    put : (es : List Element) (more : List (List Element)) → es ∷ more ≡ os → IsLineOf l es → AreLinesOf (m ∷ ms) more → AreLinesOf (l ∷ m ∷ ms) os
    put es more is a b =
        subst (AreLinesOf (l ∷ m ∷ ms)) is
        (record { text = ap (λ x. x ∷ (map line_text (map Opened more) ++ [] ∷ [])) a.text ∙ ap (λ xs. l ∷ xs) b.text; good = (a.good, b.good) })

pub was_written : (bytes : List ℕ) (os : List (List Element)) → openings_of bytes ≡ Ok os → AreOpened os × (opened_bytes os ≡ bytes)
unfolding openings_of
was_written bytes os h =
    let are = lines_of 1 (lines_in bytes) os h in (
      are.good,
      sym (lines_joined (map Opened os) [] [] ∙ append-none (lines_bytes (map Opened os))) ∙ ap (join_with_byte 10) are.text
          ∙ join_with_byte-slice_split 10 bytes,
    )
