-- A file of openings is read as their words.
use Rattle.std.proofs.Common.{◌≡◌, ℕ, ◌+◌, List, [], ◌∷◌, ◌++◌, map, refl, sym, ◌∙◌, ap}
use Rattle.std.specs.Prelude.{Option, Some, None, option_map, Ok}
use Rattle.std.specs.Result.{result_map_both}
use Rattle.sc_text.specs.declared.elements.Element.{Element}
use Rattle.sc_text.specs.Elements.{element_text}
use Rattle.view_text.specs.View.{AreElements, AreOpened}
use Rattle.view_text.specs.Text.{Line, Opened}
use Rattle.view_text.specs.Reading.{all_in, element_in, words_in_line, lines_in}
use Rattle.view_text.proofs.Lines.{line_back}
use Rattle.view_text.proofs.Rounds.{line_is_cut, good_opened}
use Rattle.view_text.proofs.Walked.{line_text, lines_cut}
use Rattle.proto_core.proofs.Beginnings.{append-none}
use Rattle.view_reader.specs.Opened.{opened_bytes, opened_of, opened_words, opening_in, in_front, openings_from, openings_of}

same_line : (es : List Element) (o : Option (List Element)) → option_map Opened o ≡ Some (Opened es) → o ≡ Some es
same_line es None e = cc
same_line es (Some xs) e = cc

opening_read : (es : List Element) → AreElements es → opening_in (words_in_line (line_text (Opened es))) ≡ Some es
opening_read es h = ap opening_in (line_is_cut (Opened es) h) ∙ same_line es (all_in element_in (map element_text es)) (line_back (Opened es) h)

first_line : (k : ℕ) (l : Line) (ls : List Line) →
    openings_from k (line_text l ∷ (map line_text ls ++ [] ∷ []))
    ≡ in_front k (opening_in (words_in_line (line_text l))) (openings_from (k + 1) (map line_text ls ++ [] ∷ []))
first_line k l [] = refl
first_line k l (m ∷ ms) = refl

lines_read : (k : ℕ) (os : List (List Element)) → AreOpened os → openings_from k (map line_text (map Opened os) ++ [] ∷ []) ≡ Ok os
lines_read k [] h = refl
lines_read k (o ∷ os) h =
    first_line k (Opened o) (map Opened os)
    ∙ ap (λ x. in_front k x (openings_from (k + 1) (map line_text (map Opened os) ++ [] ∷ []))) (opening_read o h.0)
    ∙ ap (in_front k (Some o)) (lines_read (k + 1) os h.1)

pub words_again : (os : List (List Element)) → AreOpened os → opened_of (opened_bytes os) ≡ Ok (opened_words os)
unfolding openings_of
words_again os h =
    ap (result_map_both opened_words (λ line. line))
    (ap (λ b. openings_from 1 (lines_in b)) (sym (append-none (opened_bytes os)))
    ∙ ap (openings_from 1) (lines_cut (map Opened os) (good_opened os h) [])
    ∙ lines_read 1 os h)
