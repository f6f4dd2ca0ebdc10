-- The line that is named is the first that is wrong.
use Rattle.std.proofs.Common.{◌≡◌, ℕ, ◌+◌, ◌<◌, List, [], ◌∷◌, ◌++◌, map, length, refl, sym, ◌∙◌, ap, arith}
use Rattle.std.specs.Prelude.{Option, Some, None, Result, Ok, Err}
use Rattle.std.specs.List.{join_with_byte}
use Rattle.std.proofs.lemmas.List.{length-append}
use Rattle.std.proofs.lemmas.List.Splits.{join_with_byte-slice_split}
use Rattle.sc_text.specs.declared.elements.Element.{Element}
use Rattle.view_text.specs.View.{AreElements, AreOpened}
use Rattle.view_text.specs.Text.{Opened, lines_bytes}
use Rattle.view_text.specs.Reading.{words_in_line, lines_in}
use Rattle.view_text.proofs.Found.{nothing_found}
use Rattle.view_text.proofs.Walked.{line_text, lines_cut, parted, lines_joined}
use Rattle.view_text.proofs.Rounds.{good_opened}
use Rattle.view_reader.specs.Opened.{opening_in, in_front, openings_from, openings_of}
use Rattle.view_reader.specs.FirstWrong.{IsFirstWrong}
use Rattle.view_reader.proofs.OpenedLaws.{IsLineOf, line_of, opening_back}

-- ---- how far openings are read

good_is_wrong : {P : Type 0} (os : List (List Element)) (n : ℕ) → Ok os ≡ Err n → P
good_is_wrong os n e = cc

same_number : (k n : ℕ) (r : Result (List (List Element)) ℕ) → r ≡ Err k → r ≡ Err n → k ≡ n
same_number k n r e h = cc

behind_wrong : (k n : ℕ) (es : List Element) (r : Result (List (List Element)) ℕ) → in_front k (Some es) r ≡ Err n → r ≡ Err n
behind_wrong k n es (Ok os) h = good_is_wrong (es ∷ os) n h
behind_wrong k n es (Err line) h = h

abbrev IsWrong : List ℕ → List (List ℕ) → Type 0
IsWrong first [] = 0 < length first
IsWrong first (m ∷ ms) = opening_in (words_in_line first) ≡ None

record Stops (k : ℕ) (lines : List (List ℕ)) (n : ℕ) : Type 0 where
  before : List (List Element)
  first : List ℕ
  more : List (List ℕ)
  text : lines ≡ map line_text (map Opened before) ++ first ∷ more
  good : AreOpened before
  counted : n ≡ k + length before
  wrong : IsWrong first more

stops_here : (k n : ℕ) (p : List ℕ) (ps : List (List ℕ)) → k ≡ n → IsWrong p ps → Stops k (p ∷ ps) n
stops_here k n p ps e h =
    record { before = []; first = p; more = ps; text = refl; good = tt; counted = omega arith; wrong = h }

stops_behind : (k n : ℕ) (p : List ℕ) (ps : List (List ℕ)) (es : List Element) → IsLineOf p es → Stops (k + 1) ps n → Stops k (p ∷ ps) n
stops_behind k n p ps es line s =
    record {
      before = es ∷ s.before;
      first = s.first;
      more = s.more;
      text = ap (λ x. x ∷ ps) (sym line.text) ∙ ap (λ xs. line_text (Opened es) ∷ xs) s.text;
      good = (line.good, s.good);
      counted = let c = s.counted in omega arith;
      wrong = s.wrong;
    }

walk : (k : ℕ) (p : List ℕ) (ps : List (List ℕ)) (n : ℕ) → openings_from k (p ∷ ps) ≡ Err n → Stops k (p ∷ ps) n
walk k [] [] n h = good_is_wrong [] n h
walk k (x ∷ xs) [] n h = stops_here k n (x ∷ xs) [] (same_number k n (Err k) refl h) (omega arith)
walk k p (m ∷ ms) n h = by_line (opening_in (words_in_line p)) refl h (λ e. walk (k + 1) m ms n e)
  where
    by_line : (o : Option (List Element)) → opening_in (words_in_line p) ≡ o → in_front k o (openings_from (k + 1) (m ∷ ms)) ≡ Err n →
        (openings_from (k + 1) (m ∷ ms) ≡ Err n → Stops (k + 1) (m ∷ ms) n) → Stops k (p ∷ m ∷ ms) n
    by_line None e h more = stops_here k n p (m ∷ ms) (same_number k n (Err k) refl h) e
    by_line (Some es) e h more =
        stops_behind k n p (m ∷ ms) es (line_of p es e) (more (behind_wrong k n es (openings_from (k + 1) (m ∷ ms)) h))

-- ---- the text after them

same_first : {A : Type 0} (x y : A) (xs ys : List A) → x ∷ xs ≡ y ∷ ys → x ≡ y
same_first x y xs ys e = cc

same_more : {A : Type 0} (x y : A) (xs ys : List A) → x ∷ xs ≡ y ∷ ys → xs ≡ ys
same_more x y xs ys e = cc

same_behind : {A : Type 0} (front xs ys : List A) → front ++ xs ≡ front ++ ys → xs ≡ ys
same_behind [] xs ys e = e
same_behind (x ∷ front) xs ys e = same_behind front xs ys (same_more x x (front ++ xs) (front ++ ys) e)

none_is_some : {A P : Type 0} (x : A) (xs : List A) → [] ≡ x ∷ xs → P
none_is_some x xs e = cc

is_there : (first : List ℕ) (more : List (List ℕ)) → IsWrong first more → 0 < length (join_with_byte 10 (first ∷ more))
is_there first [] h = h
is_there first (m ∷ ms) h = let e = length-append first (10 ∷ join_with_byte 10 (m ∷ ms)) in omega arith

no_line : (first : List ℕ) (more : List (List ℕ)) (es : List Element) (behind : List ℕ) → IsWrong first more → AreElements es →
    first ∷ more ≡ line_text (Opened es) ∷ lines_in behind → ⊥
no_line first [] es behind h good e =
    let cut = parted behind in
    none_is_some cut.first cut.more (same_more first (line_text (Opened es)) [] (lines_in behind) e ∙ cut.is)
no_line first (m ∷ ms) es behind h good e =
    nothing_found es
    (sym h
    ∙ ap (λ line. opening_in (words_in_line line)) (same_first first (line_text (Opened es)) (m ∷ ms) (lines_in behind) e)
    ∙ opening_back es good)

pub first_wrong : (bytes : List ℕ) (n : ℕ) → openings_of bytes ≡ Err n → IsFirstWrong bytes n
unfolding openings_of
first_wrong bytes n h =
    let part = parted bytes in
    let s = walk 1 part.first part.more n (ap (openings_from 1) (sym part.is) ∙ h) in
    let lines = map Opened s.before in
    let rest = join_with_byte 10 (s.first ∷ s.more) in
    let cut : bytes ≡ lines_bytes lines ++ rest =
    sym (join_with_byte-slice_split 10 bytes) ∙ ap (join_with_byte 10) (part.is ∙ s.text) ∙ lines_joined lines s.first s.more in
    let behind : lines_in rest ≡ s.first ∷ s.more =
    same_behind (map line_text lines) (lines_in rest) (s.first ∷ s.more)
    (sym (lines_cut lines (good_opened s.before s.good) rest) ∙ ap lines_in (sym cut) ∙ part.is ∙ s.text) in
    record {
      before = s.before;
      rest = rest;
      cut = cut;
      good = s.good;
      counted = let c = s.counted in omega arith;
      not_over = is_there s.first s.more s.wrong;
      no_opening = λ es more good e.
          no_line s.first s.more es more s.wrong good (sym behind ∙ ap lines_in e ∙ lines_cut (Opened es ∷ []) (good, tt) more);
    }
