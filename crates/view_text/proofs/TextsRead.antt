-- What is read is a view's text, and what is refused is refused for its first wrong line.
use Rattle.std.proofs.Common.{◌≡◌, ℕ, ◌+◌, suc, List, [], ◌∷◌, ◌++◌, map, length, refl, sym, ◌∙◌, ap, subst, arith, ◌⊎◌, inl, inr}
use Rattle.std.proofs.lemmas.List.{append_assoc, append_cancel_left}
use Rattle.std.specs.List.{join_with_byte}
use Rattle.std.specs.Prelude.{Some, None, Result, Ok, Err, option_and_then}
use Rattle.proto_core.proofs.Beginnings.{append-none}
use Rattle.view_text.specs.View.{View, IsView}
use Rattle.view_text.specs.Text.{Line, lines_bytes, lines_of, view_bytes}
use Rattle.view_text.specs.Reading.{Stage, AtHeading, AtInputs, AtMessages, AtOpenings, Whole, next_stage, line_in}
use Rattle.view_text.specs.Reading.{words_in_line, lines_in, at_the_end, read_from, read_view_of}
use Rattle.view_text.specs.FirstWrong.{ended_lines, NoNewline, NoNewlines, CanBegin, IsFirstWrong}
use Rattle.view_text.proofs.Bytes.{Free, split_at}
use Rattle.view_text.proofs.Rounds.{AreLines, through, read_again}
use Rattle.view_text.proofs.StagesRead.{through_takes, view_good, lines_append, continued}
use Rattle.view_text.proofs.Walked.{line_text, ended_are, text_free, lines_cut, Parted, parted, Stopped, read_past, stopped_there, Walked, walked}

-- ---- answers

ok_not_err : {P : Type 0} (v : View) (n : ℕ) (r : Result View ℕ) → r ≡ Ok v → r ≡ Err n → P
ok_not_err v n r e f = cc

same_ok : (v w : View) (r : Result View ℕ) → r ≡ Ok v → r ≡ Ok w → v ≡ w
same_ok v w r e f = cc

same_err : (k n : ℕ) (r : Result View ℕ) → r ≡ Err k → r ≡ Err n → k ≡ n
same_err k n r e f = cc

abbrev EndsAs : ℕ → Stage → List ℕ → Result View ℕ → Type 0
EndsAs k stage part r = ((v : View) × (stage ≡ Whole v) × (part ≡ []) × (r ≡ Ok v)) ⊎ (r ≡ Err k)

ends_as : (k : ℕ) (stage : Stage) (part : List ℕ) → EndsAs k stage part (at_the_end k stage part)
ends_as k (Whole v) [] = inl (v, refl, refl, refl)
ends_as k (Whole v) (x ∷ xs) = inr refl
ends_as k AtHeading part = inr refl
ends_as k (AtInputs i ss) part = inr refl
ends_as k (AtMessages i ss ws rs) part = inr refl
ends_as k (AtOpenings i ss ws rs os) part = inr refl

-- a view whose lines were all taken
whole_read : (bytes : List ℕ) (ls : List Line) (v : View) → AreLines ls → through AtHeading ls ≡ Some (Whole v) → bytes ≡ lines_bytes ls →
    IsView v × (view_bytes v ≡ bytes)
unfolding view_bytes
whole_read bytes ls v good h e =
    let lines : lines_of v ≡ ls = through_takes ls AtHeading (Whole v) h in
    (view_good v (subst AreLines (sym lines) good), ap lines_bytes lines ∙ sym e)

pub read_is : (bytes : List ℕ) (v : View) → read_view_of bytes ≡ Ok v → IsView v × (view_bytes v ≡ bytes)
read_is bytes v h = let w = walked bytes in by_more w w.first w.more w.stopped w.answer w.bytes_are
  where
    by_end : (w : Walked bytes) (first : List ℕ) (r : Result View ℕ) → EndsAs (1 + length w.lines) w.last first r → r ≡ Ok v →
        bytes ≡ lines_bytes w.lines ++ first → IsView v × (view_bytes v ≡ bytes)
    by_end w first r (inr none) is e = ok_not_err v (1 + length w.lines) r is none
    by_end w first r (inl whole) is e =
        let same = same_ok whole.0 v r whole.3 is in
        whole_read bytes w.lines v w.good (w.taken ∙ ap Some (whole.1 ∙ ap Whole same))
        (e ∙ ap (λ x. lines_bytes w.lines ++ x) whole.2 ∙ append-none (lines_bytes w.lines))

    by_more : (w : Walked bytes) (first : List ℕ) (more : List (List ℕ)) → Stopped w.last first more →
        read_view_of bytes ≡ read_from (1 + length w.lines) w.last (first ∷ more) →
        bytes ≡ lines_bytes w.lines ++ join_with_byte 10 (first ∷ more) → IsView v × (view_bytes v ≡ bytes)
    by_more w first [] stopped answer e =
        by_end w first (at_the_end (1 + length w.lines) w.last first) (ends_as (1 + length w.lines) w.last first) (sym answer ∙ h) e
    by_more w first (m ∷ ms) stopped answer e =
        ok_not_err v (1 + length w.lines) (read_view_of bytes) h (answer ∙ stopped_there (1 + length w.lines) w.last first m ms stopped)

-- ---- the first wrong line

free_is : (bytes : List ℕ) → NoNewline bytes → Free 10 bytes
free_is [] h = tt
free_is (x ∷ xs) h = (h.0, free_is xs h.1)

is_free : (bytes : List ℕ) → Free 10 bytes → NoNewline bytes
is_free [] h = tt
is_free (x ∷ xs) h = (h.0, is_free xs h.1)

lines_free : (ls : List Line) → AreLines ls → NoNewlines (map line_text ls)
lines_free [] h = tt
lines_free (l ∷ ls) h = (is_free (line_text l) (text_free l h.0), lines_free ls h.1)

-- the line's number is where the reader stands
number_is : (bytes : List ℕ) (n : ℕ) (w : Walked bytes) → read_view_of bytes ≡ Err n → n ≡ length (map line_text w.lines) + 1
number_is bytes n w h = by_more w.first w.more w.stopped w.answer
  where
    of_lines : (ls : List Line) → length (map line_text ls) ≡ length ls
    of_lines [] = refl
    of_lines (l ∷ ls) = ap suc (of_lines ls)

    number : 1 + length w.lines ≡ n → n ≡ length (map line_text w.lines) + 1
    number e = let g = of_lines w.lines in omega arith

    by_end : (first : List ℕ) (r : Result View ℕ) → EndsAs (1 + length w.lines) w.last first r → r ≡ Err n → 1 + length w.lines ≡ n
    by_end first r (inr wrong) is = same_err (1 + length w.lines) n r wrong is
    by_end first r (inl whole) is = ok_not_err whole.0 n r whole.3 is

    by_more : (first : List ℕ) (more : List (List ℕ)) → Stopped w.last first more →
        read_view_of bytes ≡ read_from (1 + length w.lines) w.last (first ∷ more) → n ≡ length (map line_text w.lines) + 1
    by_more first [] stopped answer =
        number (by_end first (at_the_end (1 + length w.lines) w.last first) (ends_as (1 + length w.lines) w.last first) (sym answer ∙ h))
    by_more first (m ∷ ms) stopped answer =
        number (same_err (1 + length w.lines) n (read_view_of bytes) (answer ∙ stopped_there (1 + length w.lines) w.last first m ms stopped) h)

can_begin : (ls : List Line) (last : Stage) → AreLines ls → through AtHeading ls ≡ Some last → CanBegin (ended_lines (map line_text ls))
unfolding view_bytes
can_begin ls last good h =
    let c = continued ls last good h in
    record {
      view = c.view;
      rest = lines_bytes c.more;
      written = c.written;
      begins = ap lines_bytes c.begins ∙ lines_append ls c.more ∙ ap (λ x. x ++ lines_bytes c.more) (sym (ended_are ls));
    }

-- with this line after those that were taken, the reader would stop there in each view's text
cannot_go_on : (bytes : List ℕ) (w : Walked bytes) (line more : List ℕ) → NoNewline line →
    join_with_byte 10 (w.first ∷ w.more) ≡ line ++ 10 ∷ more → CanBegin (ended_lines (map line_text w.lines) ++ (line ++ 10 ∷ [])) → ⊥
unfolding read_view_of
cannot_go_on bytes w line more no_newline e c =
    by_parts (parted more) (parted c.rest)
  where
    cut_at_line : (rest : List ℕ) → lines_in (lines_bytes w.lines ++ (line ++ 10 ∷ rest)) ≡ map line_text w.lines ++ line ∷ lines_in rest
    cut_at_line rest =
        lines_cut w.lines w.good (line ++ 10 ∷ rest) ∙ ap (λ ps. map line_text w.lines ++ ps) (split_at 10 line rest (free_is line no_newline) refl)

    same_parts : w.first ∷ w.more ≡ line ∷ lines_in more
    same_parts =
        append_cancel_left (map line_text w.lines) (w.first ∷ w.more) (line ∷ lines_in more)
        (sym w.parts ∙ ap lines_in (w.bytes_are ∙ ap (λ x. lines_bytes w.lines ++ x) e) ∙ cut_at_line more)

    view_is : view_bytes c.view ≡ lines_bytes w.lines ++ (line ++ 10 ∷ c.rest)
    view_is =
        c.begins
        ∙ append_assoc (ended_lines (map line_text w.lines)) (line ++ 10 ∷ []) c.rest
        ∙ ap (λ x. ended_lines (map line_text w.lines) ++ x) (append_assoc line (10 ∷ []) c.rest)
        ∙ ap (λ x. x ++ (line ++ 10 ∷ c.rest)) (ended_are w.lines)

    stopped_at : (first : List ℕ) (rest : List (List ℕ)) → Stopped w.last first rest → (line' m : List ℕ) (ms : List (List ℕ)) →
        first ∷ rest ≡ line' ∷ m ∷ ms → option_and_then (next_stage w.last) (line_in (words_in_line line')) ≡ None
    stopped_at first [] stopped line' m ms same = absurd (let g : 1 ≡ length (line' ∷ m ∷ ms) = ap length same in omega arith)
    stopped_at first (n ∷ ns) stopped line' m ms same =
        subst (λ x. option_and_then (next_stage w.last) (line_in (words_in_line x)) ≡ None) (head_is same) stopped
      where
        head_is : first ∷ n ∷ ns ≡ line' ∷ m ∷ ms → first ≡ line'
        head_is g = cc

    by_parts : Parted more → Parted c.rest → ⊥
    by_parts p q =
        let none = stopped_at w.first w.more w.stopped line p.first p.more (same_parts ∙ ap (λ ps. line ∷ ps) p.is) in
        let read : read_view_of (view_bytes c.view) ≡ Err (1 + length w.lines) =
        ap (read_from 1 AtHeading) (ap lines_in view_is ∙ cut_at_line c.rest)
        ∙ read_past w.lines 1 AtHeading w.last line (lines_in c.rest) w.good w.taken
        ∙ ap (λ ps. read_from (1 + length w.lines) w.last (line ∷ ps)) q.is
        ∙ stopped_there (1 + length w.lines) w.last line q.first q.more none in
        ok_not_err c.view (1 + length w.lines) (read_view_of (view_bytes c.view)) (read_again c.view c.written) read

pub first_wrong : (bytes : List ℕ) (n : ℕ) → read_view_of bytes ≡ Err n → IsFirstWrong bytes n
first_wrong bytes n h =
    let w = walked bytes in
    record {
      before = map line_text w.lines;
      rest = join_with_byte 10 (w.first ∷ w.more);
      cut = w.bytes_are ∙ ap (λ x. x ++ join_with_byte 10 (w.first ∷ w.more)) (sym (ended_are w.lines));
      lines = lines_free w.lines w.good;
      counted = number_is bytes n w h;
      can_begin = can_begin w.lines w.last w.good w.taken;
      cannot_go_on = cannot_go_on bytes w;
      is_no_view = λ v good same. ok_not_err v n (read_view_of bytes) (sym (ap read_view_of same) ∙ read_again v good) h;
    }
