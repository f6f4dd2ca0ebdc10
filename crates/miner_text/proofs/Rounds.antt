-- A miner's text is read as its lines, and what is read is its lines.
use Rattle.std.proofs.Common.{◌≡◌, ℕ, ◌+◌, List, [], ◌∷◌, ◌++◌, refl, sym, ◌∙◌, ap, subst, append_assoc}
use Rattle.std.specs.Prelude.{Option, Some, None, Result, Ok, Err}
use Rattle.std.specs.List.{join_with_byte, flat_map}
use Rattle.std.proofs.lemmas.List.Splits.{join_with_byte-slice_split}
use Rattle.sc_text.specs.declared.end.End.{End}
use Rattle.sc_text.specs.declared.event.Event.TheVariants.{Open, Publish, Hand}
use Rattle.view_text.specs.Text.{spaced}
use Rattle.view_text.specs.Reading.{words_in_line, lines_in}
use Rattle.view_text.proofs.Bytes.{split_at, words_back, spaced_free}
use Rattle.view_text.proofs.Lines.{no_spaces, no_newlines}
use Rattle.view_text.proofs.Walked.{spaced_is}
use Rattle.miner_text.specs.Lines.{line_text, text_of}
use Rattle.miner_text.specs.Reading.{line_in, in_front, at_the_end, at_line, lines_from, read_of}
use Rattle.miner_text.specs.Texts.{IsText}
use Rattle.miner_text.specs.declared.line.MinerLine.{MinerLine}
use Rattle.miner_text.specs.declared.line.MinerLine.TheVariants as lines
use Rattle.miner_text.proofs.Words.{IsLine, line_words, line_written, line_plain, line_back, line_read}

-- a line without its newline
abbrev pub shown : MinerLine → List ℕ
shown l = spaced (line_words l)

-- the parts of a text between its newlines; nothing stands after the last one
abbrev pub parts_of : List MinerLine → List (List ℕ)
parts_of [] = [] ∷ []
parts_of (l ∷ ls) = shown l ∷ parts_of ls

abbrev pub AreLines : List MinerLine → Type 0
AreLines [] = Unit {0}
AreLines (l ∷ ls) = IsLine l × AreLines ls

pub text_lines : (ls : List MinerLine) → IsText ls → AreLines ls
text_lines [] h = absurd h
text_lines (lines.Told event ∷ ls) h = (h.0, text_lines ls h.1)
text_lines (lines.Share s ∷ ls) h = (h.0, text_lines ls h.1)
text_lines (lines.Ended end ∷ []) h = (h, tt)
text_lines (lines.Ended end ∷ l ∷ ls) h = absurd h

-- ---- the text is cut into its lines

abbrev ended_lines : List MinerLine → List ℕ
ended_lines [] = []
ended_lines (l ∷ ls) = shown l ++ 10 ∷ ended_lines ls

pub text_is : (ls : List MinerLine) → text_of ls ≡ ended_lines ls
unfolding text_of
text_is [] = refl
text_is (l ∷ ls) =
    ap (λ x. x ++ flat_map line_text ls) (line_written l) ∙ append_assoc (shown l) (10 ∷ []) (flat_map line_text ls)
    ∙ ap (λ x. shown l ++ 10 ∷ x) (text_is ls)

cut : (ls : List MinerLine) → AreLines ls → lines_in (ended_lines ls) ≡ parts_of ls
cut [] h = refl
cut (l ∷ ls) h =
    split_at 10 (shown l) (ended_lines ls) (spaced_free (line_words l) (no_newlines (line_words l) (line_plain l h.0))) refl
    ∙ ap (λ ps. shown l ∷ ps) (cut ls h.1)

-- each line has a first word
line_is_cut : (l : MinerLine) → IsLine l → words_in_line (shown l) ≡ line_words l
line_is_cut (lines.Told (Open es)) h = words_back _ _ (no_spaces (line_words (lines.Told (Open es))) (line_plain (lines.Told (Open es)) h))
line_is_cut (lines.Told (Publish name es)) h =
    words_back _ _ (no_spaces (line_words (lines.Told (Publish name es))) (line_plain (lines.Told (Publish name es)) h))
line_is_cut (lines.Told (Hand name kind es)) h = absurd h
line_is_cut (lines.Share s) h = words_back _ _ (no_spaces (line_words (lines.Share s)) (line_plain (lines.Share s) h))
line_is_cut (lines.Ended end) h = words_back _ _ (no_spaces (line_words (lines.Ended end)) (line_plain (lines.Ended end) h))

-- ---- what is written is read

first_line : (k : ℕ) (l : List ℕ) (ls : List MinerLine) →
    lines_from k (l ∷ parts_of ls) ≡ at_line k (line_in (words_in_line l)) (parts_of ls) (lines_from (k + 1) (parts_of ls))
first_line k l [] = refl
first_line k l (m ∷ ms) = refl

line_taken : (k : ℕ) (l : MinerLine) (ls : List MinerLine) → IsLine l →
    lines_from k (shown l ∷ parts_of ls) ≡ at_line k (Some l) (parts_of ls) (lines_from (k + 1) (parts_of ls))
line_taken k l ls h =
    first_line k (shown l) ls
    ∙ ap (λ o. at_line k o (parts_of ls) (lines_from (k + 1) (parts_of ls))) (ap line_in (line_is_cut l h) ∙ line_back l h)

read_parts : (k : ℕ) (ls : List MinerLine) → IsText ls → lines_from k (parts_of ls) ≡ Ok ls
read_parts k [] h = absurd h
read_parts k (lines.Told event ∷ ls) h = line_taken k (lines.Told event) ls h.0 ∙ ap (in_front (lines.Told event)) (read_parts (k + 1) ls h.1)
read_parts k (lines.Share s ∷ ls) h = line_taken k (lines.Share s) ls h.0 ∙ ap (in_front (lines.Share s)) (read_parts (k + 1) ls h.1)
read_parts k (lines.Ended end ∷ []) h = line_taken k (lines.Ended end) [] h
read_parts k (lines.Ended end ∷ l ∷ ls) h = absurd h

pub read_again : (ls : List MinerLine) → IsText ls → read_of (text_of ls) ≡ Ok ls
unfolding read_of
read_again ls h = ap (λ b. lines_from 1 (lines_in b)) (text_is ls) ∙ ap (lines_from 1) (cut ls (text_lines ls h)) ∙ read_parts 1 ls h

-- ---- what is read was written

wrong_is_read : {P : Type 0} (k : ℕ) (ls : List MinerLine) → Err k ≡ Ok ls → P
wrong_is_read k ls e = cc

same_lines : (xs ys : List MinerLine) (r : Result (List MinerLine) ℕ) → r ≡ Ok xs → r ≡ Ok ys → xs ≡ ys
same_lines xs ys r e f = cc

front_found : {P : Type 0} (l : MinerLine) (r : Result (List MinerLine) ℕ) (ls : List MinerLine) → in_front l r ≡ Ok ls →
    ((more : List MinerLine) → r ≡ Ok more → l ∷ more ≡ ls → P) → P
front_found l (Err k) ls h more = wrong_is_read k ls h
front_found l (Ok rest) ls h more = more rest refl (same_lines (l ∷ rest) ls (Ok (l ∷ rest)) refl h)

-- parts that are those of the lines of a text
pub record AreParts (parts : List (List ℕ)) (ls : List MinerLine) : Type 0 where
  pub parts_are : parts_of ls ≡ parts
  pub text : IsText ls

-- a part that is a line
record IsPart (part : List ℕ) (l : MinerLine) : Type 0 where
  is : shown l ≡ part
  line : IsLine l

part_of : (part : List ℕ) (l : MinerLine) → line_in (words_in_line part) ≡ Some l → IsPart part l
part_of part l h =
    let read = line_read (words_in_line part) l h in
    record { is = ap spaced (sym read.0) ∙ spaced_is (words_in_line part) ∙ join_with_byte-slice_split 32 part; line = read.1 }

end_found : (k : ℕ) (part : List ℕ) (end : End) (behind : List (List ℕ)) (ls : List MinerLine) → at_the_end k end behind ≡ Ok ls →
    IsPart part (lines.Ended end) → AreParts (part ∷ behind) ls
end_found k part end [] ls h p = wrong_is_read (k + 1) ls h
end_found k part end ([] ∷ []) ls h p =
    subst (AreParts (part ∷ [] ∷ [])) (same_lines (lines.Ended end ∷ []) ls (Ok (lines.Ended end ∷ [])) refl h)
    (record { parts_are = ap (λ x. x ∷ [] ∷ []) p.is; text = p.line })
end_found k part end ([] ∷ m ∷ ms) ls h p = wrong_is_read (k + 1) ls h
end_found k part end ((x ∷ xs) ∷ ms) ls h p = wrong_is_read (k + 1) ls h

-- a line in front of the parts of a text
put : (part : List ℕ) (behind : List (List ℕ)) (l : MinerLine) (more ls : List MinerLine) →
    (IsLine l → IsText more → IsText (l ∷ more)) → l ∷ more ≡ ls → IsPart part l → AreParts behind more → AreParts (part ∷ behind) ls
put part behind l more ls good is p rest =
    subst (AreParts (part ∷ behind)) is
    (record { parts_are = ap (λ x. x ∷ parts_of more) p.is ∙ ap (λ xs. part ∷ xs) rest.parts_are; text = good p.line rest.text })

line_found : (k : ℕ) (part : List ℕ) (o : Option MinerLine) (behind : List (List ℕ)) (r : Result (List MinerLine) ℕ) (ls : List MinerLine) →
    line_in (words_in_line part) ≡ o → at_line k o behind r ≡ Ok ls → ((more : List MinerLine) → r ≡ Ok more → AreParts behind more) →
    AreParts (part ∷ behind) ls
line_found k part None behind r ls e h rest = wrong_is_read k ls h
line_found k part (Some (lines.Told event)) behind r ls e h rest =
    front_found (lines.Told event) r ls h
    (λ more read is. put part behind (lines.Told event) more ls (λ a b. (a, b)) is (part_of part (lines.Told event) e) (rest more read))
line_found k part (Some (lines.Share s)) behind r ls e h rest =
    front_found (lines.Share s) r ls h
    (λ more read is. put part behind (lines.Share s) more ls (λ a b. (a, b)) is (part_of part (lines.Share s) e) (rest more read))
line_found k part (Some (lines.Ended end)) behind r ls e h rest = end_found k part end behind ls h (part_of part (lines.Ended end) e)

lines_found : (k : ℕ) (parts : List (List ℕ)) (ls : List MinerLine) → lines_from k parts ≡ Ok ls → AreParts parts ls
lines_found k [] ls h = wrong_is_read k ls h
lines_found k (l ∷ []) ls h = wrong_is_read k ls h
lines_found k (l ∷ m ∷ ms) ls h =
    line_found k l (line_in (words_in_line l)) (m ∷ ms) (lines_from (k + 1) (m ∷ ms)) ls refl h (λ more read. lines_found (k + 1) (m ∷ ms) more read)

join_front : (part : List ℕ) (ls : List MinerLine) → join_with_byte 10 (part ∷ parts_of ls) ≡ part ++ 10 ∷ join_with_byte 10 (parts_of ls)
join_front part [] = refl
join_front part (l ∷ ls) = refl

parts_joined : (ls : List MinerLine) → join_with_byte 10 (parts_of ls) ≡ ended_lines ls
parts_joined [] = refl
parts_joined (l ∷ ls) = join_front (shown l) ls ∙ ap (λ x. shown l ++ 10 ∷ x) (parts_joined ls)

pub was_written : (bytes : List ℕ) (ls : List MinerLine) → read_of bytes ≡ Ok ls → IsText ls × (text_of ls ≡ bytes)
unfolding read_of
was_written bytes ls h =
    let are = lines_found 1 (lines_in bytes) ls h in
    (are.text, text_is ls ∙ sym (parts_joined ls) ∙ ap (join_with_byte 10) are.parts_are ∙ join_with_byte-slice_split 10 bytes)
