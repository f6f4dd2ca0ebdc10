-- A file of lines that are each read by their words, one after another.
use Rattle.std.proofs.Common.{◌≡◌, ℕ, ◌<◌, ◌+◌, List, [], ◌∷◌, ◌++◌, map, drop, length, refl, sym, ◌∙◌, ap, arith}
use Rattle.std.specs.Prelude.{Option, Some, None, option_map, Result, Ok, Err, get_or}
use Rattle.std.specs.Borrow.{Bor}
use Rattle.std.specs.List.{flat_map}
use Rattle.std.specs.Result.{result_map_both}
use Rattle.std.proofs.lemmas.List.{drop_more, append_assoc, drop_all}
use Rattle.proto_core.proofs.Beginnings.{append-none}
use Rattle.view_text.specs.Reading.{words_in_line, lines_in}
use Rattle.view_text.proofs.Found.{nothing_found, same_found}
use Rattle.view_reader.specs.Opened.{in_front, at_the_end, read_from}

-- what is left of the lines from number i on, and what stands after the last newline
abbrev pub left_from : ℕ → List (Bor (List ℕ)) → List ℕ → List (List ℕ)
left_from i lines rest = map (λ line. line.now) (drop i lines) ++ rest ∷ []

pub left_more : (lines : List (Bor (List ℕ))) (i : ℕ) (d : Bor (List ℕ)) (rest : List ℕ) → i < length lines →
    left_from i lines rest ≡ (get_or lines i d).now ∷ left_from (i + 1) lines rest
left_more lines i d rest lt = ap (λ ls. map (λ line. line.now) ls ++ rest ∷ []) (drop_more lines i d lt)

pub map_last : (ls : List (Bor (List ℕ))) (r : Bor (List ℕ)) → map (λ line. line.now) (ls ++ r ∷ []) ≡ map (λ line. line.now) ls ++ r.now ∷ []
map_last [] r = refl
map_last (l ∷ ls) r = ap (λ xs. l.now ∷ xs) (map_last ls r)

module _ {A B : Type 0} (one : List (List ℕ) → Option A) (parts_of : A → List B) where
  -- the parts of what was read, and those that come after them
  abbrev pub behind : List B → Result (List A) ℕ → Result (List B) ℕ
  behind words (Ok ones) = Ok (words ++ flat_map parts_of ones)
  behind words (Err line) = Err line

  -- the parts of a text, or the number of its first wrong line
  abbrev pub parts_in : List ℕ → Result (List B) ℕ
  parts_in bytes = result_map_both (flat_map parts_of) (λ line. line) (read_from one 1 (lines_in bytes))

  -- the parts with those of one line after them
  abbrev pub with_one : List B → Option A → Option (List B)
  with_one words found = option_map (λ x. words ++ parts_of x) found

  first_line : (k : ℕ) (l : List ℕ) (ls : List (List ℕ)) (rest : List ℕ) →
      read_from one k (l ∷ (ls ++ rest ∷ [])) ≡ in_front k (one (words_in_line l)) (read_from one (k + 1) (ls ++ rest ∷ []))
  first_line k l [] rest = refl
  first_line k l (m ∷ ms) rest = refl

  behind_none : (r : Result (List A) ℕ) → result_map_both (flat_map parts_of) (λ line. line) r ≡ behind [] r
  behind_none (Ok ones) = refl
  behind_none (Err line) = refl

  front_read : (words more : List B) (k : ℕ) (o : Option A) (r : Result (List A) ℕ) → Some more ≡ with_one words o →
      behind words (in_front k o r) ≡ behind more r
  front_read words more k None r e = nothing_found more (sym e)
  front_read words more k (Some x) (Err line) e = refl
  front_read words more k (Some x) (Ok ones) e =
      ap (λ ws. Ok ws) (sym (append_assoc words (parts_of x) (flat_map parts_of ones))
      ∙ ap (λ ws. ws ++ flat_map parts_of ones) (sym (same_found more (words ++ parts_of x) e)))

  front_wrong : (words : List B) (k : ℕ) (o : Option A) (r : Result (List A) ℕ) → None ≡ with_one words o → behind words (in_front k o r) ≡ Err k
  front_wrong words k None r e = refl
  front_wrong words k (Some x) r e = nothing_found (words ++ parts_of x) e

  pub begun : (bytes : List ℕ) (parts lines : List (Bor (List ℕ))) (rest : Bor (List ℕ)) → map (λ line. line.now) parts ≡ lines_in bytes →
      parts ≡ lines ++ rest ∷ [] → parts_in bytes ≡ behind [] (read_from one (0 + 1) (left_from 0 lines rest.now))
  begun bytes parts lines rest e h =
      behind_none (read_from one 1 (lines_in bytes))
      ∙ ap (λ ls. behind [] (read_from one 1 ls)) (sym e ∙ ap (λ ps. map (λ line. line.now) ps) h ∙ map_last lines rest)

  pub no_parts : (bytes : List ℕ) (parts : List (Bor (List ℕ))) → map (λ line. line.now) parts ≡ lines_in bytes → length parts ≡ 0 →
      parts_in bytes ≡ Err 1
  no_parts bytes [] e h = ap (λ ls. result_map_both (flat_map parts_of) (λ line. line) (read_from one 1 ls)) (sym e)
  no_parts bytes (p ∷ ps) e h = absurd (omega (arith, h))

  pub line_read : (bytes : List ℕ) (words more : List B) (lines : List (Bor (List ℕ))) (i : ℕ) (d : Bor (List ℕ)) (rest : List ℕ) → i < length lines →
      parts_in bytes ≡ behind words (read_from one (i + 1) (left_from i lines rest)) →
      Some more ≡ with_one words (one (words_in_line (get_or lines i d).now)) →
      parts_in bytes ≡ behind more (read_from one (i + 1 + 1) (left_from (i + 1) lines rest))
  line_read bytes words more lines i d rest lt e h =
      e
      ∙ ap (λ ls. behind words (read_from one (i + 1) ls)) (left_more lines i d rest lt)
      ∙ ap (behind words) (first_line (i + 1) (get_or lines i d).now (map (λ line. line.now) (drop (i + 1) lines)) rest)
      ∙ front_read words more (i + 1) (one (words_in_line (get_or lines i d).now)) (read_from one (i + 1 + 1) (left_from (i + 1) lines rest)) h

  pub line_wrong : (bytes : List ℕ) (words : List B) (lines : List (Bor (List ℕ))) (i : ℕ) (d : Bor (List ℕ)) (rest : List ℕ) → i < length lines →
      parts_in bytes ≡ behind words (read_from one (i + 1) (left_from i lines rest)) →
      None ≡ with_one words (one (words_in_line (get_or lines i d).now)) → parts_in bytes ≡ Err (i + 1)
  line_wrong bytes words lines i d rest lt e h =
      e
      ∙ ap (λ ls. behind words (read_from one (i + 1) ls)) (left_more lines i d rest lt)
      ∙ ap (behind words) (first_line (i + 1) (get_or lines i d).now (map (λ line. line.now) (drop (i + 1) lines)) rest)
      ∙ front_wrong words (i + 1) (one (words_in_line (get_or lines i d).now)) (read_from one (i + 1 + 1) (left_from (i + 1) lines rest)) h

  none_left : (bytes : List ℕ) (words : List B) (lines : List (Bor (List ℕ))) (i : ℕ) (rest : List ℕ) → i ≡ length lines →
      parts_in bytes ≡ behind words (read_from one (i + 1) (left_from i lines rest)) →
      parts_in bytes ≡ behind words (at_the_end (length lines + 1) rest)
  none_left bytes words lines i rest at e =
      e
      ∙ ap (λ j. behind words (read_from one (j + 1) (left_from j lines rest))) at
      ∙ ap (λ ls. behind words (read_from one (length lines + 1) (map (λ line. line.now) ls ++ rest ∷ []))) (drop_all (length lines) lines (omega arith))

  pub read_whole : (bytes : List ℕ) (words : List B) (lines : List (Bor (List ℕ))) (i : ℕ) (rest : List ℕ) → i ≡ length lines → length rest ≡ 0 →
      parts_in bytes ≡ behind words (read_from one (i + 1) (left_from i lines rest)) → parts_in bytes ≡ Ok words
  read_whole bytes words lines i [] at h e = none_left bytes words lines i [] at e ∙ ap (λ ws. Ok ws) (append-none words)
  read_whole bytes words lines i (x ∷ xs) at h e = absurd (omega (arith, h))

  pub last_open : (bytes : List ℕ) (words : List B) (lines : List (Bor (List ℕ))) (i : ℕ) (rest : List ℕ) → i ≡ length lines → 0 < length rest →
      parts_in bytes ≡ behind words (read_from one (i + 1) (left_from i lines rest)) → parts_in bytes ≡ Err (length lines + 1)
  last_open bytes words lines i [] at h e = absurd (omega (arith, h))
  last_open bytes words lines i (x ∷ xs) at h e = none_left bytes words lines i (x ∷ xs) at e
