-- The lines of a miner's text, one after another.
use Rattle.std.proofs.Common.{◌≡◌, ℕ, ◌<◌, ◌≤◌, ◌+◌, List, [], ◌∷◌, ◌++◌, map, drop, length, refl, sym, ◌∙◌, ap, arith, append_assoc, length-drop}
use Rattle.std.specs.Prelude.{Option, Some, None, Result, Ok, Err, get_or}
use Rattle.std.specs.Borrow.{Bor}
use Rattle.std.proofs.lemmas.List.{drop_all}
use Rattle.sc_text.specs.declared.end.End.{End}
use Rattle.view_text.specs.Reading.{words_in_line, lines_in}
use Rattle.view_reader.proofs.LinesRead.{left_from, left_more, map_last}
use Rattle.miner_text.specs.Reading.{line_in, in_front, at_the_end, at_line, lines_from, read_of}
use Rattle.miner_text.specs.declared.line.MinerLine.{MinerLine}
use Rattle.miner_text.specs.declared.line.MinerLine.TheVariants as lines
use Rattle.miner_text.specs.declared.reading.Kind.TheVariants.{Wrong, Inner, Last}
use Rattle.miner_text.specs.inner.Pushing.{Pushed}

-- lines that were read, and those that come after them
abbrev pub behind : List MinerLine → Result (List MinerLine) ℕ → Result (List MinerLine) ℕ
behind old (Ok new) = Ok (old ++ new)
behind old (Err k) = Err k

behind_none : (r : Result (List MinerLine) ℕ) → r ≡ behind [] r
behind_none (Ok ls) = refl
behind_none (Err k) = refl

behind_front : (old : List MinerLine) (l : MinerLine) (r : Result (List MinerLine) ℕ) → behind old (in_front l r) ≡ behind (old ++ l ∷ []) r
behind_front old l (Ok new) = ap (λ ls. Ok ls) (sym (append_assoc old (l ∷ []) new))
behind_front old l (Err k) = refl

first_part : (k : ℕ) (l : List ℕ) (ls : List (List ℕ)) (rest : List ℕ) →
    lines_from k (l ∷ (ls ++ rest ∷ []))
    ≡ at_line k (line_in (words_in_line l)) (ls ++ rest ∷ []) (lines_from (k + 1) (ls ++ rest ∷ []))
first_part k l [] rest = refl
first_part k l (m ∷ ms) rest = refl

pub begun : (bytes : List ℕ) (parts ls : List (Bor (List ℕ))) (rest : Bor (List ℕ)) → map (λ line. line.now) parts ≡ lines_in bytes →
    parts ≡ ls ++ rest ∷ [] → read_of bytes ≡ behind [] (lines_from (0 + 1) (left_from 0 ls rest.now))
unfolding read_of
begun bytes parts ls rest e h =
    behind_none (lines_from 1 (lines_in bytes))
    ∙ ap (λ xs. behind [] (lines_from 1 xs)) (sym e ∙ ap (λ ps. map (λ line. line.now) ps) h ∙ map_last ls rest)

pub no_parts : (bytes : List ℕ) (parts : List (Bor (List ℕ))) → map (λ line. line.now) parts ≡ lines_in bytes → length parts ≡ 0 → read_of bytes ≡ Err 1
unfolding read_of
no_parts bytes [] e h = ap (lines_from 1) (sym e)
no_parts bytes (p ∷ ps) e h = absurd (omega (arith, h))

-- ---- what stands after the end

more_there : (k : ℕ) (end : End) (b c : List ℕ) (cs : List (List ℕ)) → at_the_end k end (b ∷ c ∷ cs) ≡ Err (k + 1)
more_there k end [] c cs = refl
more_there k end (x ∷ xs) c cs = refl

lines_there : (k : ℕ) (end : End) (xs : List (Bor (List ℕ))) (rest : List ℕ) → 0 < length xs →
    at_the_end k end (map (λ line. line.now) xs ++ rest ∷ []) ≡ Err (k + 1)
lines_there k end [] rest h = absurd (omega (arith, h))
lines_there k end (x ∷ []) rest h = more_there k end x.now rest []
lines_there k end (x ∷ y ∷ ys) rest h = more_there k end x.now y.now (map (λ line. line.now) ys ++ rest ∷ [])

rest_there : (k : ℕ) (end : End) (xs : List (Bor (List ℕ))) (rest : List ℕ) → 0 < length rest →
    at_the_end k end (map (λ line. line.now) xs ++ rest ∷ []) ≡ Err (k + 1)
rest_there k end [] [] h = absurd (omega (arith, h))
rest_there k end [] (b ∷ bs) h = refl
rest_there k end (x ∷ xs) rest h = lines_there k end (x ∷ xs) rest (omega arith)

none_there : (k : ℕ) (end : End) (xs : List (Bor (List ℕ))) (rest : List ℕ) → length xs ≡ 0 → length rest ≡ 0 →
    at_the_end k end (map (λ line. line.now) xs ++ rest ∷ []) ≡ Ok (lines.Ended end ∷ [])
none_there k end [] [] a b = refl
none_there k end [] (y ∷ ys) a b = absurd (omega (arith, b))
none_there k end (x ∷ xs) rest a b = absurd (omega (arith, a))

-- ---- a line by its kind

inner_is_last : {P : Type 0} → Inner ≡ Last → P
inner_is_last e = cc

inner_is_wrong : {P : Type 0} → Inner ≡ Wrong → P
inner_is_wrong e = cc

last_is_wrong : {P : Type 0} → Last ≡ Wrong → P
last_is_wrong e = cc

module _ (bytes : List ℕ) (old : List MinerLine) (ls : List (Bor (List ℕ))) (i : ℕ) (rest : List ℕ) where
  at_part : (d : Bor (List ℕ)) → i < length ls → read_of bytes ≡ behind old (lines_from (i + 1) (left_from i ls rest)) →
      read_of bytes
      ≡ behind old
      (at_line (i + 1) (line_in (words_in_line (get_or ls i d).now)) (left_from (i + 1) ls rest) (lines_from (i + 1 + 1) (left_from (i + 1) ls rest)))
  at_part d lt e =
      e
      ∙ ap (λ xs. behind old (lines_from (i + 1) xs)) (left_more ls i d rest lt)
      ∙ ap (behind old) (first_part (i + 1) (get_or ls i d).now (map (λ line. line.now) (drop (i + 1) ls)) rest)

  inner_read : (new : List MinerLine) (o : Option MinerLine) (r : Result (List MinerLine) ℕ) → Pushed Inner old new o →
      behind old (at_line (i + 1) o (left_from (i + 1) ls rest) r) ≡ behind new r
  inner_read new None r p = inner_is_wrong p.kind_is
  inner_read new (Some (lines.Told event)) r p = behind_front old (lines.Told event) r ∙ ap (λ xs. behind xs r) (sym p.lines_are)
  inner_read new (Some (lines.Share s)) r p = behind_front old (lines.Share s) r ∙ ap (λ xs. behind xs r) (sym p.lines_are)
  inner_read new (Some (lines.Ended end)) r p = inner_is_last p.kind_is

  pub line_more : (new : List MinerLine) (d : Bor (List ℕ)) → i < length ls →
      read_of bytes ≡ behind old (lines_from (i + 1) (left_from i ls rest)) →
      Pushed Inner old new (line_in (words_in_line (get_or ls i d).now)) →
      read_of bytes ≡ behind new (lines_from (i + 1 + 1) (left_from (i + 1) ls rest))
  line_more new d lt e p =
      at_part d lt e ∙ inner_read new (line_in (words_in_line (get_or ls i d).now)) (lines_from (i + 1 + 1) (left_from (i + 1) ls rest)) p

  wrong_read : (new : List MinerLine) (o : Option MinerLine) (r : Result (List MinerLine) ℕ) → Pushed Wrong old new o →
      behind old (at_line (i + 1) o (left_from (i + 1) ls rest) r) ≡ Err (i + 1)
  wrong_read new None r p = refl
  wrong_read new (Some (lines.Told event)) r p = inner_is_wrong (sym p.kind_is)
  wrong_read new (Some (lines.Share s)) r p = inner_is_wrong (sym p.kind_is)
  wrong_read new (Some (lines.Ended end)) r p = last_is_wrong (sym p.kind_is)

  pub line_wrong : (new : List MinerLine) (d : Bor (List ℕ)) → i < length ls →
      read_of bytes ≡ behind old (lines_from (i + 1) (left_from i ls rest)) →
      Pushed Wrong old new (line_in (words_in_line (get_or ls i d).now)) → read_of bytes ≡ Err (i + 1)
  line_wrong new d lt e p =
      at_part d lt e ∙ wrong_read new (line_in (words_in_line (get_or ls i d).now)) (lines_from (i + 1 + 1) (left_from (i + 1) ls rest)) p

  end_read : (new : List MinerLine) (o : Option MinerLine) (r answer : Result (List MinerLine) ℕ) → Pushed Last old new o →
      ((end : End) → new ≡ old ++ lines.Ended end ∷ [] → behind old (at_the_end (i + 1) end (left_from (i + 1) ls rest)) ≡ answer) →
      behind old (at_line (i + 1) o (left_from (i + 1) ls rest) r) ≡ answer
  end_read new None r answer p goes = last_is_wrong p.kind_is
  end_read new (Some (lines.Told event)) r answer p goes = inner_is_last (sym p.kind_is)
  end_read new (Some (lines.Share s)) r answer p goes = inner_is_last (sym p.kind_is)
  end_read new (Some (lines.Ended end)) r answer p goes = goes end p.lines_are

  -- the line is the end
  record IsEnd (new : List MinerLine) (d : Bor (List ℕ)) : Type 0 where
    there : i < length ls
    read : read_of bytes ≡ behind old (lines_from (i + 1) (left_from i ls rest))
    pushed : Pushed Last old new (line_in (words_in_line (get_or ls i d).now))

  at_end : (new : List MinerLine) (d : Bor (List ℕ)) (answer : Result (List MinerLine) ℕ) → IsEnd new d →
      ((end : End) → new ≡ old ++ lines.Ended end ∷ [] → behind old (at_the_end (i + 1) end (left_from (i + 1) ls rest)) ≡ answer) → read_of bytes ≡ answer
  at_end new d answer h goes =
      at_part d h.there h.read
      ∙ end_read new (line_in (words_in_line (get_or ls i d).now)) (lines_from (i + 1 + 1) (left_from (i + 1) ls rest)) answer h.pushed goes

  abbrev wrong_at : ℕ → Result (List MinerLine) ℕ
  wrong_at k = Err k

  next_number : wrong_at (i + 1 + 1) ≡ wrong_at (i + 2)
  next_number = ap wrong_at (omega arith)

  pub lines_behind : (new : List MinerLine) (d : Bor (List ℕ)) → i < length ls → read_of bytes ≡ behind old (lines_from (i + 1) (left_from i ls rest)) →
      Pushed Last old new (line_in (words_in_line (get_or ls i d).now)) → i + 1 < length ls → read_of bytes ≡ Err (i + 2)
  lines_behind new d lt e p more =
      at_end new d (Err (i + 2)) (record { there = lt; read = e; pushed = p })
      (λ end is. ap (behind old) (lines_there (i + 1) end (drop (i + 1) ls) rest (omega (arith, length-drop (i + 1) ls))) ∙ next_number)

  pub rest_behind : (new : List MinerLine) (d : Bor (List ℕ)) → i < length ls → read_of bytes ≡ behind old (lines_from (i + 1) (left_from i ls rest)) →
      Pushed Last old new (line_in (words_in_line (get_or ls i d).now)) → 0 < length rest → read_of bytes ≡ Err (i + 2)
  rest_behind new d lt e p more =
      at_end new d (Err (i + 2)) (record { there = lt; read = e; pushed = p })
      (λ end is. ap (behind old) (rest_there (i + 1) end (drop (i + 1) ls) rest more) ∙ next_number)

  pub all_read : (new : List MinerLine) (d : Bor (List ℕ)) → i < length ls → read_of bytes ≡ behind old (lines_from (i + 1) (left_from i ls rest)) →
      Pushed Last old new (line_in (words_in_line (get_or ls i d).now)) → length ls ≤ i + 1 → length rest ≡ 0 → read_of bytes ≡ Ok new
  all_read new d lt e p last none =
      at_end new d (Ok new) (record { there = lt; read = e; pushed = p })
      (λ end is. ap (behind old) (none_there (i + 1) end (drop (i + 1) ls) rest (omega (arith, length-drop (i + 1) ls)) none) ∙ ap (λ xs. Ok xs) (sym is))

  pub no_end : i ≡ length ls → read_of bytes ≡ behind old (lines_from (i + 1) (left_from i ls rest)) → read_of bytes ≡ Err (length ls + 1)
  no_end at e =
      e
      ∙ ap (λ j. behind old (lines_from (j + 1) (left_from j ls rest))) at
      ∙ ap (λ xs. behind old (lines_from (length ls + 1) (map (λ line. line.now) xs ++ rest ∷ []))) (drop_all (length ls) ls (omega arith))
