-- The record after an open gate, read in pieces.
use Rattle.std.proofs.Common.{◌≡◌, ◌≤◌, ◌<◌, ◌+◌, ◌*◌, ℕ, List, [], ◌∷◌, ◌++◌, length, take, drop, Option, Some, None, Result, Ok, Err}
use Rattle.std.proofs.Common.{refl, sym, ◌∙◌, ap, subst, arith, length-drop, take-append-drop}
use Rattle.std.proofs.Common.{inl, inr, ◌⊎◌}
use Rattle.std.proofs.lemmas.Bool.{cases_lt}
use Rattle.std.proofs.lemmas.List.{drop_all, length-take-le}
use Rattle.proto_core.specs.declared.link.Link.{Link}
use Rattle.served_bytes.specs.Front.{Whole, Malformed, Truncated}
use Rattle.tape_file.specs.Format.{words_at}
use Rattle.wire.specs.declared.bad_frame.BadFrame.{BadFrame}
use Rattle.wire.specs.Frames.{framed, header_of}
use Rattle.wire.proofs.FrameLaws.{framed-short, framed-broken, framed-cut, framed-came}
use Rattle.kept_frames.specs.Kept.{Kept}
use Rattle.miner_journal.specs.Format.{Broken, Open, behind_record, link_at, of_link, read_record}
use Rattle.miner_journal.specs.Heads.{FindsBehind, head_of, of_head}

no_truncated : (o : Option Link) → of_link o Truncated ≡ None
no_truncated None = refl
no_truncated (Some l) = refl

no_malformed : (o : Option Link) (place : ℕ) → of_link o (Malformed place) ≡ None
no_malformed None place = refl
no_malformed (Some l) place = refl

broken_at : (rest : List ℕ) → read_record rest ≡ None → behind_record (read_record rest) ≡ Broken
broken_at rest e = ap behind_record e

some_none : {X A : Type 0} (a : A) → Some a ≡ None → X
some_none a e = cc

abbrev link_in : Option (Link × ℕ) → Option Link
link_in None = None
link_in (Some p) = Some p.0

abbrev count_in : Option (Link × ℕ) → Result ℕ BadFrame
count_in None = Ok 0
count_in (Some p) = Ok p.1

-- ---- where there are too few bytes

read_short : (rest : List ℕ) → length rest < 5 → read_record rest ≡ None
unfolding read_record
read_short [] h = refl
read_short (n ∷ tail) h = ap (of_link (link_at n)) (framed-short (1 ∷ tail) h) ∙ no_truncated (link_at n)

pub short_breaks : (rest : List ℕ) → length rest < 5 → FindsBehind rest None
short_breaks rest h = broken_at rest (read_short rest h)

-- ---- where there are five

module _ (n : ℕ) (tail : List ℕ) (four : 4 ≤ length tail) where
  abbrev head : List ℕ
  head = 1 ∷ take 4 tail

  five : length head ≡ 5
  five = let a = length-take-le 4 tail four in omega (arith, a)

  split : 1 ∷ tail ≡ head ++ drop 4 tail
  split = ap (λ v. 1 ∷ v) (sym (take-append-drop 4 tail))

  -- what a head tells, by its parts
  of_none : (o : Option Link) (r : Result ℕ BadFrame) → r ≡ header_of head → of_head o r ≡ None → of_link o (framed (1 ∷ tail)) ≡ None
  of_none None r is e = refl
  of_none (Some l) (Err bad) is e =
      ap (λ v. of_link (Some l) (framed v)) split ∙ ap (of_link (Some l)) (framed-broken head (drop 4 tail) bad five (sym is))
  of_none (Some l) (Ok count) is e = some_none (l, count) e

  of_some : (o : Option Link) (r : Result ℕ BadFrame) (l : Link) (count : ℕ) → of_head o r ≡ Some (l, count) → (o ≡ Some l) × (r ≡ Ok count)
  of_some None r l count e = some_none (l, count) (sym e)
  of_some (Some k) (Err bad) l count e = some_none (l, count) (sym e)
  of_some (Some k) (Ok c) l count e = (ap link_in e, ap count_in e)

  head_none : of_head (link_at n) (header_of head) ≡ None → read_record (n ∷ tail) ≡ None
  unfolding read_record
  head_none e = of_none (link_at n) (header_of head) refl e

  module _ (l : Link) (count : ℕ) (e : of_head (link_at n) (header_of head) ≡ Some (l, count)) where
    is_link : link_at n ≡ Some l
    is_link = (of_some (link_at n) (header_of head) l count e).0

    is_count : header_of head ≡ Ok count
    is_count = (of_some (link_at n) (header_of head) l count e).1

    cut_none : length (drop 4 tail) < 8 * count → read_record (n ∷ tail) ≡ None
    unfolding read_record
    cut_none h =
        ap (λ v. of_link (link_at n) (framed v)) split
        ∙ ap (of_link (link_at n)) (framed-cut head (drop 4 tail) count five is_count h)
        ∙ no_truncated (link_at n)

    abbrev body : List ℕ
    body = take (8 * count) (drop 4 tail)

    abbrev left : List ℕ
    left = drop (8 * count) (drop 4 tail)

    whole : 8 * count ≤ length (drop 4 tail) → read_record (n ∷ tail) ≡ Some (record { link = l; words = words_at 0 count body }, left)
    unfolding read_record
    whole h =
        let size : length body ≡ 8 * count = length-take-le (8 * count) (drop 4 tail) h in
        ap (λ v. of_link (link_at n) (framed v)) (split ∙ ap (λ v. head ++ v) (sym (take-append-drop (8 * count) (drop 4 tail))))
        ∙ ap (of_link (link_at n)) (framed-came head body left count five is_count size)
        ∙ ap (λ o. of_link o (Whole (words_at 0 count body) left)) is_link

    no_gate : (k : Kept) (rest : List ℕ) → rest ≡ [] → behind_record (Some (k, rest)) ≡ Broken
    no_gate k [] e = refl
    no_gate k (g ∷ rest) e = cc

    a_gate : (k : Kept) (rest : List ℕ) → 0 < length rest → behind_record (Some (k, rest)) ≡ Open k rest
    a_gate k [] h = absurd (omega (arith, h))
    a_gate k (g ∷ rest) h = refl

    -- no gate after it, or less
    pub few_break : (h : (length (drop 4 tail) < 8 * count) ⊎ (8 * count ≤ length (drop 4 tail)))
        → length (drop 4 tail) ≤ 8 * count → FindsBehind (n ∷ tail) None
    few_break (inl h) most = broken_at (n ∷ tail) (cut_none h)
    few_break (inr h) most =
        ap behind_record (whole h) ∙ no_gate _ left (drop_all (8 * count) (drop 4 tail) most)

    pub record_there : 8 * count < length (drop 4 tail) → FindsBehind (n ∷ tail) (Some (l, words_at 0 count body))
    record_there h =
        let more : 0 < length left = let a = length-drop (8 * count) (drop 4 tail) in omega (arith, a, h) in
        (left, ap behind_record (whole (omega (arith, h))) ∙ a_gate _ left more)

-- ---- by what was read of the file

pub head_breaks : (rest head : List ℕ) → 5 ≤ length rest → head ≡ take 5 rest → head_of head ≡ None → FindsBehind rest None
head_breaks [] head long is e = absurd (omega (arith, long))
head_breaks (n ∷ tail) head long is e =
    broken_at (n ∷ tail) (head_none n tail (omega (arith, long)) (ap head_of (sym is) ∙ e))

pub body_breaks : (rest head : List ℕ) (l : Link) (count : ℕ) → 5 ≤ length rest → head ≡ take 5 rest → head_of head ≡ Some (l, count)
    → length rest ≤ 5 + 8 * count → FindsBehind rest None
body_breaks [] head l count long is e few = absurd (omega (arith, long))
body_breaks (n ∷ tail) head l count long is e few =
    let four : 4 ≤ length tail = omega (arith, long) in
    let size = length-drop 4 tail in
    few_break n tail four l count (ap head_of (sym is) ∙ e) (le_or (length (drop 4 tail)) (8 * count)) (omega (arith, size, few))
  where
    le_or : (a b : ℕ) → (a < b) ⊎ (b ≤ a)
    le_or a b = cases_lt a b

pub body_there : (rest head body : List ℕ) (l : Link) (count : ℕ) → 5 ≤ length rest → head ≡ take 5 rest → head_of head ≡ Some (l, count)
    → 5 + 8 * count < length rest → body ≡ take (8 * count) (drop 5 rest) → FindsBehind rest (Some (l, words_at 0 count body))
body_there [] head body l count long is e many at = absurd (omega (arith, long))
body_there (n ∷ tail) head body l count long is e many at =
    let four : 4 ≤ length tail = omega (arith, long) in
    let size = length-drop 4 tail in
    subst (λ v. FindsBehind (n ∷ tail) (Some (l, words_at 0 count v))) (sym at)
    (record_there n tail four l count (ap head_of (sym is) ∙ e) (omega (arith, size, many)))
