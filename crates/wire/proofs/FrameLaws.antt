-- A message is read of its frame, and what is read was spelled so.
use Rattle.std.proofs.Common.{◌≡◌, ℕ, zero, suc, ◌+◌, ◌*◌, ◌%◌, ◌^◌, ◌<◌, ◌≤◌, ◌==◌, ◌&&◌, ltb, List, [], ◌∷◌, ◌++◌, length, take, drop, All, Result, Ok, Err}
use Rattle.std.proofs.Common.{refl, ap, sym, ◌∙◌, arith, inl, inr}
use Rattle.std.proofs.lemmas.List.{append_assoc, append-nil, take-append-drop, drop-append-le, length-take, length-drop, take_all, get_or_past}
use Rattle.std.proofs.lemmas.List.Elements.{All-get_or, All-from_get_or}
use Rattle.std.proofs.lemmas.Bool.{lt-ltb, ltb-true, ltb-false, eqb-true, cases_lt}
use Rattle.std.proofs.lemmas.Nat.{le_bytes_4}
use Rattle.std.specs.Int.{w32, from_le_bytes}
use Rattle.byteorder.specs.Endian.{little_bytes, little_number}
use Rattle.byteorder.specs.Numbers.{little_from-append, little_number-reads_back, length-bytes_low_first}
use Rattle.proto_core.specs.Lists.{AreWords}
use Rattle.proto_core.proofs.MessageFields.{first_true, second_true}
use Rattle.served_bytes.specs.Front.{Whole, Malformed, Truncated}
use Rattle.tape_file.specs.Format.{bytes_of, word_at, words_at}
use Rattle.tape_file.specs.Tapes.{IsWord}
use Rattle.tape_file.proofs.WordLists.{length-bytes_of, length-words_at, words_at-bytes_of, bytes_of-words_at}
use Rattle.tape_file.proofs.OfWords.{words_below}
use Rattle.wire.specs.declared.bad_frame.BadFrame.{BadFrame}
use Rattle.wire.specs.Frames.{AreBytes, IsCount, IsFrameable, counted, header_of, with_words, frame_bytes, framed}
use Rattle.wire.proofs.Fronts.{take-front, drop-front, enough, bytes-take, bytes-drop, cut-else, or-wrong, same-front}

-- ---- in pieces

pub framed-short : (bytes : List ℕ) → length bytes < 5 → framed bytes ≡ Truncated
unfolding framed
framed-short bytes h = rw (lt-ltb (length bytes) 5 h) refl

-- the five bytes of a header, and what follows
framed-head : (head rest : List ℕ) → length head ≡ 5 → framed (head ++ rest) ≡ with_words (header_of head) rest
unfolding framed
framed-head head rest e = rw (enough 5 head rest e, take-front 5 head rest e, drop-front 5 head rest e) refl

framed-read : (head rest : List ℕ) (read : Result ℕ BadFrame) → length head ≡ 5 → header_of head ≡ read → framed (head ++ rest) ≡ with_words read rest
framed-read head rest read e h = framed-head head rest e ∙ ap (λ (r : Result ℕ BadFrame). with_words r rest) h

pub framed-broken : (head rest : List ℕ) (bad : BadFrame) → length head ≡ 5 → header_of head ≡ Err bad → framed (head ++ rest) ≡ Malformed bad.place
framed-broken head rest bad e h = framed-read head rest (Err bad) e h

pub framed-cut : (head rest : List ℕ) (count : ℕ) → length head ≡ 5 → header_of head ≡ Ok count → length rest < 8 * count → framed (head ++ rest) ≡ Truncated
framed-cut head rest count e h short = framed-read head rest (Ok count) e h ∙ rw (lt-ltb (length rest) (8 * count) short) refl

word-first : (place : ℕ) (body rest : List ℕ) → place + 8 ≤ length body → word_at place (body ++ rest) ≡ word_at place body
unfolding word_at
word-first place body rest h =
    ap (λ (bytes : List ℕ). little_number 8 bytes % 2 ^ 64) (drop-append-le place body rest (omega arith))
    ∙ ap (λ (n : ℕ). n % 2 ^ 64) (little_from-append 8 (drop place body) rest (omega (arith, length-drop place body)))

-- words are read of their own bytes alone
words-first : (place count : ℕ) (body rest : List ℕ) → place + 8 * count ≤ length body → words_at place count (body ++ rest) ≡ words_at place count body
unfolding words_at
words-first place zero body rest h = refl
words-first place (suc count) body rest h =
    let word = word-first place body rest (omega arith) in
    let more = words-first (place + 8) count body rest (omega arith) in
    rw (word, more) refl

pub framed-came : (head body rest : List ℕ) (count : ℕ) → length head ≡ 5 → header_of head ≡ Ok count → length body ≡ 8 * count
    → framed (head ++ (body ++ rest)) ≡ Whole (words_at 0 count body) rest
framed-came head body rest count e h size =
    framed-read head (body ++ rest) (Ok count) e h
    ∙ rw (enough (8 * count) body rest size, words-first 0 count body rest (omega arith), drop-front (8 * count) body rest size) refl

-- ---- what is written is read

counted-ok : (n : ℕ) → IsCount n → counted n ≡ Ok n
counted-ok n is =
    let few : n ≤ 2048 = is.few in
    rw (lt-ltb 0 n is.some, lt-ltb n 2049 (omega arith)) refl

header_of-written : (n : ℕ) → IsCount n → header_of (1 ∷ little_bytes 4 n) ≡ Ok n
unfolding header_of
header_of-written n is =
    let few : n ≤ 2048 = is.few in
    let read : little_number 4 (little_bytes 4 n) ≡ n =
    ap (little_number 4) (sym (append-nil (little_bytes 4 n))) ∙ little_number-reads_back 4 n [] (omega arith) in
    ap counted read ∙ counted-ok n is

length-header : (n : ℕ) → length (1 ∷ little_bytes 4 n) ≡ 5
length-header n = let e = length-bytes_low_first 0 4 n in omega arith

all_words : (m : List ℕ) → AreWords m → All IsWord m
all_words m words = All-from_get_or IsWord m 0 (λ i h. words i)

frame-parts : (m rest : List ℕ) → frame_bytes m ++ rest ≡ (1 ∷ little_bytes 4 (length m)) ++ (bytes_of m ++ rest)
unfolding frame_bytes
frame-parts m rest = append_assoc (1 ∷ little_bytes 4 (length m)) (bytes_of m) rest

pub framed-frame_bytes : (m rest : List ℕ) → IsFrameable m → framed (frame_bytes m ++ rest) ≡ Whole m rest
framed-frame_bytes m rest is =
    let words : words_at 0 (length m) (bytes_of m) ≡ m =
    ap (words_at 0 (length m)) (sym (append-nil (bytes_of m))) ∙ words_at-bytes_of m [] (all_words m is.words) in
    ap framed (frame-parts m rest)
    ∙ framed-came (1 ∷ little_bytes 4 (length m)) (bytes_of m) rest (length m) (length-header (length m)) (header_of-written (length m) is.count)
    (length-bytes_of m)
    ∙ ap (λ (ws : List ℕ). Whole ws rest) words

-- so a frame begins no other
pub frames-apart : (m n rest other : List ℕ) → IsFrameable m → IsFrameable n → frame_bytes m ++ rest ≡ frame_bytes n ++ other → (m ≡ n) × (rest ≡ other)
frames-apart m n rest other is is' e =
    same-front m n rest other (sym (framed-frame_bytes m rest is) ∙ ap framed e ∙ framed-frame_bytes n other is')

-- ---- what is read was written so

record Header (head : List ℕ) (count : ℕ) : Type 0 where
  is : IsCount count
  bytes : head ≡ 1 ∷ little_bytes 4 count

same_ok : (n m : ℕ) → ◌≡◌ {A = Result ℕ BadFrame} (Ok n) (Ok m) → n ≡ m
same_ok n m e = cc

counted-is : (n count : ℕ) → counted n ≡ Ok count → IsCount count × (n ≡ count)
counted-is n count h =
    let passed = or-wrong (ltb 0 n && ltb n 2049) (Ok n) count 1 h in
    let same : n ≡ count = same_ok n count passed.1 in
    let some = ltb-true 0 n (first_true (ltb 0 n) (ltb n 2049) passed.0) in
    let few = ltb-true n 2049 (second_true (ltb 0 n) (ltb n 2049) passed.0) in
    (record { some = omega arith; few = omega arith }, same)

header-is : (head : List ℕ) (count : ℕ) → length head ≡ 5 → AreBytes head → header_of head ≡ Ok count → Header head count
unfolding header_of
header-is [] count size small h = absurd (omega arith)
header-is (x ∷ bs) count size small h =
    let passed = or-wrong (x == 1) (counted (little_number 4 bs)) count 0 h in
    let first : x ≡ 1 = eqb-true x 1 passed.0 in
    let is = counted-is (little_number 4 bs) count passed.1 in
    let whole : from_le_bytes w32 bs ≡ little_number 4 bs = omega arith in
    let four : length bs ≡ 4 = omega arith in
    let read : little_bytes 4 count ≡ bs = le_bytes_4 bs count four (λ i. small (suc i)) (sym is.1 ∙ sym whole) in
    record { is = is.0; bytes = rw (first, read) refl }

record Reads (read : Result ℕ BadFrame) (bytes m rest : List ℕ) : Type 0 where
  count : ℕ
  header : read ≡ Ok count
  words : with_words (Ok count) bytes ≡ Whole m rest

reads : (read : Result ℕ BadFrame) (bytes m rest : List ℕ) → with_words read bytes ≡ Whole m rest → Reads read bytes m rest
reads (Ok count) bytes m rest h = record { count = count; header = refl; words = h }
reads (Err bad) bytes m rest h = absurd cc

are_words : (m : List ℕ) → All IsWord m → AreWords m
are_words m all k = elim (cases_lt k (length m)) [
  | inl below ↦ All-get_or IsWord m k 0 below all
  | inr above ↦ rw (get_or_past m k 0 above) (omega arith)
]

record Words (count : ℕ) (bytes m rest : List ℕ) : Type 0 where
  size : length m ≡ count
  words : AreWords m
  spelled : bytes ≡ bytes_of m ++ rest

words-is : (count : ℕ) (bytes m rest : List ℕ) → AreBytes bytes → with_words (Ok count) bytes ≡ Whole m rest → Words count bytes m rest
words-is count bytes m rest small h =
    let came = cut-else (ltb (length bytes) (8 * count)) (Whole (words_at 0 count bytes) (drop (8 * count) bytes)) m rest h in
    let long = ltb-false (length bytes) (8 * count) came.0 in
    let same = same-front (words_at 0 count bytes) m (drop (8 * count) bytes) rest came.1 in
    let read : bytes_of (words_at 0 count bytes) ≡ take (8 * count) bytes = bytes_of-words_at 0 count bytes small (omega arith) in
    let whole = take-append-drop (8 * count) bytes in
    record {
      size = sym (ap length same.0) ∙ length-words_at 0 count bytes;
      words = are_words m (rw (← same.0) (words_below 0 count bytes));
      spelled = rw (← same.0, ← same.1, read) (sym whole);
    }

spelled-joined : (head words rest bytes : List ℕ) (front : List ℕ) → bytes ≡ head ++ front → front ≡ words ++ rest → bytes ≡ (head ++ words) ++ rest
spelled-joined head words rest bytes front e f = rw (e, f) (sym (append_assoc head words rest))

pub framed-spelled : (bytes m rest : List ℕ) → AreBytes bytes → framed bytes ≡ Whole m rest → IsFrameable m × (bytes ≡ frame_bytes m ++ rest)
unfolding framed frame_bytes
framed-spelled bytes m rest small h =
    let came = cut-else (ltb (length bytes) 5) (with_words (header_of (take 5 bytes)) (drop 5 bytes)) m rest h in
    let long = ltb-false (length bytes) 5 came.0 in
    let read = reads (header_of (take 5 bytes)) (drop 5 bytes) m rest came.1 in
    let five : length (take 5 bytes) ≡ 5 = simp length-take (omega arith) in
    let header = header-is (take 5 bytes) read.count five (bytes-take 5 bytes small) read.header in
    let words = words-is read.count (drop 5 bytes) m rest (bytes-drop 5 bytes small) read.words in
    let head : take 5 bytes ≡ 1 ∷ little_bytes 4 (length m) = header.bytes ∙ ap (λ (n : ℕ). 1 ∷ little_bytes 4 n) (sym words.size) in
    let whole : bytes ≡ (1 ∷ little_bytes 4 (length m)) ++ drop 5 bytes =
    sym (take-append-drop 5 bytes) ∙ ap (λ (front : List ℕ). front ++ drop 5 bytes) head in
    let is : IsCount (length m) = rw words.size header.is in (
      record { count = is; words = words.words },
      spelled-joined (1 ∷ little_bytes 4 (length m)) (bytes_of m) rest bytes (drop 5 bytes) whole words.spelled,
    )

-- ---- what is written to bytes

-- after the words that were there come those of the header, and then those of the message
pub written : (m old reserved head headed out : List ℕ) (k : ℕ) → reserved ≡ old → head ≡ 1 ∷ little_bytes 4 (length m) → headed ≡ reserved ++ head
    → out ≡ headed ++ bytes_of (take k m) → length m ≤ k → out ≡ old ++ frame_bytes m
unfolding frame_bytes
written m old reserved head headed out k e0 eh e1 e2 all =
    let whole = take_all k m all in
    rw (e2, e1, e0, eh, whole) (append_assoc old (1 ∷ little_bytes 4 (length m)) (bytes_of m))
