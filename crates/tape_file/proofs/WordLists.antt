-- Words of 8 bytes in a list of bytes.
use Rattle.std.proofs.Common.{◌≡◌, ℕ, zero, suc, ◌+◌, ◌*◌, ◌%◌, ◌^◌, ◌<◌, ◌≤◌, List, [], ◌∷◌, ◌++◌, length}
use Rattle.std.proofs.Common.{take, drop, All, get_or, refl, ap, sym, ◌∙◌, arith, inl, inr}
use Rattle.std.proofs.Math.Nat.{mod-eq_of_lt}
use Rattle.std.proofs.Math.Seq.{drop-append-add, take-add}
use Rattle.std.proofs.lemmas.List.{length-append, append_assoc, drop-drop, take-append-drop, length-take, length-drop, get_or-take, get_or-drop, get_or_past}
use Rattle.std.proofs.lemmas.Bool.{cases_lt}
use Rattle.std.proofs.lemmas.Nat.{le_bytes_8}
use Rattle.std.specs.Int.{w64, from_le_bytes}
use Rattle.std.proofs.lemmas.List.Elements.{All-head, All-tail}
use Rattle.byteorder.specs.Endian.{little_number}
use Rattle.byteorder.specs.Numbers.{little_from-lt, little_from-take, little_number-reads_back, length-bytes_low_first}
use Rattle.tape_file.specs.Format.{bytes_of, word_at, word_bytes, words_at}
use Rattle.tape_file.specs.Tapes.{IsWord}

-- a word has 8 bytes
pub length-word_bytes : (word : ℕ) → length (word_bytes word) ≡ 8
unfolding word_bytes
length-word_bytes word = length-bytes_low_first 0 8 word

-- words have 8 bytes each
pub length-bytes_of : (words : List ℕ) → length (bytes_of words) ≡ 8 * length words
length-bytes_of [] = refl
length-bytes_of (w ∷ ws) =
    let ih = length-bytes_of ws in
    let e = length-append (word_bytes w) (bytes_of ws) in
    let h = length-word_bytes w in
    omega arith

-- there are so many words
pub length-words_at : (place count : ℕ) (bytes : List ℕ) → length (words_at place count bytes) ≡ count
unfolding words_at
length-words_at place zero bytes = refl
length-words_at place (suc count) bytes = let ih = length-words_at (place + 8) count bytes in omega arith

-- a word is read again
pub word_at-word_bytes : (word : ℕ) (rest : List ℕ) → word < 2 ^ 64 → word_at 0 (word_bytes word ++ rest) ≡ word
unfolding word_at word_bytes
word_at-word_bytes word rest h = ap (λ (n : ℕ). n % 2 ^ 64) (little_number-reads_back 8 word rest h) ∙ mod-eq_of_lt h

-- a place after a front
pub word_at-append : (front rest : List ℕ) (place k : ℕ) → place ≡ length front + k → word_at place (front ++ rest) ≡ word_at k rest
unfolding word_at
word_at-append front rest place k e =
    ap (λ (p : ℕ). little_number 8 (drop p (front ++ rest)) % 2 ^ 64) e ∙ ap (λ (bs : List ℕ). little_number 8 bs % 2 ^ 64) (drop-append-add front rest k)

-- words after a front
pub words_at-append : (count : ℕ) (front rest : List ℕ) (place k : ℕ) → place ≡ length front + k → words_at place count (front ++ rest) ≡ words_at k count rest
unfolding words_at
words_at-append zero front rest place k e = refl
words_at-append (suc count) front rest place k e =
    let here = word_at-append front rest place k e in
    let behind = words_at-append count front rest (place + 8) (k + 8) (omega arith) in
    rw (here, behind) refl

-- words are read again, whatever stands after them
pub words_at-bytes_of : (words rest : List ℕ) → All IsWord words → words_at 0 (length words) (bytes_of words ++ rest) ≡ words
unfolding words_at
words_at-bytes_of [] rest fits = refl
words_at-bytes_of (w ∷ ws) rest fits =
    let joined : (word_bytes w ++ bytes_of ws) ++ rest ≡ word_bytes w ++ (bytes_of ws ++ rest) = append_assoc (word_bytes w) (bytes_of ws) rest in
    let word = word_at-word_bytes w (bytes_of ws ++ rest) (All-head IsWord w ws fits) in
    let size = length-word_bytes w in
    let behind = words_at-append (length ws) (word_bytes w) (bytes_of ws ++ rest) 8 0 (omega arith) in
    let ih = words_at-bytes_of ws rest (All-tail IsWord w ws fits) in
    rw (joined, word, behind, ih) refl

-- one more word
words_at-suc : (place count : ℕ) (bytes : List ℕ) → words_at place (suc count) bytes ≡ words_at place count bytes ++ word_at (place + 8 * count) bytes ∷ []
unfolding words_at
words_at-suc place zero bytes =
    let e : place + 8 * 0 ≡ place = omega arith in
    rw e refl
words_at-suc place (suc count) bytes =
    let ih = words_at-suc (place + 8) count bytes in
    let e : place + 8 + 8 * count ≡ place + 8 * suc count = omega arith in
    ap (λ (ws : List ℕ). word_at place bytes ∷ ws) (ih ∙ ap (λ (p : ℕ). words_at (place + 8) count bytes ++ word_at p bytes ∷ []) e)

-- a word read after those that were read
pub words_at-more : (place count : ℕ) (bytes words : List ℕ) (word : ℕ) → words ≡ words_at place count bytes
    → word ≡ word_at (place + 8 * count) bytes → words ++ word ∷ [] ≡ words_at place (count + 1) bytes
words_at-more place count bytes words word before here =
    let e : count + 1 ≡ suc count = omega arith in
    rw (before, here, e) (sym (words_at-suc place count bytes))

-- the next part of a list
pub take-part : (place n m : ℕ) (bytes : List ℕ) → take (n + m) (drop place bytes) ≡ take n (drop place bytes) ++ take m (drop (place + n) bytes)
take-part place n m bytes = take-add n m (drop place bytes) ∙ ap (λ (bs : List ℕ). take n (drop place bytes) ++ take m bs) (drop-drop n place bytes)

-- the rest of a list from a place on, in two parts
pub drop-part : (place n : ℕ) (bytes : List ℕ) → take n (drop place bytes) ++ drop (place + n) bytes ≡ drop place bytes
drop-part place n bytes = ap (λ (bs : List ℕ). take n (drop place bytes) ++ bs) (sym (drop-drop n place bytes)) ∙ take-append-drop n (drop place bytes)

-- what stands in a part of a list is small, if all of the list is
small-part : (place n : ℕ) (bytes : List ℕ) → ((i : ℕ) → get_or bytes i 0 < 256) → (i : ℕ) → get_or (take n (drop place bytes)) i 0 < 256
small-part place n bytes fits i = elim (cases_lt i n) [
  | inl below ↦ rw (get_or-take n (drop place bytes) i 0 below, get_or-drop place bytes i 0) (fits (place + i))
  | inr above ↦ rw (get_or_past (take n (drop place bytes)) i 0 (omega (arith, length-take n (drop place bytes)))) (omega arith)
]

-- the bytes of a word that was read are the bytes that stand there
pub word_bytes-word_at : (place : ℕ) (bytes : List ℕ) → ((i : ℕ) → get_or bytes i 0 < 256) → place + 8 ≤ length bytes
    → word_bytes (word_at place bytes) ≡ take 8 (drop place bytes)
unfolding word_at word_bytes
word_bytes-word_at place bytes fits h =
    let here : List ℕ = take 8 (drop place bytes) in
    let size : length here ≡ 8 = simp (length-take, length-drop) (omega arith) in
    let whole : from_le_bytes w64 here ≡ little_number 8 here = omega arith in
    let small = small-part place 8 bytes fits in
    let below : little_number 8 here < 2 ^ 64 = little_from-lt 0 8 here small in
    let read : little_number 8 here ≡ little_number 8 (drop place bytes) = little_from-take 0 8 8 (drop place bytes) (omega arith) in
    let value : little_number 8 (drop place bytes) % 2 ^ 64 ≡ from_le_bytes w64 here =
    ap (λ (n : ℕ). n % 2 ^ 64) (sym read) ∙ mod-eq_of_lt below ∙ sym whole in
    le_bytes_8 here (little_number 8 (drop place bytes) % 2 ^ 64) size small value

-- the bytes of words that were read are the bytes that stand there
pub bytes_of-words_at : (place count : ℕ) (bytes : List ℕ) → ((i : ℕ) → get_or bytes i 0 < 256) → place + 8 * count ≤ length bytes
    → bytes_of (words_at place count bytes) ≡ take (8 * count) (drop place bytes)
unfolding words_at
bytes_of-words_at place zero bytes fits h = refl
bytes_of-words_at place (suc count) bytes fits h =
    let word = word_bytes-word_at place bytes fits (omega arith) in
    let ih = bytes_of-words_at (place + 8) count bytes fits (omega arith) in
    let part = take-part place 8 (8 * count) bytes in
    let e : 8 * suc count ≡ 8 + 8 * count = omega arith in
    rw (word, ih, e) (sym part)
