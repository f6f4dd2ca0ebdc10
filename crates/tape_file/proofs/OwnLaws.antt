-- What is written of an own tape is read as that tape, and what is read of a file is written as that file.
use Rattle.std.proofs.Common.{◌≡◌, ℕ, ◌+◌, ◌*◌, ◌<◌, ◌≤◌, List, [], ◌∷◌, ◌++◌, length, All, get_or, Some, Ok, Err, refl, ap, ◌∙◌, arith}
use Rattle.std.proofs.lemmas.List.{length-append, append-nil, take_all}
use Rattle.std.proofs.lemmas.Bool.{le-ltb, eq-eqb}
use Rattle.tape_file.specs.Format.{bytes_of, word_at, word_bytes, words_at, own_bytes, own_length_fault, own_fault_of, read_own_of, IsOwnSound}
use Rattle.tape_file.specs.Tapes.{IsShort, IsWord}
use Rattle.tape_file.proofs.WordLists.{length-bytes_of, length-word_bytes, length-words_at, word_at-word_bytes, word_bytes-word_at}
use Rattle.tape_file.proofs.Laws.{take-words_at, read-part}

-- what is read of a sound file is written as that file
pub own_bytes-words_at : (wanted : ℕ) (bytes : List ℕ) → ((i : ℕ) → get_or bytes i 0 < 256) → IsOwnSound wanted bytes
    → own_bytes (words_at 8 (word_at 0 bytes) bytes) ≡ bytes
unfolding own_bytes
own_bytes-words_at wanted bytes small sound =
    let n : ℕ = word_at 0 bytes in
    let head : 8 ≤ length bytes = sound.head in
    let len : n ≡ wanted = sound.len in
    let size : length bytes ≡ 8 + 8 * wanted = sound.size in
    let first = word_bytes-word_at 0 bytes small (omega arith) in
    let rest = take-words_at 8 n (8 + 8 * n) bytes small refl (omega arith) in
    rw (length-words_at 8 n bytes, first, rest) (take_all (8 + 8 * n) bytes (omega arith))

-- a sound file is read
pub read_own_of-sound : (wanted : ℕ) (bytes : List ℕ) → IsOwnSound wanted bytes → read_own_of wanted bytes ≡ Ok (words_at 8 (word_at 0 bytes) bytes)
unfolding read_own_of own_fault_of own_length_fault
read_own_of-sound wanted bytes sound =
    let n : ℕ = word_at 0 bytes in
    let len : n ≡ wanted = sound.len in
    let short : wanted ≤ 16777216 = sound.short in
    let size : length bytes ≡ 8 + 8 * wanted = sound.size in
    rw (le-ltb (length bytes) 8 sound.head, le-ltb 16777216 n (omega arith), eq-eqb n wanted len, eq-eqb (length bytes) (8 + 8 * n) (omega arith)) refl

-- what is written of a tape is read as that tape
pub read_own_of-own_bytes : (tape : List ℕ) → IsShort tape → All IsWord tape → read_own_of (length tape) (own_bytes tape) ≡ Ok tape
unfolding own_bytes
read_own_of-own_bytes tape short fits =
    let file : List ℕ = word_bytes (length tape) ++ bytes_of tape in
    let head = length-word_bytes (length tape) in
    let body = length-bytes_of tape in
    let whole = length-append (word_bytes (length tape)) (bytes_of tape) in
    let first : word_at 0 file ≡ length tape = word_at-word_bytes (length tape) (bytes_of tape) (omega arith) in
    let sound : IsOwnSound (length tape) file = record { head = omega arith; len = first; short = short; size = omega arith } in
    let nothing : bytes_of tape ++ [] ≡ bytes_of tape = append-nil (bytes_of tape) in
    let words : words_at 8 (length tape) file ≡ tape =
    rw (← nothing) (read-part (word_bytes (length tape)) tape [] 8 (omega arith) fits) in
    read_own_of-sound (length tape) file sound ∙ ap Ok (ap (λ (n : ℕ). words_at 8 n file) first ∙ words)

-- the place of a fault is the answer
pub read_own_of-fault : (wanted : ℕ) (bytes : List ℕ) (place : ℕ) → own_fault_of wanted bytes ≡ Some place → read_own_of wanted bytes ≡ Err place
unfolding read_own_of
read_own_of-fault wanted bytes place e = rw e refl

-- a file to which the length and the tape were written one after the other
pub pushed : (tape start one end : List ℕ) → start ≡ [] → one ≡ start ++ bytes_of (length tape ∷ []) → end ≡ one ++ bytes_of tape → end ≡ own_bytes tape
unfolding own_bytes
pushed tape start one end e0 e1 e2 = rw (e2, e1, e0) (ap (λ (x : List ℕ). x ++ bytes_of tape) (append-nil (word_bytes (length tape))))
