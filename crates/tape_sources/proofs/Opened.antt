-- What the beginning of a tape file says of all of it.
use Rattle.std.proofs.Common.{◌≡◌, ℕ, ◌+◌, ◌*◌, ◌<◌, ◌≤◌, List, length, get_or, Option, Some, None, Ok, Err, IfSome, IsSomeAnd, option_map, unwrap_or, refl}
use Rattle.std.proofs.Common.{sym, ap, ◌∙◌, arith}
use Rattle.std.proofs.lemmas.Bool.{le-ltb, lt-ltb}
use Rattle.tape_file.specs.Format.{word_at, words_at, tapes_at, fault_of, lengths_fault, read_of, IsSized, IsSound}
use Rattle.tape_file.specs.Format.{own_fault_of, own_length_fault, read_own_of, IsOwnSound}
use Rattle.tape_file.proofs.Laws.{read_of-fault, read_of-sound}
use Rattle.tape_file.proofs.OwnLaws.{read_own_of-fault, read_own_of-sound}
use Rattle.tape_sources.specs.Lengths.{IsOwnSized}
use Rattle.tape_sources.proofs.Splits.{get_or-words_at}

same_size : (bytes : List ℕ) (size : ℕ) → option_map length (Some bytes) ≡ Some size → length bytes ≡ size
same_size bytes size e = ap (λ (o : Option ℕ). unwrap_or o 0) e

no_size : {X : Type 0} (size : ℕ) → option_map (length {A = ℕ}) None ≡ Some size → X
no_size size e = absurd (cc)

-- one of the words that were read of the beginning
word_read : (words bytes : List ℕ) (i : ℕ) → words ≡ words_at 0 (length words) bytes → i < length words → word_at (8 * i) bytes ≡ get_or words i 0
word_read words bytes i are lt =
    let e : 0 + 8 * i ≡ 8 * i = omega arith in
    sym (ap (λ (ws : List ℕ). get_or ws i 0) are ∙ get_or-words_at 0 (length words) i bytes lt ∙ ap (λ (n : ℕ). word_at n bytes) e)

short_fault : (bytes : List ℕ) → length bytes < 32 → fault_of bytes ≡ Some (length bytes)
unfolding fault_of
short_fault bytes short = rw (lt-ltb (length bytes) 32 short) refl

later_fault : (bytes : List ℕ) → 32 ≤ length bytes
    → fault_of bytes ≡ lengths_fault (word_at 0 bytes) (word_at 8 bytes) (word_at 16 bytes) (word_at 24 bytes) (length bytes)
unfolding fault_of
later_fault bytes head = rw (le-ltb (length bytes) 32 head) refl

-- a file that hasn't all lengths
pub no_lengths : (file : Option (List ℕ)) (size : ℕ) → option_map length file ≡ Some size → size < 32 → IsSomeAnd file (λ bytes. read_of bytes ≡ Err size)
no_lengths None size e short = no_size size e
no_lengths (Some bytes) size e short =
    let n = same_size bytes size e in
    read_of-fault bytes size (short_fault bytes (omega (arith, n, short)) ∙ ap Some n)

-- lengths that are no lengths of this file
pub bad_lengths : (file : Option (List ℕ)) (size place : ℕ) (words : List ℕ) → option_map length file ≡ Some size → 32 ≤ size → length words ≡ 4
    → IfSome file (λ all. words ≡ words_at 0 (length words) all)
    → lengths_fault (get_or words 0 0) (get_or words 1 0) (get_or words 2 0) (get_or words 3 0) size ≡ Some place
    → IsSomeAnd file (λ bytes. read_of bytes ≡ Err place)
bad_lengths None size place words e head four are fault = no_size size e
bad_lengths (Some bytes) size place words e head four are fault =
    let n = same_size bytes size e in
    let w0 = word_read words bytes 0 are (omega (arith, four)) in
    let w1 = word_read words bytes 1 are (omega (arith, four)) in
    let w2 = word_read words bytes 2 are (omega (arith, four)) in
    let w3 = word_read words bytes 3 are (omega (arith, four)) in
    read_of-fault bytes place (later_fault bytes (omega (arith, n, head)) ∙ rw (w0, w1, w2, w3, n) fault)

-- lengths that fit
pub good_lengths : (file : Option (List ℕ)) (size : ℕ) (words : List ℕ) → option_map length file ≡ Some size → 32 ≤ size → length words ≡ 4
    → IfSome file (λ all. words ≡ words_at 0 (length words) all)
    → IsSized (get_or words 0 0) (get_or words 1 0) (get_or words 2 0) (get_or words 3 0) size
    → IsSomeAnd file (λ bytes. (length bytes ≡ size)
    × (read_of bytes ≡ Ok (tapes_at (get_or words 0 0) (get_or words 1 0) (get_or words 2 0) (get_or words 3 0) bytes)))
good_lengths None size words e head four are sized = no_size size e
good_lengths (Some bytes) size words e head four are sized =
    let n = same_size bytes size e in
    let w0 = word_read words bytes 0 are (omega (arith, four)) in
    let w1 = word_read words bytes 1 are (omega (arith, four)) in
    let w2 = word_read words bytes 2 are (omega (arith, four)) in
    let w3 = word_read words bytes 3 are (omega (arith, four)) in
    let sound : IsSound bytes = record { head = omega (arith, n, head); sized = rw (w0, w1, w2, w3, n) sized } in
    (n, read_of-sound bytes sound ∙ rw (w0, w1, w2, w3) refl)

-- ---- the same of an own tape's file

own_short_fault : (wanted : ℕ) (bytes : List ℕ) → length bytes < 8 → own_fault_of wanted bytes ≡ Some (length bytes)
unfolding own_fault_of
own_short_fault wanted bytes short = rw (lt-ltb (length bytes) 8 short) refl

own_later_fault : (wanted : ℕ) (bytes : List ℕ) → 8 ≤ length bytes → own_fault_of wanted bytes ≡ own_length_fault wanted (word_at 0 bytes) (length bytes)
unfolding own_fault_of
own_later_fault wanted bytes head = rw (le-ltb (length bytes) 8 head) refl

pub no_length : (wanted : ℕ) (file : Option (List ℕ)) (size : ℕ) → option_map length file ≡ Some size → size < 8
    → IsSomeAnd file (λ bytes. read_own_of wanted bytes ≡ Err size)
no_length wanted None size e short = no_size size e
no_length wanted (Some bytes) size e short =
    let n = same_size bytes size e in
    read_own_of-fault wanted bytes size (own_short_fault wanted bytes (omega (arith, n, short)) ∙ ap Some n)

pub bad_length : (wanted : ℕ) (file : Option (List ℕ)) (size place : ℕ) (words : List ℕ) → option_map length file ≡ Some size → 8 ≤ size → length words ≡ 1
    → IfSome file (λ all. words ≡ words_at 0 (length words) all) → own_length_fault wanted (get_or words 0 0) size ≡ Some place
    → IsSomeAnd file (λ bytes. read_own_of wanted bytes ≡ Err place)
bad_length wanted None size place words e head one are fault = no_size size e
bad_length wanted (Some bytes) size place words e head one are fault =
    let n = same_size bytes size e in
    let w0 = word_read words bytes 0 are (omega (arith, one)) in
    read_own_of-fault wanted bytes place (own_later_fault wanted bytes (omega (arith, n, head)) ∙ rw (w0, n) fault)

pub good_length : (wanted : ℕ) (file : Option (List ℕ)) (size : ℕ) (words : List ℕ) → option_map length file ≡ Some size → 8 ≤ size → length words ≡ 1
    → IfSome file (λ all. words ≡ words_at 0 (length words) all) → IsOwnSized wanted (get_or words 0 0) size
    → IsSomeAnd file (λ bytes. (length bytes ≡ size) × (read_own_of wanted bytes ≡ Ok (words_at 8 wanted bytes)))
good_length wanted None size words e head one are sized = no_size size e
good_length wanted (Some bytes) size words e head one are sized =
    let n = same_size bytes size e in
    let w0 = word_read words bytes 0 are (omega (arith, one)) in
    let long : word_at 0 bytes ≡ wanted = w0 ∙ sized.same in
    let exact : size ≡ 8 + 8 * wanted = sized.exact in
    let sound : IsOwnSound wanted bytes = record { head = omega (arith, n, head); len = long; short = sized.short; size = n ∙ exact } in
    (n, read_own_of-sound wanted bytes sound ∙ ap (λ (m : ℕ). Ok (words_at 8 m bytes)) long)
