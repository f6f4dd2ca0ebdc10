-- Words of a list of bytes, in parts.
use Rattle.std.proofs.Common.{◌≡◌, ℕ, zero, suc, ◌+◌, ◌-◌, ◌*◌, ◌%◌, ◌^◌, ◌<◌, List, ◌∷◌, ◌++◌, length, take, drop, get_or, refl, sym, ap, ◌∙◌, arith}
use Rattle.std.proofs.Math.Nat.{mod-eq_of_lt}
use Rattle.std.proofs.lemmas.List.{drop-drop, drop-take, ext_get_or}
use Rattle.byteorder.specs.Endian.{little_number}
use Rattle.byteorder.specs.Numbers.{little_from-take}
use Rattle.tape_file.specs.Format.{word_at, words_at}
use Rattle.tape_file.proofs.WordLists.{length-words_at}

-- the words of two parts
pub words_at-split : (place m n : ℕ) (bytes : List ℕ) → words_at place (m + n) bytes ≡ words_at place m bytes ++ words_at (place + 8 * m) n bytes
unfolding words_at
words_at-split place zero n bytes =
    let m : 0 + n ≡ n = omega arith in
    let e : place + 8 * 0 ≡ place = omega arith in
    rw (m, e) refl
words_at-split place (suc m) n bytes =
    let ih = words_at-split (place + 8) m n bytes in
    let more : suc m + n ≡ suc (m + n) = omega arith in
    let e : place + 8 + 8 * m ≡ place + 8 * suc m = omega arith in
    rw more (ap (λ (ws : List ℕ). word_at place bytes ∷ ws) (ih ∙ ap (λ (p : ℕ). words_at (place + 8) m bytes ++ words_at p n bytes) e))

-- one of the words
pub get_or-words_at : (place n i : ℕ) (bytes : List ℕ) → i < n → get_or (words_at place n bytes) i 0 ≡ word_at (place + 8 * i) bytes
unfolding words_at
get_or-words_at place zero i bytes lt = absurd (omega arith)
get_or-words_at place (suc n) zero bytes lt =
    let e : place ≡ place + 8 * 0 = omega arith in
    ap (λ (p : ℕ). word_at p bytes) e
get_or-words_at place (suc n) (suc i) bytes lt =
    let e : place + 8 + 8 * i ≡ place + 8 * suc i = omega arith in
    get_or-words_at (place + 8) n i bytes (omega arith) ∙ ap (λ (p : ℕ). word_at p bytes) e

-- a number of 64 bits in the bytes from a place on is the word that stands there
number_there : (from n i word : ℕ) (all bytes : List ℕ) → bytes ≡ take (8 * n) (drop from all) → i < n → word ≡ little_number 8 (drop (8 * i) bytes)
    → word < 2 ^ 64 → word ≡ word_at (from + 8 * i) all
unfolding word_at
number_there from n i word all bytes part lt is fits =
    let long : 8 * n ≡ 8 * i + (8 * n - 8 * i) = omega arith in
    let rest : drop (8 * i) bytes ≡ take (8 * n - 8 * i) (drop (from + 8 * i) all) =
    ap (drop (8 * i)) (part ∙ ap (λ (m : ℕ). take m (drop from all)) long) ∙ drop-take (8 * i) (8 * n - 8 * i) (drop from all)
    ∙ ap (take (8 * n - 8 * i)) (drop-drop (8 * i) from all) in
    let number : word ≡ little_number 8 (drop (from + 8 * i) all) =
    is ∙ ap (little_number 8) rest ∙ little_from-take 0 8 (8 * n - 8 * i) (drop (from + 8 * i) all) (omega arith) in
    sym (mod-eq_of_lt fits) ∙ ap (λ (w : ℕ). w % 2 ^ 64) number

-- numbers that were read of the bytes from a place on are the words there
pub numbers_are_words : (from n : ℕ) (all bytes words : List ℕ) → bytes ≡ take (8 * n) (drop from all) → length words ≡ n
    → ((k : ℕ) → k < length words → get_or words k 0 ≡ little_number 8 (drop (8 * k) bytes)) → ((k : ℕ) → get_or words k 0 < 2 ^ 64)
    → words ≡ words_at from n all
numbers_are_words from n all bytes words part long read fits =
    ext_get_or 0 words (words_at from n all) (long ∙ sym (length-words_at from n all))
    (λ i lt. number_there from n i (get_or words i 0) all bytes part (omega (arith, long, lt)) (read i lt) (fits i)
    ∙ sym (get_or-words_at from n i all (omega (arith, long, lt))))

-- words after words that were read
pub words_more : (from done count : ℕ) (all before now : List ℕ) → before ≡ words_at from done all → now ≡ words_at (from + 8 * done) count all
    → before ++ now ≡ words_at from (done + count) all
words_more from done count all before now first then = rw (first, then) (sym (words_at-split from done count all))
