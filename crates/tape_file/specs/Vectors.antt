-- Worked values of the form of tape files.
use Rattle.std.specs.Prelude.{◌≡◌, List, ℕ, [], ◌∷◌, Ok, Err, refl}
use Rattle.tape_file.specs.Format.{word_at, word_bytes, words_at, own_bytes, own_fault_of, own_length_fault, read_own_of, read_of, fault_of}

-- the file of an own tape of one word, 258
abbrev one_word : List ℕ
one_word = 1 ∷ 0 ∷ 0 ∷ 0 ∷ 0 ∷ 0 ∷ 0 ∷ 0 ∷ 2 ∷ 1 ∷ 0 ∷ 0 ∷ 0 ∷ 0 ∷ 0 ∷ 0 ∷ []

pub one_word-written : own_bytes (258 ∷ []) ≡ one_word
unfolding own_bytes word_bytes
one_word-written = refl

pub one_word-read : read_own_of 1 one_word ≡ Ok (258 ∷ [])
unfolding read_own_of own_fault_of own_length_fault word_at words_at
one_word-read = refl

pub one_word-for_two : read_own_of 2 one_word ≡ Err 0
unfolding read_own_of own_fault_of own_length_fault word_at words_at
one_word-for_two = refl

pub too_short : read_of one_word ≡ Err 16
unfolding read_of fault_of
too_short = refl
