-- Worked values of frames and hellos.
use Rattle.std.specs.Prelude.{◌≡◌, ℕ, List, [], ◌∷◌, ◌++◌, codes, replicate, Some, None, Ok, Err, refl}
use Rattle.std.specs.Fmt.{digits}
use Rattle.served_bytes.specs.Front.{Whole, Malformed, Truncated}
use Rattle.tape_file.specs.Format.{word_at, word_bytes, words_at}
use Rattle.wire.specs.declared.fields.Hello.{Hello}
use Rattle.wire.specs.declared.fields.Field.TheVariants.{Receiver}
use Rattle.wire.specs.Digests.{budget_line, public_text}
use Rattle.wire.specs.Frames.{frame_bytes, framed, header_of, wrong_at}
use Rattle.wire.specs.Hellos.{first_difference, greeted, hello_bytes, hello_of}

-- the frame of the two words 258 and 2^64 - 1
abbrev two_words : List ℕ
two_words = 1 ∷ 2 ∷ 0 ∷ 0 ∷ 0 ∷ 2 ∷ 1 ∷ 0 ∷ 0 ∷ 0 ∷ 0 ∷ 0 ∷ 0 ∷ 255 ∷ 255 ∷ 255 ∷ 255 ∷ 255 ∷ 255 ∷ 255 ∷ 255 ∷ []

pub two_words-written : frame_bytes (258 ∷ 18446744073709551615 ∷ []) ≡ two_words
unfolding frame_bytes word_bytes
two_words-written = refl

-- with a byte after it
pub two_words-read : framed (two_words ++ 9 ∷ []) ≡ Whole (258 ∷ 18446744073709551615 ∷ []) (9 ∷ [])
unfolding framed header_of word_at words_at
two_words-read = refl

pub words_cut : framed (1 ∷ 2 ∷ 0 ∷ 0 ∷ 0 ∷ 2 ∷ 1 ∷ []) ≡ Truncated
unfolding framed header_of
words_cut = refl

-- four bytes, of which the first is wrong
pub header_cut : framed (7 ∷ 2 ∷ 0 ∷ 0 ∷ []) ≡ Truncated
unfolding framed
header_cut = refl

pub wrong_first : framed (0 ∷ 2 ∷ 0 ∷ 0 ∷ 0 ∷ []) ≡ Malformed 0
unfolding framed header_of
wrong_first = refl

pub no_words : header_of (1 ∷ 0 ∷ 0 ∷ 0 ∷ 0 ∷ []) ≡ Err (wrong_at 1)
unfolding header_of
no_words = refl

pub most_words : header_of (1 ∷ 0 ∷ 8 ∷ 0 ∷ 0 ∷ []) ≡ Ok 2048
unfolding header_of
most_words = refl

-- 2,049 words
pub too_many : header_of (1 ∷ 1 ∷ 8 ∷ 0 ∷ 0 ∷ []) ≡ Err (wrong_at 1)
unfolding header_of
too_many = refl

abbrev a_hello : Hello
a_hello = record { version = 1; sender = 2; receiver = 3; code = replicate 32 7; public = replicate 32 9 }

pub hello-written : hello_bytes a_hello ≡ 0 ∷ 1 ∷ 2 ∷ 3 ∷ replicate 32 7 ++ replicate 32 9
unfolding hello_bytes
hello-written = refl

pub hello-read : greeted (hello_bytes a_hello ++ 1 ∷ []) ≡ Whole a_hello (1 ∷ [])
unfolding greeted hello_bytes hello_of
hello-read = refl

-- sent to another miner, with another digest too: the receiver comes first
pub another_receiver : first_difference a_hello (record a_hello { receiver = 1; code = replicate 32 8 }) ≡ Some Receiver
unfolding first_difference
another_receiver = refl

pub the_same : first_difference a_hello a_hello ≡ None
unfolding first_difference
the_same = refl

pub text_of_public : public_text (codes "{}") 1000 (2 ∷ 3 ∷ 0 ∷ 40 ∷ []) ≡ codes "{}\nbudget 1000 lens 2 3 0 40"
unfolding public_text budget_line digits
text_of_public = refl
