-- Words that are read from a file, or drawn from a seed, have 64 bits.
use Rattle.std.proofs.Common.{◌≡◌, ℕ, zero, suc, ◌+◌, ◌*◌, ◌^◌, ◌<◌, List, All, Option, Some, None, Ok, IfOk, subst, arith}
use Rattle.std.proofs.Math.Nat.{mod-lt}
use Rattle.std.proofs.lemmas.List.Elements.{All-cons, All-map, All-nil}
use Rattle.std.specs.List.{range_with_len}
use Rattle.rand_chacha.specs.Block.{block_word}
use Rattle.tape_file.specs.Format.{answer_unless, fault_of, own_fault_of, read_of, read_own_of, tapes_at, word_at, words_at}
use Rattle.tape_file.specs.Seeds.{seed_tape, seed_tapes, seed_word, stream_word}
use Rattle.tape_file.specs.Tapes.{AreOfWords, FourTapes, IsWord}

-- ---- read from a file

word_below : (place : ℕ) (bytes : List ℕ) → IsWord (word_at place bytes)
unfolding word_at
word_below place bytes = mod-lt _ (omega arith)

pub words_below : (place count : ℕ) (bytes : List ℕ) → All IsWord (words_at place count bytes)
unfolding words_at
words_below place zero bytes = All-nil IsWord
words_below place (suc count) bytes =
    All-cons IsWord (word_at place bytes) (words_at (place + 8) count bytes) (word_below place bytes) (words_below (place + 8) count bytes)

tapes_below : (d a b c : ℕ) (bytes : List ℕ) → AreOfWords (tapes_at d a b c bytes)
unfolding tapes_at
tapes_below d a b c bytes = record {
  dealer = words_below 32 d bytes;
  one = words_below (32 + 8 * d) a bytes;
  two = words_below (32 + 8 * (d + a)) b bytes;
  three = words_below (32 + 8 * (d + a + b)) c bytes;
}

-- an answer is what it is where there is no fault
answer_is : {X : Type 0} (P : X → Type 0) (fault : Option ℕ) (x y : X) → P x → answer_unless fault x ≡ Ok y → P y
answer_is P None x y h is = subst (λ r. IfOk r P) is h
answer_is P (Some place) x y h is = absurd cc

pub read_of_words : (bytes : List ℕ) (tapes : FourTapes) → read_of bytes ≡ Ok tapes → AreOfWords tapes
unfolding read_of
read_of_words bytes tapes is =
    answer_is AreOfWords (fault_of bytes) (tapes_at (word_at 0 bytes) (word_at 8 bytes) (word_at 16 bytes) (word_at 24 bytes) bytes) tapes
    (tapes_below (word_at 0 bytes) (word_at 8 bytes) (word_at 16 bytes) (word_at 24 bytes) bytes) is

pub own_of_words : (wanted : ℕ) (bytes tape : List ℕ) → read_own_of wanted bytes ≡ Ok tape → All IsWord tape
unfolding read_own_of
own_of_words wanted bytes tape is =
    answer_is (All IsWord) (own_fault_of wanted bytes) (words_at 8 (word_at 0 bytes) bytes) tape (words_below 8 (word_at 0 bytes) bytes) is

-- ---- drawn from a seed

half_below : (seed : List ℕ) (stream place : ℕ) → stream_word seed stream place < 2 ^ 32
unfolding stream_word block_word
half_below seed stream place = mod-lt _ (omega arith)

seed_word_below : (seed : List ℕ) (party k : ℕ) → IsWord (seed_word seed party k)
unfolding seed_word
seed_word_below seed party k =
    let low = half_below seed party (2 * k) in
    let high = half_below seed party (2 * k + 1) in
    omega arith

tape_below : (seed : List ℕ) (party words : ℕ) → All IsWord (seed_tape seed party words)
tape_below seed party words = All-map IsWord (seed_word seed party) (range_with_len 0 words) (λ k d lt. seed_word_below seed party _)

pub seeded_of_words : (seed : List ℕ) (words : ℕ) → AreOfWords (seed_tapes seed words)
seeded_of_words seed words = record {
  dealer = tape_below seed 0 words;
  one = tape_below seed 1 words;
  two = tape_below seed 2 words;
  three = tape_below seed 3 words;
}
