-- What is promised of packed truth values.
use Rattle.std.specs.Prelude.{◌≡◌, ℕ, ◌+◌, ◌<◌, ◌≤◌, ◌%◌, min, List, [], ◌∷◌, ◌++◌, length, map, set, replicate}
use Rattle.std.specs.List.{zip, flat_map, range_with_len}
use Rattle.std.specs.Int.{bit_at}
use Rattle.proto_core.specs.Words.{AreWords}
use Rattle.proto_core.specs.Rings.{xor_ring}
use Rattle.bit_words.specs.Bits.{words_for, bit_of}
use Rattle.bit_words.specs.Gathered.{word, packed, unpacked, bits_repeated, bit_taken, bit_put, bits_joined}

-- each element is 0 or 1
abbrev pub AreBits : List ℕ → Type 0
AreBits xs = (k : ℕ) → word xs k < 2

abbrev pub each_two : (ℕ → ℕ → ℕ) → List ℕ → List ℕ → List ℕ
each_two f xs ys = map (λ (p : ℕ × ℕ). f p.0 p.1) (zip xs ys)

-- the 64 bits of a word, bit 0 first
abbrev pub word_bits : ℕ → List ℕ
word_bits x = map (bit_at x) (range_with_len 0 64)

-- ---- ELEMENTS AND THEIR WORDS

-- these are the words of n elements
pub record IsPacked (n : ℕ) (words : List ℕ) : Type 0 where
  pub are_words : AreWords words
  pub count : length words ≡ words_for n
  pub no_surplus : (k : ℕ) → n ≤ k → bit_of words k ≡ 0

pub record OperationsKeepElements : Type 0 where
  pub form : (xs : List ℕ) → IsPacked (length xs) (packed xs)
  pub elements : (xs : List ℕ) → AreBits xs → (k : ℕ) → k < length xs → bit_of (packed xs) k ≡ word xs k
  pub read_again : (xs : List ℕ) → AreBits xs → unpacked (packed xs) (length xs) ≡ xs
  pub packed_again : (n : ℕ) (words : List ℕ) → IsPacked n words → packed (unpacked words n) ≡ words
  pub sums : (f : ℕ → ℕ → ℕ) (xs ys : List ℕ) → length xs ≡ length ys
      → ((k : ℕ) → k < length xs → f (word xs k) (word ys k) % 2 ≡ (word xs k + word ys k) % 2)
      → packed (each_two f xs ys) ≡ each_two xor_ring.add (packed xs) (packed ys)
  pub products : (f : ℕ → ℕ → ℕ) (xs ys : List ℕ) → length xs ≡ length ys
      → ((k : ℕ) → k < length xs → f (word xs k) (word ys k) % 2 ≡ min (word xs k % 2) (word ys k % 2) % 2)
      → packed (each_two f xs ys) ≡ each_two xor_ring.mul (packed xs) (packed ys)
  pub flips : (f : ℕ → ℕ) (xs : List ℕ) → ((k : ℕ) → k < length xs → f (word xs k) % 2 ≡ (word xs k + 1) % 2)
      → packed (map f xs) ≡ each_two xor_ring.add (packed xs) (packed (replicate (length xs) 1))
  pub joins : (xs ys : List ℕ) → packed (xs ++ ys) ≡ bits_joined (packed xs) (length xs) (packed ys) (length ys)
  pub repeats : (n x : ℕ) → packed (replicate n x) ≡ bits_repeated (packed (x ∷ [])) n
  pub takes : (xs : List ℕ) (i : ℕ) → AreBits xs → i < length xs → packed (word xs i ∷ []) ≡ bit_taken (packed xs) i
  pub puts : (xs : List ℕ) (i x : ℕ) → i < length xs → packed (set xs i x) ≡ bit_put (packed xs) i (packed (x ∷ []))
  pub spreads : (words : List ℕ) → AreWords words → packed (flat_map word_bits words) ≡ words

-- ---- SHARES

-- three lists of words whose xor, word by word, is a fourth
pub record AddUp (a b c xs : List ℕ) : Type 0 where
  pub first : length a ≡ length xs
  pub second : length b ≡ length xs
  pub third : length c ≡ length xs
  pub words_first : AreWords a
  pub words_second : AreWords b
  pub words_third : AreWords c
  pub sums : (j : ℕ) → j < length xs → xor_ring.add (xor_ring.add (word a j) (word b j)) (word c j) ≡ word xs j

pub record OperationsActOnEachShare : Type 0 where
  pub packs : (a b c xs : List ℕ) → AddUp a b c xs → AddUp (packed a) (packed b) (packed c) (packed xs)
  pub unpacks : (a b c xs : List ℕ) → AddUp a b c xs → (n : ℕ) → AddUp (unpacked a n) (unpacked b n) (unpacked c n) (unpacked xs n)
  pub repeats : (a b c xs : List ℕ) → AddUp a b c xs → (n : ℕ) → AddUp (bits_repeated a n) (bits_repeated b n) (bits_repeated c n) (bits_repeated xs n)
  pub takes : (a b c xs : List ℕ) → AddUp a b c xs → (i : ℕ) → AddUp (bit_taken a i) (bit_taken b i) (bit_taken c i) (bit_taken xs i)
  pub puts : (a b c xs d e f ys : List ℕ) → AddUp a b c xs → AddUp d e f ys → (i : ℕ)
      → AddUp (bit_put a i d) (bit_put b i e) (bit_put c i f) (bit_put xs i ys)
  pub joins : (a b c xs d e f ys : List ℕ) → AddUp a b c xs → AddUp d e f ys → (n m : ℕ)
      → AddUp (bits_joined a n d m) (bits_joined b n e m) (bits_joined c n f m) (bits_joined xs n ys m)
