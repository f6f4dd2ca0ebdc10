-- Tapes that are drawn from a seed by ChaCha20.
use Rattle.std.specs.Prelude.{ℕ, ◌+◌, ◌*◌, ◌^◌, List, map}
use Rattle.std.specs.List.{range_with_len}
use Rattle.rand_chacha.specs.ChaCha.{key_of, word_at}
use Rattle.tape_file.specs.Tapes.{FourTapes}

-- a word of a stream of ChaCha20, whose 20 rounds are 10 double rounds
unfoldable pub stream_word : List ℕ → ℕ → ℕ → ℕ
stream_word seed stream place = word_at 10 (key_of seed) stream place

-- word k of a party's tape: word 2k of its stream is the low half, word 2k+1 the high half
unfoldable pub seed_word : List ℕ → ℕ → ℕ → ℕ
seed_word seed party k = stream_word seed party (2 * k) + 2 ^ 32 * stream_word seed party (2 * k + 1)

-- a party's tape of this many words
abbrev pub seed_tape : List ℕ → ℕ → ℕ → List ℕ
seed_tape seed party words = map (seed_word seed party) (range_with_len 0 words)

-- the tapes of all parties, the dealer being party 0
abbrev pub seed_tapes : List ℕ → ℕ → FourTapes
seed_tapes seed words = record {
  dealer = seed_tape seed 0 words;
  one = seed_tape seed 1 words;
  two = seed_tape seed 2 words;
  three = seed_tape seed 3 words;
}
