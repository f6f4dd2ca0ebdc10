-- The words of a seed's tapes, from any word on.
use Rattle.std.specs.Prelude.{◌≡◌, ℕ, ◌-◌, ◌*◌, ◌<◌, List, [], length, map, nat_le, slice_index, slice_index_or, if◌then◌else◌}
use Rattle.std.specs.List.{range_with_len}
use Rattle.rand_chacha.specs.ChaCha.{ChaCha, key_of}
use Rattle.tape_file.specs.Seeds.{seed_word}

-- so many words of a party's tape, from this one on
abbrev pub seed_words : List ℕ → ℕ → ℕ → ℕ → List ℕ
seed_words seed party from count = map (seed_word seed party) (range_with_len from count)

-- of each of the four tapes, which have so many words, what was not taken
unfoldable pub words_left : List ℕ → ℕ → List ℕ → ℕ → List ℕ
words_left seed words taken party =
    if nat_le party 3 then seed_words seed party (slice_index taken party) (words - slice_index taken party) else []

-- a generator of a party's tape at this word: each word takes two of the generator's
pub record IsStreamOf (seed : List ℕ) (party taken : ℕ) (rng : ChaCha) : Type 0 where
  pub key : rng.key ≡ key_of seed
  pub stream : rng.stream ≡ party
  pub place : rng.word_pos ≡ 2 * taken

-- of each party, at the word that it takes next
abbrev pub AreStreamsOf : (seed taken : List ℕ) → List ChaCha → Type 0
AreStreamsOf seed taken streams = (p : ℕ) (d : ChaCha) → p < length streams → IsStreamOf seed p (slice_index taken p) (slice_index_or streams p d)
