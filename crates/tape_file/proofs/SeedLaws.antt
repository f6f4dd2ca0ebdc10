-- A tape from a seed grows by a word.
use Rattle.std.proofs.Common.{◌≡◌, ℕ, ◌+◌, ◌*◌, ◌^◌, List, [], ◌∷◌, ◌++◌, refl, sym, ◌∙◌, arith}
use Rattle.std.proofs.lemmas.List.FromFn.{map-range_with_len_more}
use Rattle.rand_chacha.specs.ChaCha.{key_of, word_at}
use Rattle.tape_file.specs.Seeds.{seed_tape, seed_word, stream_word}

-- the two words that the generator gives next are the halves of word k
seed_word-next : (seed key : List ℕ) (party stream k place : ℕ) → key ≡ key_of seed → stream ≡ party → place ≡ 2 * k
    → word_at 10 key stream place + 2 ^ 32 * word_at 10 key stream (place + 1) ≡ seed_word seed party k
unfolding seed_word stream_word
seed_word-next seed key party stream k place ek es ep = rw (ek, es, ep) refl

-- one more word
pub seed_tape-more : (seed key tape : List ℕ) (party stream k place word : ℕ) → tape ≡ seed_tape seed party k → key ≡ key_of seed → stream ≡ party
    → place ≡ 2 * k
    → word ≡ word_at 10 key stream place + 2 ^ 32 * word_at 10 key stream (place + 1) → tape ++ word ∷ [] ≡ seed_tape seed party (k + 1)
seed_tape-more seed key tape party stream k place word et ek es ep ew =
    let next = ew ∙ seed_word-next seed key party stream k place ek es ep in
    rw (et, next) (sym (map-range_with_len_more (seed_word seed party) 0 k k (omega arith)))
