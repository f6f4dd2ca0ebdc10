use Rattle.std.proofs.Common.{length, ℕ, List, ◌≡◌, ◌+◌, ◌*◌, take}
use Rattle.tape_sources.specs.SeedWords.{IsStreamOf, seed_words}
use Rattle.tape_sources.proofs.seeded.make_words.Given as goal

abbrev pub invariant-loop-k : goal.invariant-loop-k
invariant-loop-k l = record {
  size : length l.into ≡ length l.fn.into;
  words : (seed : List ℕ) (party from : ℕ) → IsStreamOf seed party from l.fn.rng → take l.k l.into ≡ seed_words seed party from l.k;
  key : l.rng.key ≡ l.fn.rng.key;
  stream : l.rng.stream ≡ l.fn.rng.stream;
  place : l.rng.word_pos ≡ l.fn.rng.word_pos + 2 * l.k;
}
