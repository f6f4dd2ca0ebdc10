use Rattle.std.proofs.Common.{◌≡◌, ◌*◌}
use Rattle.rand_chacha.specs.ChaCha.{key_of}
use Rattle.tape_file.specs.Seeds.{seed_tape}
use Rattle.tape_file.proofs.seeds.seed_tape.Given as goal

abbrev pub invariant-loop-k : goal.invariant-loop-k
invariant-loop-k l = record {
  words : l.tape.items ≡ seed_tape l.fn.seed l.fn.party l._k;
  key : l.rng.key ≡ key_of l.fn.seed;
  stream : l.rng.stream ≡ l.fn.party;
  place : l.rng.word_pos ≡ 2 * l._k;
}
