use Rattle.std.proofs.Common.{ap, ◌∙◌, arith}
use Rattle.rand_chacha.specs.ChaCha.{ChaCha}
use Rattle.tape_file.proofs.SeedLaws.{seed_tape-more}
use Rattle.tape_file.proofs.seeds.seed_tape.Goals as goal

pub loop-k-preserved : goal.loop-k-preserved
loop-k-preserved c = record {
  words = c.in_ok-push.ensures.items
      ∙ seed_tape-more c.args.seed c.loop-k.rng.key c.loop-k.tape.items c.args.party c.loop-k.rng.stream c.loop-k._k c.loop-k.rng.word_pos
      c.next_tape_word.result
      c.loop-k.invariant.words c.loop-k.invariant.key c.loop-k.invariant.stream c.loop-k.invariant.place c.next_tape_word.ensures.word;
  key = ap (λ (g : ChaCha). g.key) c.next_tape_word.ensures.place ∙ c.loop-k.invariant.key;
  stream = ap (λ (g : ChaCha). g.stream) c.next_tape_word.ensures.place ∙ c.loop-k.invariant.stream;
  place = ap (λ (g : ChaCha). g.word_pos) c.next_tape_word.ensures.place ∙ omega arith;
}
