use Rattle.std.proofs.Common.{◌<◌, ◌∙◌, length, take, ap, rules, arith}
use Rattle.std.proofs.lemmas.List.{length-set, take_more_set}
use Rattle.rand_chacha.specs.ChaCha.{ChaCha}
use Rattle.tape_sources.proofs.Parties.{seed_words-more}
use Rattle.tape_sources.proofs.seeded.make_words.Goals as goal

pub loop-k-preserved : goal.loop-k-preserved
loop-k-preserved c =
    let l = c.loop-k in
    let e = c.next_tape_word.ensures in
    let there : c.loop-k.k < length c.loop-k.into = search rules in
    record {
      size = length-set l.into l.k c.next_tape_word.result ∙ l.invariant.size;
      words = λ seed party from s.
          take_more_set l.into l.k c.next_tape_word.result there
          ∙ seed_words-more seed l.rng.key (take l.k l.into) party from l.k l.rng.stream l.rng.word_pos c.next_tape_word.result
          (l.invariant.words seed party from s) (l.invariant.key ∙ s.key) (l.invariant.stream ∙ s.stream) (omega (arith, l.invariant.place, s.place)) e.word;
      key = ap (λ (g : ChaCha). g.key) e.place ∙ l.invariant.key;
      stream = ap (λ (g : ChaCha). g.stream) e.place ∙ l.invariant.stream;
      place = ap (λ (g : ChaCha). g.word_pos) e.place ∙ omega (arith, l.invariant.place);
    }
