use Rattle.std.proofs.Common.{◌≡◌, ◌≤◌, ◌*◌, ◌+◌}
use Rattle.bit_words.specs.Bits.{number_with, cut_at}
use Rattle.bit_words.proofs.bits.word_with.Given as goal

abbrev pub invariant-loop-k : goal.invariant-loop-k
invariant-loop-k g l =
    record {
      so_far : l.word ≡ number_with l.k (λ i. cut_at l.fn.n (g.B.Bits.bits l.fn.bits) (64 * l.fn.j + i));
      within : l.k ≤ 64;
    }
