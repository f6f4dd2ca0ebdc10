use Rattle.std.proofs.Common.{◌≡◌, ◌≤◌, map}
use Rattle.std.specs.List.{range_with_len}
use Rattle.bit_words.specs.Bits.{word_with, words_for}
use Rattle.bit_words.proofs.bits.words_with.Given as goal

abbrev pub invariant-loop-j : goal.invariant-loop-j
invariant-loop-j g l =
    record {
      so_far : l.words.items ≡ map (word_with l.fn.n (g.B.Bits.bits l.fn.bits)) (range_with_len 0 l.j);
      within : l.j ≤ words_for l.fn.n;
    }
