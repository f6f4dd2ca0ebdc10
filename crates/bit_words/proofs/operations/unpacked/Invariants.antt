use Rattle.std.proofs.Common.{◌≡◌, ◌≤◌, map}
use Rattle.std.specs.List.{range_with_len}
use Rattle.bit_words.specs.Bits.{bit_of}
use Rattle.bit_words.proofs.operations.unpacked.Given as goal

abbrev pub invariant-loop-k : goal.invariant-loop-k
invariant-loop-k l =
    record {
      so_far : l.bits.items ≡ map (bit_of l.fn.words) (range_with_len 0 l.k);
      within : l.k ≤ l.fn.n;
    }
