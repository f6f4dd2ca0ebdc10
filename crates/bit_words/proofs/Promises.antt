-- The laws of packed truth values.
use Rattle.std.proofs.Common.{ℕ, List, length}
use Rattle.bit_words.specs.Gathered.{packed}
use Rattle.bit_words.specs.Laws.{IsPacked, OperationsKeepElements, OperationsActOnEachShare}
use Rattle.bit_words.proofs.Packing.{length-packed, packed-words, bit_of-packed, none-behind, unpacked-packed, packed-unpacked, packed-xor, packed-and}
use Rattle.bit_words.proofs.Packing.{packed-flip, packed-append, packed-replicate, packed-taken, packed-set, packed-spread}
use Rattle.bit_words.proofs.Sharing.{packed-sum, unpacked-sum, repeated-sum, taken-sum, put-sum, joined-sum}

pub is_packed : (xs : List ℕ) → IsPacked (length xs) (packed xs)
is_packed xs = record { are_words = packed-words xs; count = length-packed xs; no_surplus = none-behind xs }

pub keep_elements : OperationsKeepElements
keep_elements =
    record {
      form = is_packed;
      elements = bit_of-packed;
      read_again = unpacked-packed;
      packed_again = λ n words p. packed-unpacked words n p.are_words p.count (λ k from _. p.no_surplus k from);
      sums = packed-xor;
      products = packed-and;
      flips = packed-flip;
      joins = packed-append;
      repeats = packed-replicate;
      takes = packed-taken;
      puts = packed-set;
      spreads = packed-spread;
    }

pub act_on_each : OperationsActOnEachShare
act_on_each =
    record {
      packs = λ a b c xs t. packed-sum t;
      unpacks = λ a b c xs t. unpacked-sum t;
      repeats = λ a b c xs t. repeated-sum t;
      takes = λ a b c xs t. taken-sum t;
      puts = λ a b c xs d e f ys t u. put-sum t u;
      joins = λ a b c xs d e f ys t u. joined-sum t u;
    }
