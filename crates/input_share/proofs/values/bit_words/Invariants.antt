use Rattle.std.proofs.Common.{◌≡◌, map, take}
use Rattle.input_share.specs.Values.{bit_word}
use Rattle.input_share.proofs.values.bit_words.Given as goal

abbrev pub invariant-loop-bit : goal.invariant-loop-bit
invariant-loop-bit l = l.words.items ≡ map bit_word (take l.bit-index l.bits)
