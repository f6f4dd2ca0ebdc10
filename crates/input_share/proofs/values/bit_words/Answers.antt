use Rattle.std.proofs.Common.{false}
use Rattle.value_file.proofs.Loops.{built-all, built-more}
use Rattle.input_share.specs.Values.{bit_word}
use Rattle.input_share.proofs.values.bit_words.Goals as goal

pub loop-bit-preserved : goal.loop-bit-preserved
loop-bit-preserved c =
    built-more bit_word _ _ _ c.args.bits.now c.loop-bit.bit-index false c.loop-bit-test.true c.loop-bit.invariant c.in_ok-push.ensures.items c.bit_word.ensures

pub returns : goal.returns
returns c = built-all bit_word c.loop-bit.words.items c.args.bits.now c.loop-bit.bit-index c.loop-bit-test.false c.loop-bit.invariant
