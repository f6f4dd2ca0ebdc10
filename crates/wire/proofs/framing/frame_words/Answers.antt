use Rattle.std.proofs.Common.{arith}
use Rattle.wire.proofs.FrameLaws.{written}
use Rattle.wire.proofs.framing.frame_words.Goals as goal

pub returns-clause-ok : goal.returns-clause-ok
returns-clause-ok c =
    written c.args.words.now _ _ _ _ _ c.loop-word.word-index c.in_ok-reserve.ensures.items c.header.ensures c.in_ok-extend_from_slice.ensures.items
    c.loop-word.invariant.bytes (omega arith)
